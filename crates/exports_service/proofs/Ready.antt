-- The ready instant and the kind that a caller computes are those of the connection.
use Prim.Native.Nat.{ℕ, ◌<◌}
use mathlib.Core.Path.{◌≡◌, refl, ap, subst, ◌∙◌}
use mathlib.Core.Bool.{Bool, true, false, cond}
use mathlib.Core.List.{List}
use mathlib.Core.Option.{none}
use Rattle.rate_params.specs.Params.{trm_time}
use Rattle.cell.specs.Name.{no_name}
use Rattle.connection.specs.declared.parts.Connection.{Connection}
use Rattle.connection.specs.declared.parts.Pace.{Pace}
use Rattle.connection.specs.declared.parts.Pace.TheVariants.{Unsent, Running}
use Rattle.connection.specs.declared.kind.Kind.TheVariants.{Forward, Turned, Data}
use Rattle.connection.specs.Ready.{backward_waits, any_waits, last_before, ready_from, ready_instant}
use Rattle.connection.specs.Kind.{kind_number, is_forward, is_turned, kind_at}
use Rattle.model.specs.State.{Entry, free, taken, empty, find}
use Rattle.model.specs.Call.{Call}
use Rattle.model.specs.Queries.{entry_ready}
use Rattle.model.specs.Run.{final}
use Rattle.model.proofs.Given.{entry_params}
use Rattle.model.proofs.Preserved.{valid-at}
use Rattle.model.proofs.Frames.{name_of}
use Rattle.abr_answers.specs.declared.calls.AbrAllowed.{AbrAllowed}
use Rattle.abr.specs.Contract.{ReturnsAllowed}
use Rattle.abr.specs.Exports.{Observation, Transcript, final_words, zeros}
use Rattle.exports.specs.Exports.{params_observed}
use Rattle.exports.proofs.Transport.{stands}
use Rattle.exports.proofs.Known.{params-known}
use Rattle.exports_rates.specs.Seen.{seen_of}
use Rattle.exports_rates.proofs.Seen.{connection_seen}
use Rattle.exports_rates.proofs.Held.{acr-held, given-held, seen-held}
use Rattle.exports_service.specs.Ready.{backward_seen, waits_seen, ready_from_seen, ready_seen, ready_under, kind_from_seen, kind_seen}

module _ (c : Connection) where
  pub waits-same : waits_seen (connection_seen c) ≡ any_waits c
  unfolding any_waits backward_waits
  waits-same = refl

  pub backward-same : backward_seen (connection_seen c) ≡ backward_waits c.destination
  unfolding backward_waits
  backward-same = refl

module _ (c : Connection) (e : c.trm ≡ trm_time c.rate.params.trm) where
  ready-from : (x : Pace) → ready_from_seen c.rate.params c.rate.acr (connection_seen c) x ≡ ready_from c x
  unfolding ready_from any_waits backward_waits last_before
  ready-from Unsent = refl
  ready-from (Running sent forward n turned) = rw e refl

  pub ready-same : ready_seen c.rate.params c.rate.acr (connection_seen c) ≡ ready_instant c
  unfolding ready_instant
  ready-same = rw (ready-from c.pace) refl

  numbers : (a b : Bool) → cond a 1 (cond b 2 3) ≡ kind_number (cond a Forward (cond b Turned Data))
  numbers true b = refl
  numbers false true = refl
  numbers false false = refl

  kind-from : (t : ℕ) (x : Pace) → kind_from_seen c.rate.params t (connection_seen c) x ≡ kind_number (cond (is_forward t c x) Forward (cond (is_turned c x) Turned Data))
  unfolding is_forward is_turned backward_waits
  kind-from t Unsent = refl
  kind-from t (Running sent forward n turned) = rw (← e) (numbers (is_forward t c (Running sent forward n turned)) (is_turned c (Running sent forward n turned)))

  pub kind-same : (t : ℕ) → kind_seen c.rate.params t (connection_seen c) ≡ kind_number (kind_at t c)
  unfolding kind_at
  kind-same t = kind-from t c.pace

-- of a name after calls from the zero table
module _ (cs : List Call) (os : List Observation) (x : Transcript cs zeros os) (v : ℕ) where
  pub trm-held : (c : Connection) → find v (final empty cs).entries ≡ taken c → c.trm ≡ trm_time c.rate.params.trm
  trm-held c f = (valid-at (stands cs os x).well_formed v c f).0.trm_time

  pub coded-held : (c : Connection) → find v (final empty cs).entries ≡ taken c → v < no_name
  coded-held c f = subst (λ (u : ℕ). u < no_name) (name_of v (final empty cs) c f) (valid-at (stands cs os x).well_formed v c f).0.coded

  pub rate-held : (a : AbrAllowed) → ReturnsAllowed v (final_words zeros os) a → (c : Connection) → find v (final empty cs).entries ≡ taken c → a.acr ≡ c.rate.acr
  rate-held a h c f = ap (λ (r : AbrAllowed). r.acr) (acr-held (stands cs os x) v c f a h)

  pub ready_held : (a : AbrAllowed) → (v < no_name → ReturnsAllowed v (final_words zeros os) a)
      → ready_under (params_observed v none cs os) a.acr (seen_of v cs os) ≡ entry_ready (find v (final empty cs).entries)
  unfolding entry_ready entry_params
  ready_held a h = go (find v (final empty cs).entries) refl
    where
      go : (y : Entry) → find v (final empty cs).entries ≡ y → ready_under (params_observed v none cs os) a.acr (seen_of v cs os) ≡ entry_ready y
      go free f = rw (params-known cs os x v ∙ ap entry_params f) refl
      go (taken c) f = rw (given-held cs os x v c f, rate-held a (h (coded-held c f)) c f, seen-held cs os x v c f) (ready-same c (trm-held c f))
