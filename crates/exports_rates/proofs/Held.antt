-- A name that is open by what a caller knows has a connection in the table, with its parameters, what is kept of
-- it, and what abr_acr returns for it.
use Prim.Native.Nat.{ℕ}
use mathlib.Core.Path.{◌≡◌, refl, sym, ap, ◌∙◌}
use mathlib.Core.Bool.{Bool, true, false, cond}
use mathlib.Core.List.{List}
use mathlib.Core.Option.{none, some}
use native.Mathlib.Omega.{arith}
use lib.Dec.{eqb}
use Rattle.rate_params.specs.declared.params.Params.{Params}
use Rattle.connection.specs.declared.parts.Connection.{Connection}
use Rattle.model.specs.State.{State, Entry, free, taken, empty, find}
use Rattle.model.specs.Answers.{Rate}
use Rattle.model.specs.Call.{Call}
use Rattle.model.specs.Queries.{entry_acr, acr_of}
use Rattle.model.specs.Run.{final, allowed}
use Rattle.model.proofs.Given.{entry_params}
use Rattle.abr_answers.specs.declared.calls.AbrAllowed.{AbrAllowed}
use Rattle.abr_answers.specs.Calls.{allowed_of}
use Rattle.abr.specs.Contract.{ReturnsAllowed}
use Rattle.abr.specs.Exports.{Observation, Transcript, zeros}
use Rattle.exports.specs.Exports.{params_observed, rate_returned}
use Rattle.exports.proofs.Exports.{acr-rate}
use Rattle.exports.proofs.Transport.{Stands, acr-seen}
use Rattle.exports.proofs.Known.{Held, params-known}
use Rattle.exports_rates.specs.Seen.{seen_of}
use Rattle.exports_rates.proofs.Seen.{entry_seen, connection_seen, seen-so}

-- the connection that a rate is read of
pub held-read : {s : State} {l : List ℕ} → Stands s l → (v : ℕ) (a : AbrAllowed) → ReturnsAllowed v l a → a.refusal ≡ 0 → Held v s
unfolding acr_of entry_acr
held-read {s} st v a h z = go (find v s.entries) refl (acr-seen st v a h)
  where
    go : (x : Entry) → find v s.entries ≡ x → a ≡ allowed_of (entry_acr x) → Held v s
    go free e q = absurd (omega (arith, ap (λ (r : AbrAllowed). r.refusal) q, z))
    go (taken c) e q = record { holder = c; found = e }

pub acr-held : {s : State} {l : List ℕ} → Stands s l → (v : ℕ) (c : Connection) → find v s.entries ≡ taken c → (a : AbrAllowed) → ReturnsAllowed v l a → a ≡ allowed_of (Rate c.rate.acr c.change)
unfolding acr_of entry_acr
acr-held st v c e a h = acr-seen st v a h ∙ ap (λ (x : Entry). allowed_of (entry_acr x)) e

-- the rate alone, as one that may be none
pub rate-seen : {s : State} {l : List ℕ} → Stands s l → (v : ℕ) (a : AbrAllowed) → ReturnsAllowed v l a → rate_returned a ≡ allowed v s
rate-seen {s} st v a h = ap rate_returned (acr-seen st v a h) ∙ acr-rate s v

pub rate-is : (a : AbrAllowed) (n : ℕ) → rate_returned a ≡ some n → n ≡ a.acr
rate-is a n e = go (eqb a.refusal 0) e
  where
    go : (b : Bool) → cond b (some a.acr) none ≡ some n → n ≡ a.acr
    go true e = cc
    go false e = let z : ◌≡◌ {A = ℕ} 0 1 = cc in absurd (omega arith)

-- that is open by the calls and what they returned
pub record OpenUnder (v : ℕ) (p : Params) (s : State) : Type 0 where
  pub holder : Connection
  pub found : find v s.entries ≡ taken holder
  pub params : holder.rate.params ≡ p

module _ (cs : List Call) (os : List Observation) (t : Transcript cs zeros os) (v : ℕ) where
  pub open-under : (p : Params) → params_observed v none cs os ≡ some p → OpenUnder v p (final empty cs)
  unfolding entry_params
  open-under p e = go (find v (final empty cs).entries) refl (sym (params-known cs os t v) ∙ e)
    where
      go : (x : Entry) → find v (final empty cs).entries ≡ x → entry_params x ≡ some p → OpenUnder v p (final empty cs)
      go free f q = let z : ◌≡◌ {A = ℕ} 0 1 = cc in absurd (omega arith)
      go (taken c) f q = record { holder = c; found = f; params = cc }

  pub given-held : (c : Connection) → find v (final empty cs).entries ≡ taken c → params_observed v none cs os ≡ some c.rate.params
  unfolding entry_params
  given-held c e = params-known cs os t v ∙ ap entry_params e

  pub seen-held : (c : Connection) → find v (final empty cs).entries ≡ taken c → seen_of v cs os ≡ connection_seen c
  unfolding entry_seen
  seen-held c e = seen-so v cs os t ∙ ap entry_seen e
