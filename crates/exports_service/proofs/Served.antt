-- A connection on which something waits is ready in time, and slots reach it, of exported calls.
use Rattle.std.specs.Prelude.{Some}
use Prim.Native.Nat.{ℕ, ◌≤◌, ◌<◌}
use mathlib.Core.Path.{◌≡◌, refl, sym, ap, subst, ◌∙◌}
use mathlib.Core.Bool.{true}
use mathlib.Core.List.{List, [], ◌∷◌}
use mathlib.Core.Option.{Option, none, some}
use native.Mathlib.Omega.{arith}
use lib.ListN.{length}
use Rattle.rate_params.specs.declared.params.Params.{Params}
use Rattle.rate_params.specs.Params.{least}
use Rattle.connection.specs.declared.parts.Connection.{Connection}
use Rattle.connection.specs.declared.parts.Pace.{Pace}
use Rattle.connection.specs.declared.parts.Pace.TheVariants.{Unsent, Running}
use Rattle.connection.specs.Ready.{any_waits, ready_instant}
use Rattle.connection.specs.Parts.{Instant}
use Rattle.model.specs.State.{State, capacity, empty}
use Rattle.model.specs.Call.{Call, Outcome}
use Rattle.model.specs.Step.{step}
use Rattle.model.specs.Run.{run, final}
use Rattle.abr_answers.specs.declared.calls.AbrAllowed.{AbrAllowed}
use Rattle.abr.specs.Contract.{ReturnsAllowed}
use Rattle.abr.specs.Exports.{Observation, Transcript, final_words, zeros}
use Rattle.laws.specs.All.{All}
use Rattle.promise_service.specs.Liveness.{latest_ready, ReadySoon, GoesTo, IsAccepted, Somewhere, here, there, slots, Live}
use Rattle.promise_service.proofs.Liveness.{liveness}
use Rattle.exports.specs.Exports.{params_observed}
use Rattle.exports.specs.Returned.{no_member, member_seen, members_seen, went_to, places_seen}
use Rattle.exports.proofs.Returned.{Knows, knows_after, names-connection, went_to_lem}
use Rattle.exports.proofs.Transport.{Stands, Keeps, stands, was-accepted, carry, nothing, Anything, keeps-nothing}
use Rattle.exports.proofs.Known.{members-known}
use Rattle.exports_rates.specs.Seen.{Seen, seen_of}
use Rattle.exports_rates.proofs.Seen.{connection_seen}
use Rattle.exports_rates.proofs.Held.{OpenUnder, open-under, seen-held}
use Rattle.exports_service.specs.Ready.{waits_seen, ready_seen}
use Rattle.exports_service.specs.Served.{latest_from, latest_seen, ReadyNotAfter, Reaches, ServedSeen, ExportsServed}
use Rattle.exports_service.proofs.Ready.{waits-same, ready-same, trm-held, rate-held}

pub latest-same : (rate : ℕ) (c : Connection) (p : Pace) → latest_ready rate c p ≡ latest_from rate (connection_seen c) p
unfolding latest_ready
latest-same rate c Unsent = refl
latest-same rate c (Running sent forward k turned) = refl

pub ready_by : (rate : ℕ) (c : Connection) (r : Instant) → ready_instant c ≡ r → ReadySoon rate c → ReadyNotAfter r (latest_seen rate (connection_seen c))
ready_by rate c r e h = record { instant = h.instant; ready_at = sym e ∙ h.ready_at; soon = rw (← latest-same rate c c.pace) h.soon }

all_map : (P Q : ℕ → Type 0) → ((t : ℕ) → P t → Q t) → (ts : List ℕ) → All P ts → All Q ts
all_map P Q h [] a = tt
all_map P Q h (t ∷ ts) a = (h t a.0, all_map P Q h ts a.1)

-- a caller knows its members
knows : Keeps member_seen Knows
knows = record { goes = λ s c o f m z. knows_after z.well_formed c f m _ z.accepted }

place : (v : ℕ) (x : Option ℕ) (p : Outcome) (xs : List (Option ℕ)) (ps : List Outcome) → (GoesTo v p → x ≡ some v) → (Somewhere (GoesTo v) ps → Somewhere (λ y. y ≡ some v) xs)
    → Somewhere (GoesTo v) (p ∷ ps) → Somewhere (λ y. y ≡ some v) (x ∷ xs)
place v x p xs ps h r (here g) = here (h g)
place v x p xs ps h r (there g) = there (r g)

nowhere : {P : Outcome → Type 0} {ps : List Outcome} → Somewhere P ps → ps ≡ [] → ⊥
nowhere (here g) e = let z : ◌≡◌ {A = ℕ} 0 1 = cc in omega arith
nowhere (there g) e = let z : ◌≡◌ {A = ℕ} 0 1 = cc in omega arith

module _ (cs : List Call) (os : List Observation) (x : Transcript cs zeros os) (v : ℕ) (p : Params) (e : params_observed v none cs os ≡ some p) where
  abbrev s : State
  s = final empty cs

  st : Stands s (final_words zeros os)
  st = stands cs os x

  held : OpenUnder v p s
  held = open-under cs os x v p e

  abbrev c : Connection
  c = held.holder

  live : Live s v c
  live = liveness cs v c held.found

  seen-is : seen_of v cs os ≡ connection_seen c
  seen-is = seen-held cs os x v c held.found

  waits-is : waits_seen (seen_of v cs os) ≡ true → any_waits c ≡ true
  waits-is w = sym (waits-same c) ∙ sym (ap waits_seen seen-is) ∙ w

  low-is : 0 < least p → 0 < least c.rate.params
  low-is l = subst (λ (q : Params). 0 < least q) (sym held.params) l

  ready-is : (a : AbrAllowed) → ReturnsAllowed v (final_words zeros os) a → ready_instant c ≡ ready_seen p a.acr (seen_of v cs os)
  ready-is a h =
      sym (ready-same c (trm-held cs os x v c held.found))
      ∙ (λ i. ready_seen (held.params i) (sym (rate-held cs os x v a h c held.found) i) (sym seen-is i))

  by-seen : (rate : ℕ) (r : Instant) → ReadyNotAfter r (latest_seen rate (connection_seen c)) → ReadyNotAfter r (latest_seen rate (seen_of v cs os))
  by-seen rate r h = subst (λ (k : Seen). ReadyNotAfter r (latest_seen rate k)) (sym seen-is) h

  reaches :
      (i : ℕ) → ready_instant c ≡ Some i → (ts : List ℕ) → length ts ≡ capacity → All (λ t. i ≤ t) ts → (ps : List Observation) → Transcript (slots ts) (final_words zeros os) ps
      → All (λ o. o.returned.refusal ≡ 0) ps → Reaches cs os v ts ps
  reaches i r ts n late ps y unrefused =
      let f = members_seen no_member cs os in
      let accepted : All IsAccepted (run s (slots ts)) =
      carry nothing Anything keeps-nothing (λ s k cs os. All (λ o. o.returned.refusal ≡ 0) os → All IsAccepted (run s cs)) (λ s k _. tt)
      (λ s c o k cs os m z r h. (was-accepted z h.0, r h.1)) s (final_words zeros os) st 0 tt (slots ts) ps y unrefused in
      carry member_seen Knows knows (λ s f cs os. Somewhere (GoesTo v) (run s cs) → Somewhere (λ x. x ≡ some v) (places_seen f cs os)) (λ s f h. absurd (nowhere h refl))
      (λ s c o f cs os m z r. place v _ (step s c) _ _ (λ g. ap (went_to f) z.matches.returned ∙ went_to_lem f (step s c).answer (names-connection z.well_formed f m c) ∙ g) r)
      s (final_words zeros os) st f (members-known cs os x) (slots ts) ps y (live.served i ts r n late accepted)

  in-time : waits_seen (seen_of v cs os) ≡ true → 0 < least p → ReadyNotAfter (ready_instant c) (latest_seen (least p) (seen_of v cs os))
  in-time w l =
      subst (λ (q : Params). ReadyNotAfter (ready_instant c) (latest_seen (least q) (seen_of v cs os))) held.params
      (by-seen (least c.rate.params) (ready_instant c) (ready_by (least c.rate.params) c (ready_instant c) refl (live.guaranteed (waits-is w) (low-is l))))

  served-seen : ServedSeen cs os v p
  served-seen = record {
    guaranteed = λ w l a h. subst (λ (r : Instant). ReadyNotAfter r (latest_seen (least p) (seen_of v cs os))) (ready-is a h) (in-time w l);
    ready = λ w a h l.
        let k : a.acr ≡ c.rate.acr = rate-held cs os x v a h c held.found in
        by-seen a.acr _ (ready_by a.acr c _ (ready-is a h) (subst (λ (n : ℕ). ReadySoon n c) (sym k) (live.ready (waits-is w) (subst (λ (n : ℕ). 0 < n) k l))));
    served = λ a h i r. reaches i (ready-is a h ∙ r);
    in_time = λ w l ts n late. let b = in-time w l in reaches b.instant b.ready_at ts n (all_map _ (λ t. b.instant ≤ t) (λ t h. omega (arith, b.soon, h)) ts late);
  }

pub exports-served : ExportsServed
exports-served = served-seen
