-- Calls by the rule keep the caps within the capacity, and so the link carries them.
use Prim.Native.Nat.{ℕ, ◌*◌, ◌≤◌}
use mathlib.Core.Path.{◌≡◌, refl, sym, ap, subst, ◌∙◌}
use mathlib.Core.Bool.{Bool}
use mathlib.Core.List.{List, [], ◌∷◌}
use mathlib.Core.Option.{Option}
use native.Mathlib.Nat.{le_trans, mul-le-mul_right}
use native.Mathlib.Omega.{arith}
use lib.Dec.{eqb}
use Rattle.rate_params.specs.declared.params.Params.{Params}
use Rattle.rate_params.specs.Params.{least}
use Rattle.model.specs.State.{State, empty, find}
use Rattle.model.specs.Call.{Call, slot}
use Rattle.model.specs.Step.{step}
use Rattle.model.specs.Run.{run, final, is_accepted, params_after}
use Rattle.model.proofs.Entries.{each_at}
use Rattle.model.proofs.Frames.{name_of}
use Rattle.model.proofs.Preserved.{valid-at}
use Rattle.abr.specs.Exports.{Observation, final_words, zeros, AllMatch, neither, both}
use Rattle.abr.proofs.Exports.{exports-are-run}
use Rattle.exports.specs.Returned.{no_member, members_seen}
use Rattle.exports.proofs.Exports.{accepted-seen}
use Rattle.promise_delivery.specs.Calls.{total}
use Rattle.promise_delivery.specs.Turns.{time_passed, slot_of}
use Rattle.promise_delivery.proofs.Lists.{Reached, reach, well}
use Rattle.promise_caps.specs.Known.{Known, cap_by, if_given, load}
use Rattle.promise_caps.specs.Own.{params_in, caps_by, RatesUnder}
use Rattle.promise_caps.specs.Room.{Distinct, CapsAtLeast}
use Rattle.promise_caps.proofs.Own.{own-caps}
use Rattle.promise_caps.proofs.Room.{rooms-kept}
use Rattle.exports_delivery.specs.Obeyed.{known_after, known_seen, known_from}
use Rattle.exports_delivery.specs.Rounds.{Round, last_seen, RoundsRun}
use Rattle.exports_delivery.specs.Delivered.{known_in, RoundsFit}
use Rattle.exports_delivery.specs.Room.{AllInRoom, RoundsInRoom, RoundsAmong, CapsInRoom, MinimumAlways}
use Rattle.exports_delivery.proofs.Obeyed.{found-params, step_given, cap-run, given-first, rates-first, cap-is, rates-are}
use Rattle.exports_delivery.proofs.Rounds.{At, reached-at, turn_of, ran, at_next, at_first}
use Rattle.exports_delivery.proofs.Delivered.{exports-delivered}

-- what is known of a table's names, and its rates under their caps
record Capped (k : ℕ → Known) (q : ℕ → ℕ) (s : State) : Type 0 where
  pub reached : Reached s
  pub known : (v : ℕ) → (k v).given ≡ params_in (find v s.entries)
  pub caps : (v : ℕ) → (k v).cap ≡ q v
  pub under : RatesUnder q s

kept_under : (q : ℕ → ℕ) {s : State} → Reached s → RatesUnder q s → (cs : List Call) → RatesUnder (caps_by q s cs) (final s cs)
kept_under q h u cs = subst (λ (z : State). RatesUnder q z → RatesUnder (caps_by q z cs) (final z cs)) h.is (λ y. (own-caps h.calls).kept q cs y) u

slot-under : (c : ℕ → ℕ) (here : State) (t : ℕ) → Reached here → RatesUnder c here → RatesUnder c (step here (slot t 53)).state
unfolding cap_by
slot-under c here t reached on = kept_under c reached on (slot t 53 ∷ [])

-- the caps are at least the minimums, as the rates are
low-caps : {k : ℕ → Known} {q : ℕ → ℕ} {s : State} → Capped k q s → CapsAtLeast k
low-caps {k} {q} {s} y v p e =
    let c = found-params p (find v s.entries) (sym (y.known v) ∙ e) in
    let d = c.holder in
    let low : least p ≤ d.rate.acr = subst (λ (z : Params). least z ≤ d.rate.acr) c.params (valid-at (well y.reached) v d c.found).1.rates.above in
    let under : d.rate.acr ≤ q v = subst (λ (n : ℕ). d.rate.acr ≤ q n) (name_of v s d c.found) (each_at (λ x. x.rate.acr ≤ q x.name) v s.entries d c.found y.under) in
    omega (arith, low, under, y.caps v)

module _ (capacity : ℕ) (vs : List ℕ) (d : Distinct vs) where
  room-run :
      (k : ℕ → Known) (q : ℕ → ℕ) (s : State) → Capped k q s → total (λ v. load (k v)) vs ≤ capacity → (cs : List Call) (os : List Observation) → AllMatch (run s cs) os
      → AllInRoom capacity vs k cs os → total (λ v. load (known_seen v (k v) cs os)) vs ≤ capacity
  room-run k q s y f [] [] neither h = f
  room-run k q s y f (c ∷ cs) (o ∷ os) (both m ms) h =
      room-run (λ v. known_after v c o (k v)) (caps_by q s (c ∷ [])) (step s c).state
      (record {
        reached = reach y.reached (c ∷ []);
        known = λ v. ap (λ (b : Bool). params_after v c b (k v).given) (accepted-seen (well y.reached) c m) ∙ (ap (params_after v c (is_accepted (step s c).answer)) (y.known v) ∙ sym (step_given v y.reached c));
        caps = λ v. ap (λ (n : ℕ). cap_by v n (k v).given c) (y.caps v) ∙ ap (λ (g : Option Params). cap_by v (q v) g c) (y.known v);
        under = kept_under q y.reached y.under (c ∷ []);
      })
      ((rooms-kept capacity vs k d (low-caps y) f).fits c (eqb o.returned.refusal 0) h.0) cs os ms h.1
  room-run k q s y f [] (o ∷ os) x6 h = elim x6 [ ]
  room-run k q s y f (c ∷ cs) [] x6 h = elim x6 [ ]

  rounds-room :
      (S lag G : ℕ) → capacity * G ≤ 512_000_000_000 → (xs : List Round) (m last : ℕ) (s : State) (t : List ℕ) (f : ℕ → Bool) (k : ℕ → Known) → At s t last f k → RoundsRun S lag m last t xs
      → (q : ℕ → ℕ) → ((v : ℕ) → (k v).cap ≡ q v) → RatesUnder q s → total (λ v. load (k v)) vs ≤ capacity → RoundsInRoom capacity vs k xs → RoundsAmong vs k xs → RoundsFit vs G k xs
  rounds-room S lag G wide [] m last s t f k a h q e u l y z = tt
  rounds-room S lag G wide (x ∷ xs) m last s t f k a h q e u l y z =
      let r = (ran S lag m last s t f k a x h.0).0 in
      let here = final s x.between in
      let next = at_next S lag m last s t f k a x h.0 in
      let c = caps_by q s x.between in
      let fit : total (λ v. load (known_in k x v)) vs ≤ capacity =
      room-run k q s (record { reached = reached-at a; known = a.known; caps = e; under = u }) l x.between x.seen r y.0 in
      let on : RatesUnder c here = kept_under q (reached-at a) u x.between in (
        record { among = z.0; fits = le_trans (mul-le-mul_right G fit) wide },
        rounds-room S lag G wide xs x.now x.passed (slot_of lag s (turn_of x)).state x.sent.table _ (known_in k x) next h.1 c
            (λ v. cap-run v s (reached-at a) (k v) (a.known v) q (e v) x.between x.seen r)
            (slot-under c here (time_passed lag s (turn_of x)) (reach (reached-at a) x.between) on) fit y.1 z.1,
      )

none_first : (capacity : ℕ) (us : List ℕ) → total (λ v. load (known_from [] [] v)) us ≤ capacity
unfolding if_given
none_first capacity [] = omega arith
none_first capacity (u ∷ us) = omega (arith, none_first capacity us)

pub caps-in-room : CapsInRoom
caps-in-room cs os tr capacity vs d h =
    room-run capacity vs d (known_from [] []) (λ u. 0) empty (record { reached = record { calls = []; is = refl }; known = given-first; caps = λ v. refl; under = rates-first })
    (none_first capacity vs) cs os (exports-are-run.each cs os tr) h

pub minimum-always : MinimumAlways
minimum-always cs os tr capacity vs d l S G N A lag m xs h y z wide s few b long =
    (exports-delivered cs os tr vs S lag m xs h).bucket G N A s
    (rounds-room capacity vs d S lag G wide xs m (last_seen 0 cs os) (final empty cs) (final_words zeros os) (members_seen no_member cs os) (known_from cs os) (at_first cs os tr) h
    (caps_by (λ u. 0) empty cs) (cap-is cs os tr) (rates-are cs os tr) l y z)
    few b long
