-- Rounds whose rates are held, whose peaks fit, or whose own caps fit, are turns that are on time.
use Prim.Native.Nat.{ℕ, ◌+◌, ◌-◌, ◌*◌, ◌≤◌}
use mathlib.Core.Path.{◌≡◌, refl, sym, ap, subst, ◌∙◌}
use mathlib.Core.Bool.{Bool, true}
use mathlib.Core.List.{List, [], ◌∷◌}
use mathlib.Core.Option.{Option}
use native.Mathlib.Nat.{le_trans}
use native.Mathlib.Omega.{arith}
use Rattle.rate_params.specs.declared.params.Params.{Params}
use Rattle.connection.specs.declared.parts.Connection.{Connection}
use Rattle.model.specs.State.{State, Entry, free, taken, empty, find}
use Rattle.model.specs.Call.{Call}
use Rattle.model.specs.Queries.{entry_acr}
use Rattle.model.specs.Run.{final}
use Rattle.model.proofs.Frames.{name_of}
use Rattle.model.proofs.Preserved.{valid-at}
use Rattle.abr_answers.specs.declared.calls.AbrAllowed.{AbrAllowed}
use Rattle.abr.specs.Exports.{Observation, Transcript, final_words, zeros}
use Rattle.exports.specs.Returned.{no_member, members_seen}
use Rattle.promise_delivery.specs.Calls.{opens_of, total, is_in, OpenAmong, if_open, is_open, open_rates}
use Rattle.promise_delivery.specs.Turns.{slot_of, TurnFits, opens_in}
use Rattle.promise_delivery.proofs.Lists.{well}
use Rattle.promise_caps.specs.Capped.{rise}
use Rattle.promise_caps.specs.Lag.{CapTurn, turns_of as cap_turns, open_of as open_in, new_at, bucket_level as level_in, rise_count, count_in, behind_count, AllInBucket}
use Rattle.promise_caps.specs.Fixed.{TurnsFit, behind_at}
use Rattle.promise_caps.specs.Known.{Known, if_given}
use Rattle.promise_caps.specs.Own.{params_in, caps_by, own_turns, OwnTurnFits, OwnTurnsFit}
use Rattle.promise_caps.specs.Served.{Delivers, CapsDeliveredFrom}
use Rattle.promise_caps.proofs.Fixed.{total-same}
use Rattle.promise_caps.proofs.Own.{each-found, own-caps}
use Rattle.promise_caps.proofs.Served.{caps-delivered}
use Rattle.exports_delivery.specs.Obeyed.{known_from}
use Rattle.exports_delivery.specs.Rounds.{Round, last_seen, RoundRuns, RoundsRun, turns_in, RoundsDelivered}
use Rattle.exports_delivery.specs.Delivered.{known_in, slots_for, LinkFits, RoundHeld, RatesHeld, PeakFits, PeaksFit, caps_of, RoundsFit, rises_seen, poured, bucket_at, slots_for_open, InBucket, early, behind, behind_rising, ExportsDelivered}
use Rattle.exports_delivery.proofs.Obeyed.{cap-run, cap-is, rates-are}
use Rattle.exports_delivery.proofs.Rounds.{At, reached-at, turn_of, still-fit, ran, reached-here, still-is, acr-at, plain, soon-is, known-here, at_next, at_first, rounds-delivered}

-- a number for what is open
given-open : (g : Option Params) (y : Entry) (n : ℕ) → g ≡ params_in y → if_given g n ≡ if_open y n
unfolding if_given if_open
given-open g free n e = ap (λ (z : Option Params). if_given z n) e
given-open g (taken d) n e = ap (λ (z : Option Params). if_given z n) e

module _ (S lag m last : ℕ) (s : State) (t : List ℕ) (f : ℕ → Bool) (k : ℕ → Known) (a : At s t last f k) (x : Round) (h : RoundRuns S lag m last t x) where
  abbrev here : State
  here = final s x.between

  open-here : (v n : ℕ) → if_given (known_in k x v).given n ≡ if_open (find v here.entries) n
  open-here v n = given-open (known_in k x v).given (find v here.entries) n (known-here S lag m last s t f k a x h v)

  module _ (vs : List ℕ) (r : ℕ → ℕ) (G : ℕ) (l : LinkFits vs r G (known_in k x)) where
    fits-here : open_rates vs r here * G ≤ 512_000_000_000
    fits-here =
        subst (λ (n : ℕ). n * G ≤ 512_000_000_000) (total-same (λ v. if_given (known_in k x v).given (r v)) (λ v. if_open (find v here.entries) (r v)) (λ v. open-here v (r v)) vs) l.fits

    among-here : OpenAmong vs here
    among-here =
        each-found (λ d. is_in d.name vs ≡ true) here.entries (well (reached-here S lag m last s t f k a x h)).unique (λ u d e.
        ap (λ (n : ℕ). is_in n vs) (name_of u here d e) ∙ l.among u d.rate.params (known-here S lag m last s t f k a x h u ∙ ap params_in e))

    -- each rate under its cap
    turn-fits : ((u : ℕ) (d : Connection) → find u here.entries ≡ taken d → d.rate.acr ≤ r u) → TurnFits vs r S G m s (turn_of x)
    turn-fits q = record {
      others = (plain S lag m last s t f k a x h).others;
      timely = (plain S lag m last s t f k a x h).timely;
      in_range = (plain S lag m last s t f k a x h).in_range;
      soon = soon-is S lag m last s t f k a x h;
      held = record {
        among = among-here;
        rates = each-found (λ d. d.rate.acr ≤ r d.name) here.entries (well (reached-here S lag m last s t f k a x h)).unique (λ u d e.
            subst (λ (n : ℕ). d.rate.acr ≤ r n) (sym (name_of u here d e)) (q u d e));
      };
      fits = fits-here;
      fitted = still-fit vs r G x.between s (well (reached-at a)) (still-is S lag m last s t f k a x h);
    }

  held_fits : (vs : List ℕ) (r : ℕ → ℕ) → RoundHeld vs r S (known_in k x) x → TurnFits vs r S S m s (turn_of x)
  unfolding entry_acr
  held_fits vs r y = turn-fits vs r S y.link (λ u d e. subst (λ (n : ℕ). n ≤ r u) (ap (λ (z : AbrAllowed). z.acr) (acr-at S lag m last s t f k a x h u d e)) (y.rates u))

  peak-fits : (vs : List ℕ) (r : ℕ → ℕ) → PeakFits vs r S (known_in k x) → TurnFits vs r S S m s (turn_of x)
  peak-fits vs r y =
      turn-fits vs r S y.link (λ u d e.
      le_trans (valid-at (well (reached-here S lag m last s t f k a x h)) u d e).1.rates.below (y.peaks u d.rate.params (known-here S lag m last s t f k a x h u ∙ ap params_in e)))

  -- the caps of the backward cells
  module _ (q : ℕ → ℕ) (same : (v : ℕ) → (k v).cap ≡ q v) where
    caps-here : (v : ℕ) → (known_in k x v).cap ≡ caps_by q s x.between v
    caps-here v = cap-run v s (reached-at a) (k v) (a.known v) q (same v) x.between x.seen (ran S lag m last s t f k a x h).0

    own-fits : (vs : List ℕ) (G : ℕ) → LinkFits vs (caps_of (known_in k x)) G (known_in k x) → OwnTurnFits vs (caps_by q s x.between) S G m s (turn_of x)
    own-fits vs G l =
        let z = plain S lag m last s t f k a x h in
        let r = caps_by q s x.between in
        let e = total-same (λ v. if_open (find v here.entries) (known_in k x v).cap) (λ v. if_open (find v here.entries) (r v)) (λ v. ap (if_open (find v here.entries)) (caps-here v)) vs in
        record {
          others = z.others;
          timely = z.timely;
          in_range = z.in_range;
          soon = soon-is S lag m last s t f k a x h;
          among = among-here vs (caps_of (known_in k x)) G l;
          fits = subst (λ (n : ℕ). n * G ≤ 512_000_000_000) e (fits-here vs (caps_of (known_in k x)) G l);
          fitted = still-fit vs r G x.between s (well (reached-at a)) (still-is S lag m last s t f k a x h);
        }

    rise-is : (v : ℕ) (n : ℕ → ℕ → ℕ) → if_given (k v).given (n (k v).cap (known_in k x v).cap) ≡ if_open (find v s.entries) (n (q v) (caps_by q s x.between v))
    rise-is v n =
        given-open (k v).given (find v s.entries) (n (k v).cap (known_in k x v).cap) (a.known v)
        ∙ (ap (λ (c : ℕ). if_open (find v s.entries) (n c (known_in k x v).cap)) (same v) ∙ ap (λ (c : ℕ). if_open (find v s.entries) (n (q v) c)) (caps-here v))

-- All rounds.
module _ (S lag : ℕ) where
  rounds-held :
      (vs : List ℕ) (r : ℕ → ℕ) (xs : List Round) (m last : ℕ) (s : State) (t : List ℕ) (f : ℕ → Bool) (k : ℕ → Known) → At s t last f k → RoundsRun S lag m last t xs
      → RatesHeld vs r S k xs → TurnsFit vs r S lag m s (turns_in xs)
  rounds-held vs r [] m last s t f k a h y = tt
  rounds-held vs r (x ∷ xs) m last s t f k a h y = (
    held_fits S lag m last s t f k a x h.0 vs r y.0,
    rounds-held vs r xs x.now x.passed (slot_of lag s (turn_of x)).state x.sent.table _ (known_in k x) (at_next S lag m last s t f k a x h.0) h.1 y.1,
  )

  rounds-peaks :
      (vs : List ℕ) (r : ℕ → ℕ) (xs : List Round) (m last : ℕ) (s : State) (t : List ℕ) (f : ℕ → Bool) (k : ℕ → Known) → At s t last f k → RoundsRun S lag m last t xs
      → PeaksFit vs r S k xs → TurnsFit vs r S lag m s (turns_in xs)
  rounds-peaks vs r [] m last s t f k a h y = tt
  rounds-peaks vs r (x ∷ xs) m last s t f k a h y = (
    peak-fits S lag m last s t f k a x h.0 vs r y.0,
    rounds-peaks vs r xs x.now x.passed (slot_of lag s (turn_of x)).state x.sent.table _ (known_in k x) (at_next S lag m last s t f k a x h.0) h.1 y.1,
  )

  rounds-own :
      (vs : List ℕ) (G : ℕ) (xs : List Round) (m last : ℕ) (s : State) (t : List ℕ) (f : ℕ → Bool) (k : ℕ → Known) → At s t last f k → RoundsRun S lag m last t xs → (q : ℕ → ℕ)
      → ((v : ℕ) → (k v).cap ≡ q v) → RoundsFit vs G k xs → OwnTurnsFit vs q S G lag m s (turns_in xs)
  rounds-own vs G [] m last s t f k a h q e y = tt
  rounds-own vs G (x ∷ xs) m last s t f k a h q e y = (
    own-fits S lag m last s t f k a x h.0 q e vs G y.0,
    rounds-own vs G xs x.now x.passed (slot_of lag s (turn_of x)).state x.sent.table _ (known_in k x) (at_next S lag m last s t f k a x h.0) h.1 (caps_by q s x.between)
        (caps-here S lag m last s t f k a x h.0 q e) y.1,
  )

  rises-are :
      (v : ℕ) (xs : List Round) (m last : ℕ) (s : State) (t : List ℕ) (f : ℕ → Bool) (k : ℕ → Known) → At s t last f k → RoundsRun S lag m last t xs → (q : ℕ → ℕ)
      → ((v : ℕ) → (k v).cap ≡ q v) → rises_seen v k xs ≡ count_in v lag q s (own_turns lag q s (turns_in xs))
  rises-are v [] m last s t f k a h q e = refl
  rises-are v (x ∷ xs) m last s t f k a h q e =
      omega (
        arith,
        rise-is S lag m last s t f k a x h.0 q e v rise_count,
        rises-are v xs x.now x.passed (slot_of lag s (turn_of x)).state x.sent.table _ (known_in k x) (at_next S lag m last s t f k a x h.0) h.1 (caps_by q s x.between)
            (caps-here S lag m last s t f k a x h.0 q e),
      )

  rounds-bucket :
      (vs : List ℕ) (G N A level : ℕ) (xs : List Round) (m last : ℕ) (s : State) (t : List ℕ) (f : ℕ → Bool) (k : ℕ → Known) → At s t last f k → RoundsRun S lag m last t xs → (q : ℕ → ℕ)
      → ((v : ℕ) → (k v).cap ≡ q v) → InBucket vs S G N A level k xs → AllInBucket vs q S G N A lag level s (own_turns lag q s (turns_in xs))
  rounds-bucket vs G N A level [] m last s t f k a h q e y = tt
  rounds-bucket vs G N A level (x ∷ xs) m last s t f k a h q e y =
      let z : CapTurn = record { turn = turn_of x; cap = caps_by q s x.between } in
      let next = at_next S lag m last s t f k a x h.0 in
      let n = (slot_of lag s (turn_of x)).state in
      let new : poured vs G k x ≡ new_at vs G q s z =
      total-same (λ v. opens_of v x.between * G + if_given (k v).given (rise G (k v).cap (known_in k x v).cap))
      (λ v. opens_of v x.between * G + if_open (find v s.entries) (rise G (q v) (caps_by q s x.between v)))
      (λ v. ap (λ (c : ℕ). opens_of v x.between * G + c) (rise-is S lag m last s t f k a x h.0 q e v (rise G))) vs in
      let level-is : bucket_at vs S G level k x ≡ level_in vs q S G level s z = ap (λ (c : ℕ). (level + c) - (G - S)) new in
      let open_is : slots_for_open vs (known_in k x) ≡ open_in vs n =
      total-same (λ v. slots_for (known_in k x v)) (is_open n) (λ v. omega (arith, given-open (known_in k x v).given (find v n.entries) 1 (next.known v))) vs in (
        subst (λ (c : ℕ). c ≤ A) level-is y.0,
        subst (λ (c : ℕ). c ≤ N) open_is y.1,
        subst (λ (c : ℕ). AllInBucket vs (caps_by q s x.between) S G N A lag c n (own_turns lag (caps_by q s x.between) n (turns_in xs))) level-is
            (rounds-bucket vs G N A (bucket_at vs S G level k x) xs x.now x.passed n x.sent.table _ (known_in k x) next h.1 (caps_by q s x.between)
            (caps-here S lag m last s t f k a x h.0 q e) y.2),
      )

module _ (cs : List Call) (os : List Observation) (tr : Transcript cs zeros os) (vs : List ℕ) (S lag m : ℕ) (xs : List Round) (h : RoundsRun S lag m (last_seen 0 cs os) (final_words zeros os) xs) where
  abbrev first : State
  first = final empty cs

  abbrev start : At first (final_words zeros os) (last_seen 0 cs os) (members_seen no_member cs os) (known_from cs os)
  start = at_first cs os tr

  abbrev caps : ℕ → ℕ
  caps = caps_by (λ u. 0) empty cs

  abbrev whole : ℕ → Type 0
  whole j = Delivers first j lag (turns_in xs) → RoundsDelivered cs os j xs

  delivered : (j : ℕ) → whole j
  delivered j y = rounds-delivered cs os tr S lag m j xs h y

  open-first : (v : ℕ) → slots_for (known_from cs os v) ≡ is_open first v
  open-first v = omega (arith, given-open (known_from cs os v).given (find v first.entries) 1 (start.known v))

  early-is : early cs os m ≡ m - first.last
  early-is = ap (λ (l : ℕ). m - l) start.time

  behind-is : behind cs os vs S m xs ≡ behind_at vs S m first (turns_in xs)
  behind-is =
      ap (λ (e : ℕ). e + total (λ v. slots_for (known_from cs os v) + opens_in v (turns_in xs)) vs * S) early-is
      ∙ ap (λ (n : ℕ). (m - first.last) + n * S)
      (total-same (λ v. slots_for (known_from cs os v) + opens_in v (turns_in xs)) (λ v. is_open first v + opens_in v (turns_in xs)) (λ v. omega (arith, open-first v)) vs)

  abbrev own : List CapTurn
  own = own_turns lag caps first (turns_in xs)

  rising-is : behind_rising cs os vs S m xs ≡ behind_count vs caps S lag m first own
  rising-is =
      ap (λ (e : ℕ). e + total (λ v. slots_for (known_from cs os v) + opens_in v (turns_in xs) + rises_seen v (known_from cs os) xs) vs * S) early-is
      ∙ ap (λ (n : ℕ). (m - first.last) + n * S)
      (total-same (λ v. slots_for (known_from cs os v) + opens_in v (turns_in xs) + rises_seen v (known_from cs os) xs) (λ v. is_open first v + opens_in v (cap_turns own) + count_in v lag caps first own)
      (λ v. omega (
        arith,
        open-first v,
        ap (opens_in v) ((own-caps cs).same caps lag (turns_in xs)),
        rises-are S lag v xs m (last_seen 0 cs os) first (final_words zeros os) (members_seen no_member cs os) (known_from cs os) start h caps (cap-is cs os tr),
      )) vs)

  own-turns : (G : ℕ) → RoundsFit vs G (known_from cs os) xs → OwnTurnsFit vs caps S G lag m first (turns_in xs)
  own-turns G y = rounds-own S lag vs G xs m (last_seen 0 cs os) first (final_words zeros os) (members_seen no_member cs os) (known_from cs os) start h caps (cap-is cs os tr) y

pub exports-delivered : ExportsDelivered
exports-delivered cs os tr vs S lag m xs h = record {
  held = λ r long y.
      subst (λ (j : ℕ). RoundsDelivered cs os j xs) (sym b) (out _ (d.fixed r (subst (λ (j : ℕ). j ≤ lag) b long)
      (rounds-held S lag vs r xs m (last_seen 0 cs os) s (final_words zeros os) (members_seen no_member cs os) (known_from cs os) (at_first cs os tr) h y)));
  at_peaks = λ r long y.
      subst (λ (j : ℕ). RoundsDelivered cs os j xs) (sym b) (out _ (d.fixed r (subst (λ (j : ℕ). j ≤ lag) b long)
      (rounds-peaks S lag vs r xs m (last_seen 0 cs os) s (final_words zeros os) (members_seen no_member cs os) (known_from cs os) (at_first cs os tr) h y)));
  counted = λ long y.
      let e = rising-is cs os tr vs S lag m xs h in
      subst (λ (j : ℕ). RoundsDelivered cs os j xs) (sym e) (out _ (d.counted (caps_by (λ u. 0) empty cs) (rates-are cs os tr) (own-turns cs os tr vs S lag m xs h S y) (subst (λ (j : ℕ). j ≤ lag) e long)));
  bucket = λ G N A wide y few z long.
      let e = early-is cs os tr vs S lag m xs h in
      let o = total-same (λ v. slots_for (known_from cs os v)) (is_open s) (open-first cs os tr vs S lag m xs h) vs in
      subst (λ (j : ℕ). RoundsDelivered cs os (j + N * G + A) xs) (sym e) (out _ (d.bucket (caps_by (λ u. 0) empty cs) G N A wide (rates-are cs os tr) (own-turns cs os tr vs S lag m xs h G y)
      (subst (λ (n : ℕ). n ≤ N) o few)
      (rounds-bucket S lag vs G N A 0 xs m (last_seen 0 cs os) s (final_words zeros os) (members_seen no_member cs os) (known_from cs os) (at_first cs os tr) h (caps_by (λ u. 0) empty cs) (cap-is cs os tr) z)
      (subst (λ (j : ℕ). j + N * G + A ≤ lag) e long)));
}
  where
    s : State
    s = final empty cs

    d : CapsDeliveredFrom s vs S lag m (turns_in xs)
    d = caps-delivered cs vs S lag m (turns_in xs)

    b : behind cs os vs S m xs ≡ behind_at vs S m s (turns_in xs)
    b = behind-is cs os tr vs S lag m xs h

    out : (j : ℕ) → Delivers s j lag (turns_in xs) → RoundsDelivered cs os j xs
    out j y = delivered cs os tr vs S lag m xs h j y
