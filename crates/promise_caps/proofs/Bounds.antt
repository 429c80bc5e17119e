-- The debt is never more than a sum, and than what a bucket holds.
use Prim.Native.Nat.{ℕ, ◌+◌, ◌-◌, ◌*◌, ◌/◌, ◌≤◌}
use mathlib.Core.Path.{◌≡◌, refl, subst}
use mathlib.Core.Bool.{Bool, true, false, cond}
use mathlib.Core.List.{List, [], ◌∷◌, ◌++◌}
use native.Mathlib.Nat.{le_refl, le_trans, add-mul, mul-le-mul_right}
use native.Mathlib.Omega.{arith}
use lib.Dec.{eqb, leb, ltb}
use Rattle.model.specs.State.{State, Entry, free, taken, empty, find}
use Rattle.model.specs.Call.{Call, slot}
use Rattle.model.specs.Run.{final}
use Rattle.model.proofs.Reached.{final-append}
use Rattle.promise_delivery.specs.Calls.{opens_name, opens_of, total, if_open, is_open}
use Rattle.promise_delivery.specs.Turns.{time_passed, slot_of, AllOnTime, opens_in}
use Rattle.promise_delivery.proofs.Total.{total_mono, total-add}
use Rattle.promise_delivery.proofs.Lists.{opens-append, open-final, Reached, reach, well}
use Rattle.promise_caps.specs.Capped.{rise}
use Rattle.promise_caps.specs.Lag.{CapTurn, turns_of, CapTurnsFit, raised_at, new_at, open_of, bucket_level, slots_after, debt_at, debt_after, debt_from, AllLong, AllNear, AllInBucket, rises_in, behind_caps, rise_count, count_in, behind_count, CapsLag}
use Rattle.promise_caps.proofs.Counted.{rise-most, total-sum, total_right}
use Rattle.promise_caps.proofs.Lag.{busy-from, turns-on}

-- at each slot the debt is at most k
abbrev AllMost : (k : ℕ) (vs : List ℕ) (q : ℕ → ℕ) (S G lag m debt : ℕ) → State → List CapTurn → Type 0
AllMost k vs q S G lag m debt s [] = Unit
AllMost k vs q S G lag m debt s (x ∷ xs) =
    let d = debt_at vs q S G lag m debt s x in
    (d ≤ k) × AllMost k vs x.cap S G lag x.turn.now (debt_after vs G lag d s x) (slot_of lag s x.turn).state xs

module _ (k : ℕ) (vs : List ℕ) (S G lag : ℕ) where
  most-long : (xs : List CapTurn) (q : ℕ → ℕ) (m debt : ℕ) (s : State) → k ≤ lag → AllMost k vs q S G lag m debt s xs → AllLong vs q S G lag m debt s xs
  most-long [] q m debt s l h = tt
  most-long (x ∷ xs) q m debt s l h = (le_trans h.0 l, most-long xs x.cap x.turn.now _ (slot_of lag s x.turn).state l h.1)

  most-near : (xs : List CapTurn) (q : ℕ → ℕ) (m debt : ℕ) (s : State) → AllMost k vs q S G lag m debt s xs → AllNear vs q S G lag m debt s xs → AllOnTime k lag s (turns_of xs)
  most-near [] q m debt s h n = tt
  most-near (x ∷ xs) q m debt s h n = (
    record { undelayed = n.0.undelayed; near = more x.turn.now (time_passed lag s x.turn) (debt_at vs q S G lag m debt s x) n.0.near h.0 },
    most-near xs x.cap x.turn.now _ (slot_of lag s x.turn).state h.1 n.1,
  )
    where
      more : (a b d : ℕ) → a ≤ b + d → d ≤ k → a ≤ b + k
      more a b d h l = omega arith

-- the debt at a slot, by its values where it goes on and where it starts again
at_all : (P : ℕ → Type 0) (vs : List ℕ) (q : ℕ → ℕ) (S G lag m debt : ℕ) (s : State) (x : CapTurn) → P (bucket_level vs q S G debt s x) → P (slots_after vs G lag s x - (G - S)) → P (debt_at vs q S G lag m debt s x)
unfolding debt_at
at_all P vs q S G lag m debt s x h l = go (leb x.turn.now (m + S))
  where
    go : (b : Bool) → P (cond b (bucket_level vs q S G debt s x) (slots_after vs G lag s x - (G - S)))
    go true = h
    go false = l

after-most : (vs : List ℕ) (G lag d k : ℕ) (s : State) (x : CapTurn) → open_of vs (slot_of lag s x.turn).state * G ≤ k → d ≤ k → debt_after vs G lag d s x ≤ k
unfolding debt_after
after-most vs G lag d k s x h l = go (eqb (time_passed lag s x.turn) x.turn.now)
  where
    go : (b : Bool) → cond b (open_of vs (slot_of lag s x.turn).state * G) d ≤ k
    go true = h
    go false = l

after-least : (vs : List ℕ) (G lag d k : ℕ) (s : State) (x : CapTurn) → k ≤ open_of vs (slot_of lag s x.turn).state * G → k ≤ d → k ≤ debt_after vs G lag d s x
unfolding debt_after
after-least vs G lag d k s x h l = go (eqb (time_passed lag s x.turn) x.turn.now)
  where
    go : (b : Bool) → k ≤ cond b (open_of vs (slot_of lag s x.turn).state * G) d
    go true = h
    go false = l

-- no more is open after a turn than was, and was opened
open_after : (v lag : ℕ) (s : State) → Reached s → (x : CapTurn) → is_open (slot_of lag s x.turn).state v ≤ is_open s v + opens_of v x.turn.between
unfolding opens_name
open_after v lag s h x =
    let last : List Call = slot (time_passed lag s x.turn) 53 ∷ [] in
    let o = open-final v s (well h) (x.turn.between ++ last) in
    omega (
      arith,
      opens-append v x.turn.between last,
      subst (λ (z : State). is_open z v ≤ is_open s v + opens_of v (x.turn.between ++ last)) (final-append s x.turn.between last) o,
    )

reach-on : (lag : ℕ) {s : State} → Reached s → (x : CapTurn) → Reached (slot_of lag s x.turn).state
reach-on lag h x = reach (reach h x.turn.between) (slot _ 53 ∷ [])

module _ (vs : List ℕ) (S lag k : ℕ) where
  abbrev coming : (q : ℕ → ℕ) → State → List CapTurn → ℕ
  coming q s xs = total (λ v. opens_in v (turns_of xs) * S + rises_in v S lag q s xs) vs

  sum-most :
      (xs : List CapTurn) (q : ℕ → ℕ) (m debt : ℕ) (s : State) → Reached s → open_of vs s * S ≤ debt → debt + coming q s xs ≤ k → AllMost k vs q S S lag m debt s xs
  sum-most [] q m debt s h o l = tt
  sum-most (x ∷ xs) q m debt s h o l =
      let t = (slot_of lag s x.turn).state in
      let new : ℕ → ℕ = λ v. opens_of v x.turn.between * S + raised_at v S q s x in
      let rest : ℕ → ℕ = λ v. opens_in v (turns_of xs) * S + rises_in v S lag x.cap t xs in
      let d = debt_at vs q S S lag m debt s x in
      let most = debt + new_at vs S q s x in
      let c = total-add new rest (λ v. opens_in v (turns_of (x ∷ xs)) * S + rises_in v S lag q s (x ∷ xs)) (λ v. omega (arith, add-mul (opens_of v x.turn.between) (opens_in v (turns_of xs)) S)) vs in
      let j : debt + new_at vs S q s x + coming x.cap t xs ≤ k = adds debt (total new vs) (total rest vs) (coming q s (x ∷ xs)) k c l in
      let p = total_mono (λ v. is_open t v * S) (λ v. is_open s v * S + new v) (λ v. opens v) vs in
      let u : open_of vs t * S ≤ most =
      opened (open_of vs t * S) (total (λ v. is_open t v * S) vs) (open_of vs s * S) (total (λ v. is_open s v * S) vs) (total new vs) (total (λ v. is_open s v * S + new v) vs) debt
      (total_right (is_open t) S vs) (total_right (is_open s) S vs) (total-sum (λ v. is_open s v * S) new vs) p o in
      let e : d ≤ most = at_all (λ (n : ℕ). n ≤ most) vs q S S lag m debt s x (whole most S).1 (le_trans (whole (open_of vs t * S) S).1 u) in
      let g : open_of vs t * S ≤ d = at_all (λ (n : ℕ). open_of vs t * S ≤ n) vs q S S lag m debt s x (le_trans u (whole most S).0) (whole (open_of vs t * S) S).0 in
      let a : debt_after vs S lag d s x ≤ d = after-most vs S lag d d s x g (le_refl d) in (
        at_most d most (coming x.cap t xs) k e j,
        sum-most xs x.cap x.turn.now (debt_after vs S lag d s x) t (reach-on lag h x) (after-least vs S lag d (open_of vs t * S) s x (le_refl _) g)
            (stays (debt_after vs S lag d s x) d most (coming x.cap t xs) k a e j),
      )
    where
      whole : (a S : ℕ) → (a ≤ a - (S - S)) × (a - (S - S) ≤ a)
      whole a S = (omega arith, omega arith)

      opens : (v : ℕ) → is_open (slot_of lag s x.turn).state v * S ≤ is_open s v * S + (opens_of v x.turn.between * S + raised_at v S q s x)
      opens v = omega (arith, mul-le-mul_right S (open_after v lag s h x), add-mul (is_open s v) (opens_of v x.turn.between) S)

      adds : (debt n c w k : ℕ) → n + c ≤ w → debt + w ≤ k → debt + n + c ≤ k
      adds debt n c w k h l = omega arith

      opened : (t a s b n c debt : ℕ) → a ≡ t → b ≡ s → c ≡ b + n → a ≤ c → s ≤ debt → t ≤ debt + n
      opened t a s b n c debt e f g h l = omega arith

      at_most : (d a c k : ℕ) → d ≤ a → a + c ≤ k → d ≤ k
      at_most d a c k e h = omega arith

      stays : (b d a c k : ℕ) → b ≤ d → d ≤ a → a + c ≤ k → b + c ≤ k
      stays b d a c k h e l = omega arith

-- a bucket
module _ (vs : List ℕ) (S G N A lag late : ℕ) where
  bucket-most :
      (xs : List CapTurn) (q : ℕ → ℕ) (level m debt : ℕ) (s : State) → debt ≤ late + N * G + level → AllInBucket vs q S G N A lag level s xs
      → AllMost (late + N * G + A) vs q S G lag m debt s xs
  bucket-most [] q level m debt s l h = tt
  bucket-most (x ∷ xs) q level m debt s l h =
      let t = (slot_of lag s x.turn).state in
      let d = debt_at vs q S G lag m debt s x in
      let e = bucket_level vs q S G level s x in
      let o : open_of vs t * G ≤ late + N * G + e = few (open_of vs t * G) (N * G) late e (mul-le-mul_right G (omega (arith, h.1))) in
      let j : d ≤ late + N * G + e =
      at_all (λ (n : ℕ). n ≤ late + N * G + e) vs q S G lag m debt s x (both debt level (new_at vs G q s x) (G - S) (late + N * G) l) (less (open_of vs t * G) (G - S) (late + N * G + e) o) in (
        fits d (late + N * G) e A j h.0,
        bucket-most xs x.cap e x.turn.now (debt_after vs G lag d s x) t (after-most vs G lag d (late + N * G + e) s x o j) h.2,
      )
    where
      both : (d l c f b : ℕ) → d ≤ b + l → (d + c) - f ≤ b + ((l + c) - f)
      both d l c f b h = omega arith

      less : (a f b : ℕ) → a ≤ b → a - f ≤ b
      less a f b h = omega arith

      fits : (d b e a : ℕ) → d ≤ b + e → e ≤ a → d ≤ b + a
      fits d b e a h l = omega arith

      few : (o n l e : ℕ) → o ≤ n → o ≤ l + n + e
      few o n l e h = omega arith

-- a rise is at most a slot
rise-counted : (u a b : ℕ) (x : Entry) → if_open x (rise u a b) ≤ if_open x (rise_count a b) * u
unfolding if_open rise rise_count
rise-counted u a b free = omega arith
rise-counted u a b (taken d) = go (ltb a b) (rise-most u a b)
  where
    go : (z : Bool) → cond z ((u * (b - a) + (b - 1)) / b) 0 ≤ u → cond z ((u * (b - a) + (b - 1)) / b) 0 ≤ cond z 1 0 * u
    go true h = omega (arith, h)
    go false h = omega arith

rises-counted : (v S lag : ℕ) (q : ℕ → ℕ) (s : State) (xs : List CapTurn) → rises_in v S lag q s xs ≤ count_in v lag q s xs * S
rises-counted v S lag q s [] = omega arith
rises-counted v S lag q s (x ∷ xs) =
    let t = (slot_of lag s x.turn).state in
    omega (
      arith,
      rise-counted S (q v) (x.cap v) (find v s.entries),
      rises-counted v S lag x.cap t xs,
      add-mul (if_open (find v s.entries) (rise_count (q v) (x.cap v))) (count_in v lag x.cap t xs) S,
    )

caps-count : (vs : List ℕ) (q : ℕ → ℕ) (S lag m : ℕ) (s : State) (xs : List CapTurn) → behind_caps vs q S lag m s xs ≤ behind_count vs q S lag m s xs
caps-count vs q S lag m s xs =
    let n : ℕ → ℕ = λ v. is_open s v + opens_in v (turns_of xs) + count_in v lag q s xs in
    let l = total_mono (λ v. (is_open s v + opens_in v (turns_of xs)) * S + rises_in v S lag q s xs) (λ v. n v * S)
    (λ v. omega (arith, rises-counted v S lag q s xs, add-mul (is_open s v + opens_in v (turns_of xs)) (count_in v lag q s xs) S)) vs in
    omega (arith, l, total_right n S vs)

pub caps-lag : CapsLag
caps-lag cs vs q S lag m xs = record {
  by_debt = λ G wide f l. near G wide f l;
  by_sum = λ long f. summing k (le_refl k) long f;
  by_count = λ long f. summing (behind_count vs q S lag m s xs) (caps-count vs q S lag m s xs) long f;
  by_bucket = λ G N A wide f few b long.
      let most = bucket-most vs S G N A lag (m - s.last) xs q 0 m (debt_from vs G m s) s (omega (arith, mul-le-mul_right G few)) b in
      most-near ((m - s.last) + N * G + A) vs S G lag xs q m (debt_from vs G m s) s most
      (near G wide f (most-long ((m - s.last) + N * G + A) vs S G lag xs q m (debt_from vs G m s) s long most));
}
  where
    s : State
    s = final empty cs

    reached : Reached s
    reached = record { calls = cs; is = refl }

    k : ℕ
    k = behind_caps vs q S lag m s xs

    near : (G : ℕ) → S ≤ G → CapTurnsFit vs S G lag m s xs → AllLong vs q S G lag m (debt_from vs G m s) s xs → AllNear vs q S G lag m (debt_from vs G m s) s xs
    near G wide f l = turns-on vs S G lag wide xs m (debt_from vs G m s) q s (busy-from vs S G m q s reached) f l

    summed : debt_from vs S m s + total (λ v. opens_in v (turns_of xs) * S + rises_in v S lag q s xs) vs ≤ k
    summed =
        let c = total-add (λ v. is_open s v * S) (λ v. opens_in v (turns_of xs) * S + rises_in v S lag q s xs) (λ v. (is_open s v + opens_in v (turns_of xs)) * S + rises_in v S lag q s xs)
        (λ v. omega (arith, add-mul (is_open s v) (opens_in v (turns_of xs)) S)) vs in
        omega (arith, c, total_right (is_open s) S vs)

    summing : (j : ℕ) → k ≤ j → j ≤ lag → CapTurnsFit vs S S lag m s xs → AllOnTime j lag s (turns_of xs)
    summing j h long f =
        let most = sum-most vs S lag j xs q m (debt_from vs S m s) s reached (omega arith) (le_trans summed h) in
        most-near j vs S S lag xs q m (debt_from vs S m s) s most (near S (le_refl S) f (most-long j vs S S lag xs q m (debt_from vs S m s) s long most))
