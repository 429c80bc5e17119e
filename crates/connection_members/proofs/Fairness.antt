-- In any stretch of slots through which two members of a path have data, their data cells differ by at most 1.
use Prim.Native.Nat.{ℕ, ◌+◌, ◌≤◌, ◌<◌}
use mathlib.Core.Path.{◌≡◌, refl, sym, ap, ◌∙◌}
use mathlib.Core.Bool.{Bool, true, false, cond, ◌&&◌}
use mathlib.Core.List.{List, [], ◌∷◌}
use mathlib.Core.Option.{Option, none, some}
use native.Mathlib.Nat.{le_trans}
use native.Mathlib.Omega.{arith}
use lib.Dec.{leb, ltb}
use borrow.Author.Tests.{leb-true, leb-false, eq-eqb, ne_eqb, le-leb, lt-leb, lt-ltb, le-ltb}
use Rattle.cell.specs.Name.{name_from, vpi_in}
use Rattle.connection_members.specs.Path.{path_of}
use Rattle.connection_members.specs.Members.{Member, cells_of}
use Rattle.connection_members.specs.Turn.{first_from, or_else, turn, last_after}
use Rattle.connection_members.specs.Invariant.{Rising}
use Rattle.connection_members.specs.Fairness.{turn_of, times_served, BothWait, Fair}
use Rattle.connection_members.proofs.Names.{named_again}
use Rattle.connection_members.proofs.Turns.{Found, found, first_found, first-picks, turn-picks}

turn-yes : (x y : ℕ) → y ≡ x → turn_of x (some y) ≡ 1
unfolding turn_of
turn-yes x y e = rw (eq-eqb y x e)

turn-not : (x y : ℕ) → (y ≡ x → ⊥) → turn_of x (some y) ≡ 0
unfolding turn_of
turn-not x y e = rw (ne_eqb y x e)

-- 1 if the last name served is a or lies between a and b: then b comes before a
pub ahead : (a b last : ℕ) → ℕ
ahead a b q = cond (leb a q && ltb q b) 1 0

pub ahead-most : (a b q : ℕ) → ahead a b q ≤ 1
unfolding ahead
ahead-most a b q = go (leb a q && ltb q b)
  where
    go : (t : Bool) → cond t 1 0 ≤ 1
    go true = omega arith
    go false = omega arith

between : (a b q : ℕ) → a ≤ q → q < b → ahead a b q ≡ 1
unfolding ahead
between a b q l u = rw (le-leb a q l, lt-ltb q b u)

under : (a b q : ℕ) → q < a → ahead a b q ≡ 0
unfolding ahead
under a b q l = rw (lt-leb a q l)

over : (a b q : ℕ) → b ≤ q → ahead a b q ≡ 0
unfolding ahead
over a b q l = rw (le-ltb q b l) (and-false (leb a q))
  where
    and-false : (t : Bool) → ◌≡◌ {A = ℕ} (cond (t && false) 1 0) 0
    and-false true = refl
    and-false false = refl

data Order (x y : ℕ) : Type 0 where
  less : x < y → Order x y
  equal : x ≡ y → Order x y
  more : y < x → Order x y

order : (x y : ℕ) → Order x y
order x y = go (leb y x) (leb x y) refl refl
  where
    go : (a b : Bool) → leb y x ≡ a → leb x y ≡ b → Order x y
    go false b p q = less (leb-false y x p)
    go true false p q = more (leb-false x y q)
    go true true p q = equal (omega (arith, leb-true y x p, leb-true x y q))

clash : (x y : ℕ) → x ≡ y → x < y → ⊥
clash x y q k = omega arith

-- one turn, for two members a and b, where a is the lower: the last name served was q, and now it is x
data Phase (a b q : ℕ) : Option ℕ → Type 0 where
  phase : (x : ℕ) → turn_of a (some x) + ahead a b q ≡ turn_of b (some x) + ahead a b x → Phase a b q (some x)

-- a comes first: whoever is served is a, or lies below a
low-phase : (a b : ℕ) → a < b → (q : ℕ) → ahead a b q ≡ 0 → {low : ℕ} {o : Option ℕ} → Found low a o → Phase a b q o
low-phase a b h q e (found x l u) = phase x (go (order x a))
  where
    go : Order x a → turn_of a (some x) + ahead a b q ≡ turn_of b (some x) + ahead a b x
    go (less k) = rw (turn-not a x (λ z. clash x a z k), e, turn-not b x (λ z. clash x b z (le_trans k (omega arith))), under a b x k)
    go (equal k) = rw (turn-yes a x k, e, turn-not b x (λ z. clash a b (sym k ∙ z) h), between a b x (omega arith) (omega arith))
    go (more k) = absurd (omega (arith, u, k))

-- b comes first: whoever is served is b, or lies between the two
high-phase : (a b q : ℕ) → a ≤ q → q < b → {o : Option ℕ} → Found (q + 1) b o → Phase a b q o
high-phase a b q l u (found x m n) = phase x (go (order x b))
  where
    go : Order x b → turn_of a (some x) + ahead a b q ≡ turn_of b (some x) + ahead a b x
    go (less k) =
        rw (turn-not a x (λ e. clash a x (sym e) (omega arith)), between a b q l u, turn-not b x (λ e. clash x b e k), between a b x (omega arith) k)
    go (equal k) = rw (turn-not a x (λ e. clash a x (sym e) (omega arith)), between a b q l u, turn-yes b x k, over a b x (omega arith))
    go (more k) = absurd (omega (arith, n, k))

first-phase :
    (v a b q : ℕ) → a < b → (ms : List Member) → Rising ms → path_of a ≡ v → path_of b ≡ v → 0 < cells_of a ms → 0 < cells_of b ms
    → Phase a b q (or_else (first_from v (q + 1) ms) (first_from v 0 ms))
unfolding or_else
first-phase v a b q h ms r pa pb da db = go (leb a q) (leb b q) refl refl
  where
    first : (z : Option ℕ) {o : Option ℕ} {low y : ℕ} → Found low y o → or_else o z ≡ o
    first z (found x l u) = refl

    beyond : (x : ℕ) → b < x → b ≤ q → turn_of a (some x) + ahead a b q ≡ turn_of b (some x) + ahead a b x
    beyond x k m =
        rw (turn-not a x (λ e. clash a x (sym e) (omega arith)), over a b q m, turn-not b x (λ e. clash b x (sym e) k), over a b x (omega arith))

    after-b : b ≤ q → (o : Option ℕ) → first_from v (q + 1) ms ≡ o → Phase a b q (or_else o (first_from v 0 ms))
    after-b m none e = low-phase a b h q (over a b q m) (first_found v 0 a ms r pa (omega arith) da)
    after-b m (some x) e = phase x (beyond x (omega (arith, (first-picks v (q + 1) ms x e).from)) m)

    before-b : a ≤ q → q < b → Phase a b q (or_else (first_from v (q + 1) ms) (first_from v 0 ms))
    before-b l u = let f = first_found v (q + 1) b ms r pb (omega arith) db in rw (first (first_from v 0 ms) f) (high-phase a b q l u f)

    go : (s t : Bool) → leb a q ≡ s → leb b q ≡ t → Phase a b q (or_else (first_from v (q + 1) ms) (first_from v 0 ms))
    go false t c d =
        let k = leb-false a q c in
        let f = first_found v (q + 1) a ms r pa (omega (arith, k)) da in
        rw (first (first_from v 0 ms) f) (low-phase a b h q (under a b q k) f)
    go true false c d = before-b (leb-true a q c) (leb-false b q d)
    go true true c d = after-b (leb-true b q d) (first_from v (q + 1) ms) refl

-- one data slot: each turn of a moves the last name served to a or beyond it, each turn of b to b or beyond it
pub turn-ahead :
    (v a b q : ℕ) → a < b → (ms : List Member) → Rising ms → path_of a ≡ v → path_of b ≡ v → 0 < cells_of a ms → 0 < cells_of b ms
    → turn_of a (turn v q ms) + ahead a b (name_from (vpi_in v) q) ≡ turn_of b (turn v q ms) + ahead a b (name_from (vpi_in v) (last_after (turn v q ms) q))
unfolding turn last_after
turn-ahead v a b q h ms r pa pb da db = go (turn v q ms) refl (first-phase v a b (name_from (vpi_in v) q) h ms r pa pb da db)
  where
    go : (o : Option ℕ) → turn v q ms ≡ o → Phase a b (name_from (vpi_in v) q) o
        → turn_of a o + ahead a b (name_from (vpi_in v) q) ≡ turn_of b o + ahead a b (name_from (vpi_in v) (last_after o q))
    go _ e (phase x z) = rw (named_again v x (turn-picks v q ms x e).path) z

-- ---- a stretch

-- the last VCI served after it
last_of : (path last : ℕ) → List (List Member) → ℕ
last_of v q [] = q
last_of v q (ms ∷ slots) = last_of v (last_after (turn v q ms) q) slots

slots-ahead :
    (v a b q : ℕ) → a < b → path_of a ≡ v → path_of b ≡ v → (slots : List (List Member)) → BothWait a b slots
    → times_served v a q slots + ahead a b (name_from (vpi_in v) q) ≡ times_served v b q slots + ahead a b (name_from (vpi_in v) (last_of v q slots))
unfolding times_served last_of
slots-ahead v a b q h pa pb [] w = refl
slots-ahead v a b q h pa pb (ms ∷ slots) w =
    chain (turn_of a (turn v q ms)) (turn_of b (turn v q ms)) _ _ _ _ _ (turn-ahead v a b q h ms w.0.0 pa pb w.0.1 w.0.2)
    (slots-ahead v a b (last_after (turn v q ms) q) h pa pb slots w.1)
  where
    chain : (x y p q m n r : ℕ) → x + p ≡ y + q → m + q ≡ n + r → (x + m) + p ≡ (y + n) + r
    chain x y p q m n r h k = omega arith

-- two numbers that differ by the places of the last one served
pub near : (m n p q : ℕ) → m + p ≡ n + q → p ≤ 1 → q ≤ 1 → (m ≤ n + 1) × (n ≤ m + 1)
near m n p q e h k = (omega arith, omega arith)

fair-less :
    (v a b q : ℕ) → a < b → path_of a ≡ v → path_of b ≡ v → (slots : List (List Member)) → BothWait a b slots
    → (times_served v a q slots ≤ times_served v b q slots + 1) × (times_served v b q slots ≤ times_served v a q slots + 1)
fair-less v a b q h pa pb slots w = near _ _ (ahead a b _) (ahead a b _) (slots-ahead v a b q h pa pb slots w) (ahead-most a b _) (ahead-most a b _)

swapped : (a b : ℕ) (slots : List (List Member)) → BothWait a b slots → BothWait b a slots
swapped a b [] w = tt
swapped a b (ms ∷ slots) w = ((w.0.0, w.0.2, w.0.1), swapped a b slots w.1)

pub fair : Fair
fair v a b q slots pa pb w = go (order a b)
  where
    go : Order a b → (times_served v a q slots ≤ times_served v b q slots + 1) × (times_served v b q slots ≤ times_served v a q slots + 1)
    go (less h) = fair-less v a b q h pa pb slots w
    go (equal e) = near _ _ 0 0 (ap (λ x. times_served v x q slots + 0) e) (omega arith) (omega arith)
    go (more h) = let f = fair-less v b a q h pb pa slots (swapped a b slots w) in (f.1, f.0)
