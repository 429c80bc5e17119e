-- The list of members: what adding, removing and filling do to its length and order, to who is in it and to what
-- waits. There is one law each, over any test of names. With a test of one name it is about a member. With a test
-- of a path it is about all of the path's.
use Prim.Native.Nat.{ℕ, suc, ◌+◌, ◌≤◌, ◌<◌}
use mathlib.Core.Path.{◌≡◌, refl, sym, ap, subst, ◌∙◌}
use mathlib.Core.Logic.{◌≢◌}
use mathlib.Core.Bool.{Bool, true, false, cond, not, ◌&&◌, ◌||◌, true≢false, and-false}
use mathlib.Core.List.{List, [], ◌∷◌}
use native.Mathlib.Nat.{le_refl, le_trans, not-suc-le-zero}
use native.Mathlib.Omega.{arith}
use lib.Dec.{ltb, eqb}
use lib.ListN.{length}
use borrow.Author.Tests.{ltb-true, ltb-false, eqb-true, eqb-false, eq-eqb, ne_eqb}
use Rattle.connection_members.specs.Path.{path_of}
use Rattle.connection_members.specs.Members.{Member, named, on_path, any_where, cells_where, without, is_member, cells_of, path_cells, new_member, with_member, without_member, without_path, with_cells}
use Rattle.connection_members.specs.Invariant.{Rising}
use Rattle.laws.specs.All.{All}
use Rattle.connection_members.proofs.Names.{Decided, same, other, compare}

or-true : (a : Bool) → (a || true) ≡ true
or-true true = refl
or-true false = refl

zeros : (b : Bool) → ◌≡◌ {A = ℕ} (cond b 0 0) 0
zeros true = refl
zeros false = refl

-- nothing more waits there
more : (b : Bool) (n k : ℕ) → k ≡ cond b 0 n → k ≡ cond b 0 (0 + n)
more true n k e = e
more false n k e = omega (arith, e)

-- ---- what holds of all

pub all_map : (P Q : Member → Type 0) → ((m : Member) → P m → Q m) → (ms : List Member) → All P ms → All Q ms
all_map P Q f [] h = tt
all_map P Q f (m ∷ ms) h = (f m h.0, all_map P Q f ms h.1)

-- of all names, so of a member's; and the other way
pub all_named : (P : ℕ → Type 0) (x : ℕ) (ms : List Member) → All (λ m. P m.name) ms → is_member x ms ≡ true → P x
unfolding any_where
all_named P x [] h e = absurd (true≢false (sym e))
all_named P x (m ∷ ms) h e = go (eqb m.name x) refl e (all_named P x ms h.1)
  where
    go : (b : Bool) → eqb m.name x ≡ b → (b || is_member x ms) ≡ true → (is_member x ms ≡ true → P x) → P x
    go true q e k = subst P (eqb-true _ _ q) h.0
    go false q e k = k e

pub named-all : (P : ℕ → Type 0) (ms : List Member) → ((x : ℕ) → is_member x ms ≡ true → P x) → All (λ m. P m.name) ms
unfolding any_where
named-all P [] h = tt
named-all P (m ∷ ms) h = (
  h m.name (ap (λ (b : Bool). b || is_member m.name ms) (eq-eqb m.name m.name refl)),
  named-all P ms (λ x e. h x (ap (λ (b : Bool). eqb m.name x || b) e ∙ or-true (eqb m.name x))),
)

-- ---- two tests

-- a test that passes where another does
abbrev pub Within : (f g : ℕ → Bool) → Type 0
Within f g = (y : ℕ) → f y ≡ true → g y ≡ true

-- two tests that do not both pass
abbrev pub Apart : (f g : ℕ → Bool) → Type 0
Apart f g = (y : ℕ) → f y ≡ true → g y ≡ false

pub any-within : (f g : ℕ → Bool) → Within f g → (ms : List Member) → any_where f ms ≡ true → any_where g ms ≡ true
unfolding any_where
any-within f g h [] e = e
any-within f g h (m ∷ ms) e = go (f m.name) refl e (any-within f g h ms)
  where
    go : (b : Bool) → f m.name ≡ b → (b || any_where f ms) ≡ true → (any_where f ms ≡ true → any_where g ms ≡ true) → (g m.name || any_where g ms) ≡ true
    go true q e k = rw (h m.name q)
    go false q e k = ap (λ (b : Bool). g m.name || b) (k e) ∙ or-true (g m.name)

pub cells-within : (f g : ℕ → Bool) → Within f g → (ms : List Member) → cells_where f ms ≤ cells_where g ms
unfolding cells_where
cells-within f g h [] = omega arith
cells-within f g h (m ∷ ms) = go (f m.name) refl (cells-within f g h ms)
  where
    go : (b : Bool) → f m.name ≡ b → cells_where f ms ≤ cells_where g ms → cond b m.cells 0 + cells_where f ms ≤ cond (g m.name) m.cells 0 + cells_where g ms
    go true q k = rw (h m.name q) (omega (arith, k))
    go false q k = omega (arith, k)

-- where something waits there is a member
pub cells-any : (f : ℕ → Bool) (ms : List Member) → 0 < cells_where f ms → any_where f ms ≡ true
unfolding any_where cells_where
cells-any f [] h = absurd (not-suc-le-zero h)
cells-any f (m ∷ ms) h = go (f m.name) h (cells-any f ms)
  where
    go : (b : Bool) → 0 < cond b m.cells 0 + cells_where f ms → (0 < cells_where f ms → any_where f ms ≡ true) → (b || any_where f ms) ≡ true
    go true h k = refl
    go false h k = k (omega (arith, h))

pub cells-none : (f : ℕ → Bool) (ms : List Member) → any_where f ms ≡ false → cells_where f ms ≡ 0
unfolding any_where cells_where
cells-none f [] e = refl
cells-none f (m ∷ ms) e = go (f m.name) e (cells-none f ms)
  where
    go : (b : Bool) → (b || any_where f ms) ≡ false → (any_where f ms ≡ false → cells_where f ms ≡ 0) → cond b m.cells 0 + cells_where f ms ≡ 0
    go true e k = absurd (true≢false e)
    go false e k = omega (arith, k e)

-- a name is on its path, and so no more waits on a member than on its path
named-on-path : (x : ℕ) → Within (named x) (on_path (path_of x))
named-on-path x y e = eq-eqb (path_of y) (path_of x) (ap path_of (eqb-true y x e))

pub cells-on-path : (x : ℕ) (ms : List Member) → cells_of x ms ≤ path_cells (path_of x) ms
cells-on-path x ms = cells-within (named x) (on_path (path_of x)) (named-on-path x) ms

-- ---- without those whose names pass a test

pub without-length : (f : ℕ → Bool) (ms : List Member) → length (without f ms) ≤ length ms
unfolding without
without-length f [] = le_refl _
without-length f (m ∷ ms) = go (f m.name) (without-length f ms)
  where
    go : (b : Bool) → length (without f ms) ≤ length ms → length (cond b (without f ms) (m ∷ without f ms)) ≤ suc (length ms)
    go true k = omega (arith, k)
    go false k = omega (arith, k)

pub without_all : (P : Member → Type 0) (f : ℕ → Bool) (ms : List Member) → All P ms → All P (without f ms)
unfolding without
without_all P f [] h = tt
without_all P f (m ∷ ms) h = go (f m.name) (without_all P f ms h.1)
  where
    go : (b : Bool) → All P (without f ms) → All P (cond b (without f ms) (m ∷ without f ms))
    go true k = k
    go false k = (h.0, k)

pub without-rising : (f : ℕ → Bool) (ms : List Member) → Rising ms → Rising (without f ms)
unfolding without
without-rising f [] h = tt
without-rising f (m ∷ ms) h = go (f m.name) (without-rising f ms h.1)
  where
    go : (b : Bool) → Rising (without f ms) → Rising (cond b (without f ms) (m ∷ without f ms))
    go true k = k
    go false k = (without_all (λ n. m.name < n.name) f ms h.0, k)

-- who is left was there, and passes not
pub without-any : (g f : ℕ → Bool) (ms : List Member) → any_where g (without f ms) ≡ any_where (λ y. g y && not (f y)) ms
unfolding any_where without
without-any g f [] = refl
without-any g f (m ∷ ms) = go (f m.name) (g m.name) refl (without-any g f ms)
  where
    go : (a b : Bool) → g m.name ≡ b → any_where g (without f ms) ≡ any_where (λ y. g y && not (f y)) ms
        → any_where g (cond a (without f ms) (m ∷ without f ms)) ≡ ((b && not a) || any_where (λ y. g y && not (f y)) ms)
    go true true q k = k
    go true false q k = k
    go false true q k = rw q
    go false false q k = rw (q, k)

-- what is left and what has gone are what was there
pub without-cells : (g f : ℕ → Bool) (ms : List Member) → cells_where g (without f ms) + cells_where (λ y. g y && f y) ms ≡ cells_where g ms
unfolding cells_where without
without-cells g f [] = refl
without-cells g f (m ∷ ms) = go (f m.name) (g m.name) refl (without-cells g f ms)
  where
    go : (a b : Bool) → g m.name ≡ b → cells_where g (without f ms) + cells_where (λ y. g y && f y) ms ≡ cells_where g ms
        → cells_where g (cond a (without f ms) (m ∷ without f ms)) + (cond (b && a) m.cells 0 + cells_where (λ y. g y && f y) ms) ≡ cond b m.cells 0 + cells_where g ms
    go true true q k = omega (arith, k)
    go true false q k = omega (arith, k)
    go false true q k = rw q (omega (arith, k))
    go false false q k = rw q (omega (arith, k))

-- of one name: who is left, and what waits there
pub without-member : (y : ℕ) (f : ℕ → Bool) (ms : List Member) → is_member y (without f ms) ≡ (is_member y ms && not (f y))
unfolding any_where without
without-member y f [] = refl
without-member y f (m ∷ ms) = go (f m.name) refl (eqb m.name y) refl (without-member y f ms)
  where
    go : (a : Bool) → f m.name ≡ a → (b : Bool) → eqb m.name y ≡ b → is_member y (without f ms) ≡ (is_member y ms && not (f y))
        → is_member y (cond a (without f ms) (m ∷ without f ms)) ≡ ((b || is_member y ms) && not (f y))
    go true p true q k = k ∙ rw (sym (ap f (eqb-true m.name y q)) ∙ p) (and-false (is_member y ms))
    go true p false q k = k
    go false p true q k = rw (q, sym (ap f (eqb-true m.name y q)) ∙ p)
    go false p false q k = rw (q, k)

pub without-cells-of : (y : ℕ) (f : ℕ → Bool) (ms : List Member) → cells_of y (without f ms) ≡ cond (f y) 0 (cells_of y ms)
unfolding cells_where without
without-cells-of y f [] = sym (zeros (f y))
without-cells-of y f (m ∷ ms) = go (f m.name) refl (eqb m.name y) refl (without-cells-of y f ms)
  where
    go : (a : Bool) → f m.name ≡ a → (b : Bool) → eqb m.name y ≡ b → cells_of y (without f ms) ≡ cond (f y) 0 (cells_of y ms)
        → cells_of y (cond a (without f ms) (m ∷ without f ms)) ≡ cond (f y) 0 (cond b m.cells 0 + cells_of y ms)
    go true p true q k = k ∙ rw (sym (ap f (eqb-true m.name y q)) ∙ p)
    go true p false q k = more (f y) (cells_of y ms) _ k
    go false p true q k = let e : f y ≡ false = sym (ap f (eqb-true m.name y q)) ∙ p in let h : cells_of y (without f ms) ≡ cells_of y ms = rw e at k in rw (q, e, h)
    go false p false q k = rw q (more (f y) (cells_of y ms) _ (omega (arith, k)))

-- one member less: what waits on it goes with it
pub without-one : (g : ℕ → Bool) (x : ℕ) (ms : List Member) → cells_where g (without_member x ms) + cond (g x) (cells_of x ms) 0 ≡ cells_where g ms
unfolding cells_where without
without-one g x [] = ap (λ (n : ℕ). 0 + n) (zeros (g x))
without-one g x (m ∷ ms) = go (eqb m.name x) refl (g x) refl (without-one g x ms)
  where
    go : (a : Bool) → eqb m.name x ≡ a → (b : Bool) → g x ≡ b → cells_where g (without_member x ms) + cond (g x) (cells_of x ms) 0 ≡ cells_where g ms
        → cells_where g (cond a (without_member x ms) (m ∷ without_member x ms)) + cond b (cond a m.cells 0 + cells_of x ms) 0 ≡ cond (g m.name) m.cells 0 + cells_where g ms
    go true q true p k = let h : cells_where g (without_member x ms) + cells_of x ms ≡ cells_where g ms = rw p at k in rw (ap g (eqb-true m.name x q) ∙ p) (omega (arith, h))
    go true q false p k = let h : cells_where g (without_member x ms) + 0 ≡ cells_where g ms = rw p at k in rw (ap g (eqb-true m.name x q) ∙ p) (omega (arith, h))
    go false q true p k = let h : cells_where g (without_member x ms) + cells_of x ms ≡ cells_where g ms = rw p at k in omega (arith, h)
    go false q false p k = let h : cells_where g (without_member x ms) + 0 ≡ cells_where g ms = rw p at k in omega (arith, h)

-- a path's members less: on that path nothing waits, on the others what did
pub without-path : (w v : ℕ) (ms : List Member) → path_cells w (without_path v ms) ≡ cond (eqb w v) 0 (path_cells w ms)
unfolding cells_where without
without-path w v [] = sym (zeros (eqb w v))
without-path w v (m ∷ ms) = go (eqb (path_of m.name) v) refl (eqb (path_of m.name) w) refl (without-path w v ms)
  where
    go : (a : Bool) → eqb (path_of m.name) v ≡ a → (b : Bool) → eqb (path_of m.name) w ≡ b → path_cells w (without_path v ms) ≡ cond (eqb w v) 0 (path_cells w ms)
        → path_cells w (cond a (without_path v ms) (m ∷ without_path v ms)) ≡ cond (eqb w v) 0 (cond b m.cells 0 + path_cells w ms)
    go true p true q k = k ∙ rw (sym (ap (λ z. eqb z v) (eqb-true _ _ q)) ∙ p)
    go true p false q k = more (eqb w v) (path_cells w ms) _ k
    go false p true q k = let e : eqb w v ≡ false = sym (ap (λ z. eqb z v) (eqb-true _ _ q)) ∙ p in let h : path_cells w (without_path v ms) ≡ path_cells w ms = rw e at k in rw (q, e, h)
    go false p false q k = rw q (more (eqb w v) (path_cells w ms) _ (omega (arith, k)))

-- ---- one member more

pub with-member-length : (x : ℕ) (ms : List Member) → length (with_member x ms) ≡ suc (length ms)
unfolding with_member
with-member-length x [] = refl
with-member-length x (m ∷ ms) = go (ltb x m.name) (with-member-length x ms)
  where
    go : (b : Bool) → length (with_member x ms) ≡ suc (length ms) → length (cond b (new_member x ∷ m ∷ ms) (m ∷ with_member x ms)) ≡ suc (suc (length ms))
    go true k = refl
    go false k = ap suc k

pub with-member-any : (f : ℕ → Bool) (x : ℕ) (ms : List Member) → any_where f (with_member x ms) ≡ (f x || any_where f ms)
unfolding with_member any_where
with-member-any f x [] = refl
with-member-any f x (m ∷ ms) = go (ltb x m.name) (with-member-any f x ms)
  where
    swap : (a b c : Bool) → (a || (b || c)) ≡ (b || (a || c))
    swap true true c = refl
    swap true false c = refl
    swap false true c = refl
    swap false false c = refl

    go : (b : Bool) → any_where f (with_member x ms) ≡ (f x || any_where f ms)
        → any_where f (cond b (new_member x ∷ m ∷ ms) (m ∷ with_member x ms)) ≡ (f x || (f m.name || any_where f ms))
    go true k = refl
    go false k = rw k (swap (f m.name) (f x) (any_where f ms))

-- nothing waits on it
pub with-member-cells : (f : ℕ → Bool) (x : ℕ) (ms : List Member) → cells_where f (with_member x ms) ≡ cells_where f ms
unfolding with_member cells_where
with-member-cells f x [] = omega (arith, zeros (f x))
with-member-cells f x (m ∷ ms) = go (ltb x m.name) (with-member-cells f x ms)
  where
    go : (b : Bool) → cells_where f (with_member x ms) ≡ cells_where f ms
        → cells_where f (cond b (new_member x ∷ m ∷ ms) (m ∷ with_member x ms)) ≡ cond (f m.name) m.cells 0 + cells_where f ms
    go true k = omega (arith, zeros (f x))
    go false k = rw k

pub with-member-all : (P : Member → Type 0) (x : ℕ) → P (new_member x) → (ms : List Member) → All P ms → All P (with_member x ms)
unfolding with_member
with-member-all P x p [] h = (p, tt)
with-member-all P x p (m ∷ ms) h = go (ltb x m.name) (with-member-all P x p ms h.1)
  where
    go : (b : Bool) → All P (with_member x ms) → All P (cond b (new_member x ∷ m ∷ ms) (m ∷ with_member x ms))
    go true k = (p, h)
    go false k = (h.0, k)

pub with-member-rising : (x : ℕ) (ms : List Member) → Rising ms → is_member x ms ≡ false → Rising (with_member x ms)
unfolding with_member any_where
with-member-rising x [] h e = (tt, tt)
with-member-rising x (m ∷ ms) h e = go (ltb x m.name) refl (eqb m.name x) refl e (with-member-rising x ms h.1)
  where
    above : x < m.name → All (λ n. x < n.name) ms
    above l = all_map (λ n. m.name < n.name) (λ n. x < n.name) (λ n k. le_trans l (omega arith)) ms h.0

    go : (b : Bool) → ltb x m.name ≡ b → (t : Bool) → eqb m.name x ≡ t → (t || is_member x ms) ≡ false → (is_member x ms ≡ false → Rising (with_member x ms))
        → Rising (cond b (new_member x ∷ m ∷ ms) (m ∷ with_member x ms))
    go true q t r e k = ((ltb-true _ _ q, above (ltb-true _ _ q)), h)
    go false q true r e k = absurd (true≢false e)
    go false q false r e k =
        (with-member-all (λ n. m.name < n.name) x (omega (arith, ltb-false x m.name q, eqb-false m.name x r)) ms h.0, k e)

-- ---- other cells on one member

pub with-cells-length : (x n : ℕ) (ms : List Member) → length (with_cells x n ms) ≡ length ms
unfolding with_cells
with-cells-length x n [] = refl
with-cells-length x n (m ∷ ms) = ap suc (with-cells-length x n ms)

pub with-cells-any : (f : ℕ → Bool) (x n : ℕ) (ms : List Member) → any_where f (with_cells x n ms) ≡ any_where f ms
unfolding with_cells any_where
with-cells-any f x n [] = refl
with-cells-any f x n (m ∷ ms) = ap (λ (b : Bool). f m.name || b) (with-cells-any f x n ms)

pub with-cells-all :
    (P : Member → Type 0) (x n : ℕ) → ((m : Member) → m.name ≡ x → P m → P (record { name = m.name; cells = n })) → (ms : List Member) → All P ms
    → All P (with_cells x n ms)
unfolding with_cells
with-cells-all P x n f [] h = tt
with-cells-all P x n f (m ∷ ms) h = (go (eqb m.name x) refl, with-cells-all P x n f ms h.1)
  where
    go : (b : Bool) → eqb m.name x ≡ b → P (record { name = m.name; cells = cond b n m.cells })
    go true q = f m (eqb-true _ _ q) h.0
    go false q = h.0

pub with-cells-rising : (x n : ℕ) (ms : List Member) → Rising ms → Rising (with_cells x n ms)
unfolding with_cells
with-cells-rising x n [] h = tt
with-cells-rising x n (m ∷ ms) h = (with-cells-all (λ i. m.name < i.name) x n (λ i e l. l) ms h.0, with-cells-rising x n ms h.1)

-- a name below all others is no other's
pub absent : (x : ℕ) (ms : List Member) → All (λ n. x < n.name) ms → is_member x ms ≡ false
absent x ms h = go (is_member x ms) refl
  where
    off : x < x → ⊥
    off k = omega arith

    go : (b : Bool) → is_member x ms ≡ b → b ≡ false
    go true e = absurd (off (all_named (λ y. x < y) x ms h e))
    go false e = refl

-- where x is no member nothing changes
with-cells-absent : (g : ℕ → Bool) (x n : ℕ) (ms : List Member) → is_member x ms ≡ false → cells_where g (with_cells x n ms) ≡ cells_where g ms
unfolding with_cells any_where cells_where
with-cells-absent g x n [] e = refl
with-cells-absent g x n (m ∷ ms) e = go (eqb m.name x) e (with-cells-absent g x n ms)
  where
    go : (b : Bool) → (b || is_member x ms) ≡ false → (is_member x ms ≡ false → cells_where g (with_cells x n ms) ≡ cells_where g ms)
        → cond (g m.name) (cond b n m.cells) 0 + cells_where g (with_cells x n ms) ≡ cond (g m.name) m.cells 0 + cells_where g ms
    go true e k = absurd (true≢false e)
    go false e k = rw (k e)

-- the n cells stand in the place of what waited on it
pub with-cells-one :
    (g : ℕ → Bool) (x n : ℕ) (ms : List Member) → Rising ms → is_member x ms ≡ true
    → cells_where g (with_cells x n ms) + cond (g x) (cells_of x ms) 0 ≡ cells_where g ms + cond (g x) n 0
unfolding with_cells any_where cells_where
with-cells-one g x n [] r e = absurd (true≢false (sym e))
with-cells-one g x n (m ∷ ms) r e = go (eqb m.name x) refl e (g x) refl (with-cells-one g x n ms r.1)
  where
    alone : m.name ≡ x → is_member x ms ≡ false
    alone q = absent x ms (subst (λ (y : ℕ). All (λ n. y < n.name) ms) q r.0)

    go : (a : Bool) → eqb m.name x ≡ a → (a || is_member x ms) ≡ true → (b : Bool) → g x ≡ b
        → (is_member x ms ≡ true → cells_where g (with_cells x n ms) + cond (g x) (cells_of x ms) 0 ≡ cells_where g ms + cond (g x) n 0)
        → (cond (g m.name) (cond a n m.cells) 0 + cells_where g (with_cells x n ms)) + cond b (cond a m.cells 0 + cells_of x ms) 0
        ≡ (cond (g m.name) m.cells 0 + cells_where g ms) + cond b n 0
    go true q e true p k =
        let z = alone (eqb-true m.name x q) in
        rw (ap g (eqb-true m.name x q) ∙ p) (omega (arith, with-cells-absent g x n ms z, cells-none (named x) ms z))
    go true q e false p k = rw (ap g (eqb-true m.name x q) ∙ p, with-cells-absent g x n ms (alone (eqb-true m.name x q)))
    go false q e true p k =
        let h : cells_where g (with_cells x n ms) + cells_of x ms ≡ cells_where g ms + n = rw p at (k e) in omega (arith, h)
    go false q e false p k = let h : cells_where g (with_cells x n ms) + 0 ≡ cells_where g ms + 0 = rw p at (k e) in omega (arith, h)

pub with-cells-of : (y x n : ℕ) (ms : List Member) → Rising ms → is_member x ms ≡ true → cells_of y (with_cells x n ms) ≡ cond (eqb x y) n (cells_of y ms)
with-cells-of y x n ms r e = go (compare x y) (with-cells-one (named y) x n ms r e)
  where
    go : Decided x y → cells_of y (with_cells x n ms) + cond (eqb x y) (cells_of x ms) 0 ≡ cells_of y ms + cond (eqb x y) n 0
        → cells_of y (with_cells x n ms) ≡ cond (eqb x y) n (cells_of y ms)
    go (same q) k =
        let h : cells_of y (with_cells x n ms) + cells_of x ms ≡ cells_of y ms + n = rw (eq-eqb x y q) at k in
        rw (eq-eqb x y q) (omega (arith, h, ap (λ z. cells_of z ms) q))
    go (other q) k = let h : cells_of y (with_cells x n ms) + 0 ≡ cells_of y ms + 0 = rw (ne_eqb x y q) at k in rw (ne_eqb x y q) (omega (arith, h))
