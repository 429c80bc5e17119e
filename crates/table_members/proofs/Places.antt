-- The word of a member: where it stands, what it says, and what a store there makes.
use Prim.Native.Nat.{ℕ, zero, suc, ◌+◌, ◌-◌, ◌*◌, ◌≤◌, ◌<◌}
use mathlib.Core.Path.{◌≡◌, refl, sym, ap, ap₂, subst, ◌∙◌}
use mathlib.Core.Bool.{Bool, true, false, cond, ◌||◌, true≢false}
use mathlib.Core.List.{List, [], ◌∷◌, ◌++◌}
use native.Mathlib.Nat.{le_trans, not-suc-le-zero, le_of_suc-le-suc}
use native.Mathlib.Omega.{arith}
use lib.Dec.{ltb, eqb}
use lib.ListN.{length, get_or, set, replicate}
use lib.Seq.{get_or-append-add}
use borrow.Author.Tests.{ltb-true, eqb-true, eq-eqb, lt-ltb, le-ltb}
use Rattle.cell.specs.Name.{no_name}
use Rattle.connection_members.specs.Members.{Member, member_capacity, named, any_where, cells_where, is_member, cells_of, with_cells}
use Rattle.connection_members.specs.Invariant.{Rising}
use Rattle.laws.specs.All.{All}
use Rattle.connection_members.proofs.Lists.{all_map, all_named, absent, cells-none, with-cells-length}
use Rattle.table.specs.Layout.{member_word, packed, member_words}
use Rattle.table_members.specs.Place.{below, MemberAt}
use Rattle.table_members.proofs.Packed.{packed-length}

-- ---- the place of a name

pub below-most : (x : ℕ) (ms : List Member) → below x ms ≤ length ms
unfolding below
below-most x [] = omega arith
below-most x (m ∷ ms) = go (ltb m.name x) (below-most x ms)
  where
    go : (b : Bool) → below x ms ≤ length ms → cond b 1 0 + below x ms ≤ suc (length ms)
    go true k = omega (arith, k)
    go false k = omega (arith, k)

pub below_step : (x : ℕ) (m : Member) (ms : List Member) → m.name < x → below x (m ∷ ms) ≡ suc (below x ms)
unfolding below
below_step x m ms h = rw (lt-ltb m.name x h) (omega arith)

-- none is below the lowest
pub below_none : (x : ℕ) (ms : List Member) → All (λ n. x ≤ n.name) ms → below x ms ≡ 0
unfolding below
below_none x [] h = refl
below_none x (m ∷ ms) h = rw (le-ltb m.name x h.0) (omega (arith, below_none x ms h.1))

pub above : (x : ℕ) (m : Member) (ms : List Member) → x ≤ m.name → All (λ n. m.name < n.name) ms → All (λ n. x ≤ n.name) ms
above x m ms h k = all_map (λ n. m.name < n.name) (λ n. x ≤ n.name) (λ n l. le_trans h (omega arith)) ms k

pub below-stop : (x : ℕ) (m : Member) (ms : List Member) → Rising (m ∷ ms) → x ≤ m.name → below x (m ∷ ms) ≡ 0
below-stop x m ms r h = below_none x (m ∷ ms) (h, above x m ms h r.0)

-- a member that is not the first stands behind it
later : (x : ℕ) (m : Member) (ms : List Member) → Rising (m ∷ ms) → is_member x ms ≡ true → m.name < x
later x m ms r e = all_named (λ y. m.name < y) x ms r.0 e

pub below_in : (x : ℕ) (ms : List Member) → is_member x ms ≡ true → below x ms < length ms
unfolding below any_where
below_in x [] e = absurd (true≢false (sym e))
below_in x (m ∷ ms) e = go (eqb m.name x) refl (ltb m.name x) refl e (below_in x ms)
  where
    go : (a : Bool) → eqb m.name x ≡ a → (b : Bool) → ltb m.name x ≡ b → (a || is_member x ms) ≡ true → (is_member x ms ≡ true → below x ms < length ms)
        → cond b 1 0 + below x ms < suc (length ms)
    go true q true p e k = absurd (omega (arith, eqb-true m.name x q, ltb-true m.name x p))
    go true q false p e k = omega (arith, below-most x ms)
    go false q true p e k = omega (arith, k e)
    go false q false p e k = omega (arith, k e)

-- ---- the member in word i

abbrev pub none-there : Member
none-there = record { name = 0; cells = 0 }

pub packed-at : (ms : List Member) (t : List ℕ) (i : ℕ) → i < length ms → get_or (packed ms ++ t) i 0 ≡ member_word (get_or ms i none-there)
unfolding packed
packed-at [] t i h = absurd (not-suc-le-zero h)
packed-at (m ∷ ms) t zero h = refl
packed-at (m ∷ ms) t (suc i) h = packed-at ms t i (le_of_suc-le-suc h)

pub words-at : (ms : List Member) (i : ℕ) → i < length ms → get_or (member_words ms) i 0 ≡ member_word (get_or ms i none-there)
unfolding member_words
words-at ms i h = packed-at ms (replicate (member_capacity - length ms) 0) i h

zeros-at : (n i : ℕ) → ◌≡◌ {A = ℕ} (get_or (replicate n 0) i 0) 0
zeros-at zero i = refl
zeros-at (suc n) zero = refl
zeros-at (suc n) (suc i) = zeros-at n i

pub words-behind : (ms : List Member) (i : ℕ) → length ms ≤ i → get_or (member_words ms) i 0 ≡ 0
unfolding member_words
words-behind ms i h =
    let e : i ≡ length (packed ms) + (i - length ms) = omega (arith, packed-length ms) in
    ap (λ (n : ℕ). get_or (packed ms ++ replicate (member_capacity - length ms) 0) n 0) e
    ∙ get_or-append-add (packed ms) (replicate (member_capacity - length ms) 0) (i - length ms) 0
    ∙ zeros-at (member_capacity - length ms) (i - length ms)

pub each_at : (P : Member → Type 0) (ms : List Member) → All P ms → (i : ℕ) → i < length ms → P (get_or ms i none-there)
each_at P [] h i k = absurd (not-suc-le-zero k)
each_at P (m ∷ ms) h zero k = h.0
each_at P (m ∷ ms) h (suc i) k = each_at P ms h.1 i (le_of_suc-le-suc k)

-- it is the one whose name has that place
pub member-at : (ms : List Member) → Rising ms → (i : ℕ) → i < length ms → MemberAt ms (get_or ms i none-there).name i
unfolding any_where
member-at [] r i h = absurd (not-suc-le-zero h)
member-at (m ∷ ms) r zero h = record { member = rw (eq-eqb m.name m.name refl); place = below-stop m.name m ms r (omega arith) }
member-at (m ∷ ms) r (suc i) h =
    let k : MemberAt ms (get_or ms i none-there).name i = member-at ms r.1 i (le_of_suc-le-suc h) in
    let l : m.name < (get_or ms i none-there).name = each_at (λ n. m.name < n.name) ms r.0 i (le_of_suc-le-suc h) in
    record { member = ap (λ (b : Bool). eqb m.name (get_or ms i none-there).name || b) k.member ∙ or-true (eqb m.name (get_or ms i none-there).name); place = below_step _ m ms l ∙ ap suc k.place }
  where
    or-true : (a : Bool) → (a || true) ≡ true
    or-true true = refl
    or-true false = refl

-- ---- what it says

word_of : (x : ℕ) (ms : List Member) (t : List ℕ) → Rising ms → is_member x ms ≡ true → get_or (packed ms ++ t) (below x ms) 0 ≡ (no_name - x) * 65536 + cells_of x ms
unfolding packed any_where cells_where
word_of x [] t r e = absurd (true≢false (sym e))
word_of x (m ∷ ms) t r e = go (eqb m.name x) refl e (word_of x ms t r.1)
  where
    go : (b : Bool) → eqb m.name x ≡ b → (b || is_member x ms) ≡ true
        → (is_member x ms ≡ true → get_or (packed ms ++ t) (below x ms) 0 ≡ (no_name - x) * 65536 + cells_of x ms)
        → get_or (member_word m ∷ (packed ms ++ t)) (below x (m ∷ ms)) 0 ≡ (no_name - x) * 65536 + (cond b m.cells 0 + cells_of x ms)
    go true q e k =
        let z : m.name ≡ x = eqb-true m.name x q in
        let n : cells_of x ms ≡ 0 = cells-none (named x) ms (absent x ms (subst (λ (y : ℕ). All (λ i. y < i.name) ms) z r.0)) in
        ap (λ (i : ℕ). get_or (member_word m ∷ (packed ms ++ t)) i 0) (below-stop x m ms r (omega (arith, z))) ∙ omega (arith, n, z)
    go false q e k =
        ap (λ (i : ℕ). get_or (member_word m ∷ (packed ms ++ t)) i 0) (below_step x m ms (later x m ms r e)) ∙ k e ∙ omega arith

pub word-is : (ms : List Member) → Rising ms → (x i : ℕ) → MemberAt ms x i → get_or (member_words ms) i 0 ≡ (no_name - x) * 65536 + cells_of x ms
unfolding member_words
word-is ms r x i a = ap (λ (n : ℕ). get_or (member_words ms) n 0) (sym a.place) ∙ word_of x ms (replicate (member_capacity - length ms) 0) r a.member

-- ---- a store

with-absent : (x n : ℕ) (ms : List Member) → is_member x ms ≡ false → with_cells x n ms ≡ ms
unfolding with_cells any_where
with-absent x n [] e = refl
with-absent x n (m ∷ ms) e = go (eqb m.name x) e (with-absent x n ms)
  where
    go : (b : Bool) → (b || is_member x ms) ≡ false → (is_member x ms ≡ false → with_cells x n ms ≡ ms)
        → record { name = m.name; cells = cond b n m.cells } ∷ with_cells x n ms ≡ m ∷ ms
    go true e k = absurd (true≢false e)
    go false e k = ap (λ (l : List Member). m ∷ l) (k e)

word_set :
    (x n : ℕ) (ms : List Member) (t : List ℕ) → Rising ms → is_member x ms ≡ true
    → set (packed ms ++ t) (below x ms) ((no_name - x) * 65536 + n) ≡ packed (with_cells x n ms) ++ t
unfolding packed any_where with_cells
word_set x n [] t r e = absurd (true≢false (sym e))
word_set x n (m ∷ ms) t r e = go (eqb m.name x) refl e (word_set x n ms t r.1)
  where
    go : (b : Bool) → eqb m.name x ≡ b → (b || is_member x ms) ≡ true
        → (is_member x ms ≡ true → set (packed ms ++ t) (below x ms) ((no_name - x) * 65536 + n) ≡ packed (with_cells x n ms) ++ t)
        → set (member_word m ∷ (packed ms ++ t)) (below x (m ∷ ms)) ((no_name - x) * 65536 + n)
        ≡ ((no_name - m.name) * 65536 + cond b n m.cells) ∷ (packed (with_cells x n ms) ++ t)
    go true q e k =
        let z : m.name ≡ x = eqb-true m.name x q in
        let a : is_member x ms ≡ false = absent x ms (subst (λ (y : ℕ). All (λ i. y < i.name) ms) z r.0) in
        ap (λ (i : ℕ). set (member_word m ∷ (packed ms ++ t)) i ((no_name - x) * 65536 + n)) (below-stop x m ms r (omega (arith, z)))
        ∙ ap₂ (λ (y : ℕ) (l : List Member). ((no_name - y) * 65536 + n) ∷ (packed l ++ t)) (sym z) (sym (with-absent x n ms a))
    go false q e k =
        ap (λ (i : ℕ). set (member_word m ∷ (packed ms ++ t)) i ((no_name - x) * 65536 + n)) (below_step x m ms (later x m ms r e))
        ∙ ap (λ (l : List ℕ). member_word m ∷ l) (k e)

pub set_words : (ms : List Member) → Rising ms → (x i n : ℕ) → MemberAt ms x i → set (member_words ms) i ((no_name - x) * 65536 + n) ≡ member_words (with_cells x n ms)
unfolding member_words
set_words ms r x i n a =
    ap (λ (k : ℕ). set (member_words ms) k ((no_name - x) * 65536 + n)) (sym a.place)
    ∙ word_set x n ms (replicate (member_capacity - length ms) 0) r a.member
    ∙ ap (λ (k : ℕ). packed (with_cells x n ms) ++ replicate (member_capacity - k) 0) (sym (with-cells-length x n ms))
