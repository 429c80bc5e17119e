-- The words of the entries in use, 64 entries in each: when an entry changes, and where the lowest free one is.
use Prim.Native.Nat.{ℕ, zero, suc, ◌+◌, ◌-◌, ◌*◌, ◌/◌, ◌%◌, ◌^◌, ◌≤◌, ◌<◌, min}
use mathlib.Core.Path.{◌≡◌, refl, sym, ap, ◌∙◌}
use mathlib.Core.Logic.{◌≢◌}
use mathlib.Core.Bool.{Bool, true, false, not, cond}
use mathlib.Core.List.{List, [], ◌∷◌, ◌++◌}
use native.Mathlib.Nat.{zero-add}
use native.Mathlib.Omega.{arith}
use lib.Bits.{bit_xor}
use lib.Count.{count_trailing_zeros, trailing_of_zero}
use lib.Dec.{ltb}
use lib.ListN.{length, get_or, set, take, drop, replicate, length-take, length-drop, get_or-append}
use lib.Seq.{take-set-le, take-set-lt, drop-set-lt, drop-set-add, drop-drop, take-nil, drop-nil, get_or-take, get_or-drop, get_or-append-add}
use borrow.Author.Tests.{ltb-true, ltb-false}
use Rattle.laws.proofs.Rows.{length-row, row_at, row_same, row-set, row-zeros}
use Rattle.model.specs.State.{Entry, free, position, is_free, capacity}
use Rattle.model.proofs.Entries.{Case, same, other, case}
use Rattle.table.specs.Layout.{bitmap, is_taken, group, groups, used, used_from}
use Rattle.table.specs.Storing.{entry_flipped}
use Rattle.table.proofs.Records.{set-inside}
use Rattle.table.proofs.Bitmaps.{bitmap-same, bitmap-flip, bitmap-lt, vacant-first}

pub length-used : (ss : List Entry) → length (used ss) ≡ groups
length-used ss = length-row (λ g. bitmap is_taken (group g ss)) 0 groups

-- word g is that of group g
word_at : (ss : List Entry) (g : ℕ) → g < groups → get_or (used ss) g 0 ≡ bitmap is_taken (group g ss)
word_at ss g h = row_at (λ n. bitmap is_taken (group n ss)) 0 groups g h ∙ ap (λ (n : ℕ). bitmap is_taken (group n ss)) (zero-add g)

-- behind what stands before the bits
pub used-at : (ss : List Entry) (g : ℕ) → g < groups → (z t : List ℕ) → length z ≡ used_from → get_or (z ++ (used ss ++ t)) (used_from + g) 0 ≡ bitmap is_taken (group g ss)
used-at ss g h z t l =
    ap (λ (n : ℕ). get_or (z ++ (used ss ++ t)) (n + g) 0) (sym l) ∙ get_or-append-add z (used ss ++ t) g 0
    ∙ get_or-append (used ss) t 0 g (omega (arith, length-used ss)) ∙ word_at ss g h

-- ---- no entry

none-taken : (n j k : ℕ) → bitmap is_taken (take k (drop j (replicate n free))) ≡ 0
unfolding bitmap is_taken
none-taken zero j k = ap (λ (l : List Entry). bitmap is_taken (take k l)) (drop-nil j) ∙ ap (bitmap is_taken) (take-nil k)
none-taken (suc n) zero zero = refl
none-taken (suc n) zero (suc k) = let h : bitmap is_taken (take k (replicate n free)) ≡ 0 = none-taken n zero k in rw h
none-taken (suc n) (suc j) k = none-taken n j k

pub used-free : (n : ℕ) → used (replicate n free) ≡ replicate groups 0
unfolding group
used-free n = row-zeros (λ g. bitmap is_taken (group g (replicate n free))) 0 groups (λ g. none-taken n (g * 64) 64)

-- ---- one entry changes

group-set : (ss : List Entry) (i : ℕ) (x : Entry) → group (i / 64) (set ss i x) ≡ set (group (i / 64) ss) (i % 64) x
unfolding group
group-set ss i x =
    let e : i ≡ i / 64 * 64 + i % 64 = omega arith in
    ap (λ (k : ℕ). take 64 (drop (i / 64 * 64) (set ss k x))) e ∙ ap (take 64) (drop-set-add (i / 64 * 64) ss (i % 64) x)
    ∙ take-set-lt 64 (drop (i / 64 * 64) ss) (i % 64) x (omega arith)

group-other : (ss : List Entry) (i : ℕ) (x : Entry) (g : ℕ) → g ≢ i / 64 → group g (set ss i x) ≡ group g ss
unfolding group
group-other ss i x g n = go (ltb i (g * 64)) (ltb (i - g * 64) 64) refl refl
  where
    go : (b c : Bool) → ltb i (g * 64) ≡ b → ltb (i - g * 64) 64 ≡ c → take 64 (drop (g * 64) (set ss i x)) ≡ take 64 (drop (g * 64) ss)
    go true c e f = ap (take 64) (drop-set-lt (g * 64) ss i x (ltb-true i (g * 64) e))
    go false true e f = absurd (n (omega (arith, ltb-false i (g * 64) e, ltb-true (i - g * 64) 64 f)))
    go false false e f =
        let l : g * 64 ≤ i = ltb-false i (g * 64) e in
        let s : i ≡ g * 64 + (i - g * 64) = omega arith in
        ap (λ (k : ℕ). take 64 (drop (g * 64) (set ss k x))) s ∙ ap (take 64) (drop-set-add (g * 64) ss (i - g * 64) x)
        ∙ take-set-le 64 (drop (g * 64) ss) (i - g * 64) x (ltb-false (i - g * 64) 64 f)

-- the last group has no more entries than are left
length-group : (ss : List Entry) (g : ℕ) → length ss ≡ capacity → length (group g ss) ≡ min 64 (capacity - g * 64)
unfolding group
length-group ss g s = length-take 64 (drop (g * 64) ss) ∙ omega (arith, length-drop (g * 64) ss)

group_at : (ss : List Entry) (i : ℕ) → get_or (group (i / 64) ss) (i % 64) free ≡ get_or ss i free
unfolding group
group_at ss i =
    get_or-take 64 (drop (i / 64 * 64) ss) (i % 64) free (omega arith) ∙ get_or-drop (i / 64 * 64) ss (i % 64) free
    ∙ ap (λ (k : ℕ). get_or ss k free) (omega arith)

pub used-same : (ss : List Entry) (i : ℕ) (x : Entry) → is_taken x ≡ is_taken (get_or ss i free) → used (set ss i x) ≡ used ss
used-same ss i x e = row_same _ _ 0 groups (λ g _ _. go g (case g (i / 64)))
  where
    go : (g : ℕ) → Case g (i / 64) → bitmap is_taken (group g (set ss i x)) ≡ bitmap is_taken (group g ss)
    go g (same q) =
        rw q (ap (bitmap is_taken) (group-set ss i x) ∙ bitmap-same is_taken (group (i / 64) ss) (i % 64) x (e ∙ ap is_taken (sym (group_at ss i))))
    go g (other q) = ap (bitmap is_taken) (group-other ss i x g q)

-- an entry that is taken or freed
pub used-flipped : (ss : List Entry) (i : ℕ) → length ss ≡ capacity → i < capacity → (x : Entry) → is_taken x ≡ not (is_taken (get_or ss i free)) → (z t : List ℕ) → length z ≡ used_from
    → entry_flipped (z ++ (used ss ++ t)) i ≡ z ++ (used (set ss i x) ++ t)
used-flipped ss i s h x e z t l =
    let g : ℕ = i / 64 in
    let inside : g < groups = omega arith in
    let w : ℕ = bit_xor (get_or (z ++ (used ss ++ t)) (used_from + g) 0) (2 ^ (i % 64)) in
    set-inside z t (used ss) g (used_from + g) w (ap (λ (n : ℕ). n + g) l) (omega (arith, length-used ss))
    ∙ ap (λ (m : List ℕ). z ++ (m ++ t))
    (row-set (λ n. bitmap is_taken (group n ss)) (λ n. bitmap is_taken (group n (set ss i x))) 0 groups g w inside
    (λ j n. ap (bitmap is_taken) (sym (group-other ss i x j (λ y. n (y ∙ sym (zero-add g))))))
    (ap (λ (m : ℕ). bit_xor m (2 ^ (i % 64))) (used-at ss g inside z t l)
    ∙ bitmap-flip is_taken (group g ss) (i % 64) x (omega (arith, length-group ss g s)) (e ∙ ap (λ (y : Entry). not (is_taken y)) (sym (group_at ss i)))
    ∙ ap (bitmap is_taken) (sym (group-set ss i x)) ∙ ap (λ (n : ℕ). bitmap is_taken (group n (set ss i x))) (sym (zero-add g))))

-- ---- the lowest free entry

-- the lowest bit of those that are not taken
vacant : (ss : List Entry) (g m : ℕ) → length ss ≡ capacity → m ≡ 18446744073709551615 - bitmap is_taken (group g ss) → count_trailing_zeros 64 m ≡ position is_free (group g ss)
vacant ss g m s e =
    let n : length (group g ss) ≤ 64 = omega (arith, length-group ss g s) in
    vacant-first (group g ss) 64 m n (omega (arith, e, bitmap-lt is_taken (group g ss) 64 n))

-- past entries at which a test does not pass, and among some at which it does
position_past : (f : Entry → Bool) (n : ℕ) (ss : List Entry) → position f (take n ss) ≡ n → position f ss ≡ n + position f (drop n ss)
unfolding position
position_past f zero ss e = sym (zero-add (position f ss))
position_past f (suc n) [] e = absurd (omega (arith, e))
position_past f (suc n) (x ∷ ss) e = go (λ q. position_past f n ss q) (f x) e
  where
    go : (position f (take n ss) ≡ n → position f ss ≡ n + position f (drop n ss)) → (b : Bool) → cond b 0 (suc (position f (take n ss))) ≡ suc n
        → cond b 0 (suc (position f ss)) ≡ suc n + position f (drop n ss)
    go rest true q = absurd (omega (arith, q))
    go rest false q = omega (arith, rest (omega (arith, q)))

position-among : (f : Entry → Bool) (n : ℕ) (ss : List Entry) → position f (take n ss) < n → position f ss ≡ position f (take n ss)
unfolding position
position-among f zero ss h = absurd (omega (arith, h))
position-among f (suc n) [] h = refl
position-among f (suc n) (x ∷ ss) h = go (λ q. position-among f n ss q) (f x) h
  where
    go : (position f (take n ss) < n → position f ss ≡ position f (take n ss)) → (b : Bool) → cond b 0 (suc (position f (take n ss))) < suc n
        → cond b 0 (suc (position f ss)) ≡ cond b 0 (suc (position f (take n ss)))
    go rest true q = refl
    go rest false q = ap suc (rest (omega (arith, q)))

-- the entries before group g are taken
pub record Past (ss : List Entry) (g : ℕ) : Type 0 where
  pub is : position is_free ss ≡ g * 64 + position is_free (drop (g * 64) ss)

pub past-start : (ss : List Entry) → Past ss 0
past-start ss = record { is = sym (zero-add (position is_free ss)) }

module _ (ss : List Entry) (s : length ss ≡ capacity) (g : ℕ) (p : Past ss g) where
  -- and so are those of group g
  pub past-full : 0 ≡ 18446744073709551615 - bitmap is_taken (group g ss) → Past ss (suc g)
  unfolding group
  past-full e = record {
    is =
        p.is
        ∙ ap (λ (n : ℕ). g * 64 + n) (position_past is_free 64 (drop (g * 64) ss) (sym (vacant ss g 0 s e) ∙ trailing_of_zero 64))
        ∙ ap (λ (l : List Entry). g * 64 + (64 + position is_free l)) (drop-drop 64 (g * 64) ss)
        ∙ next;
  }
    where
      next : g * 64 + (64 + position is_free (drop (g * 64 + 64) ss)) ≡ suc g * 64 + position is_free (drop (suc g * 64) ss)
      next = let e : g * 64 + 64 ≡ suc g * 64 = omega arith in rw e (omega (arith, e))

  -- the lowest free entry is in group g, or there is none and its place is behind the last
  pub past-vacant : (m : ℕ) → m ≡ 18446744073709551615 - bitmap is_taken (group g ss) → count_trailing_zeros 64 m < 64 → position is_free ss ≡ g * 64 + count_trailing_zeros 64 m
  unfolding group
  past-vacant m e l =
      let v : count_trailing_zeros 64 m ≡ position is_free (group g ss) = vacant ss g m s e in
      p.is ∙ ap (λ (n : ℕ). g * 64 + n) (position-among is_free 64 (drop (g * 64) ss) (omega (arith, v)) ∙ sym v)

-- no group has a free entry
pub past_all : (ss : List Entry) → Past ss groups → capacity ≤ position is_free ss
past_all ss p = omega (arith, p.is)
