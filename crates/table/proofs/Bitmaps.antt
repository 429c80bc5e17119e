-- Laws of bitmaps, one bit an entry: the bit of an entry that changes, and the lowest bit that is not set.
use Prim.Native.Nat.{ℕ, zero, suc, ◌+◌, ◌*◌, ◌/◌, ◌%◌, ◌^◌, ◌≤◌, ◌<◌}
use mathlib.Core.Path.{◌≡◌, refl, ap, ap₂, ◌∙◌}
use mathlib.Core.Bool.{Bool, true, false, cond, not}
use mathlib.Core.List.{List, [], ◌∷◌}
use native.Mathlib.Nat.{not-suc-le-zero, le_of_suc-le-suc, pow-suc, one-mul}
use native.Mathlib.Omega.{arith}
use lib.Bits.{bit_xor, xor_block, xor_zero_r}
use lib.Count.{count_trailing_zeros}
use lib.Dec.{lit<}
use lib.ListN.{length, get_or, set}
use lib.Pow.{pow_pos, shl_exact}
use Rattle.model.specs.State.{Entry, free, taken, position, is_free}
use Rattle.table.specs.Layout.{bitmap, is_taken}

-- a bit
abbrev bit : Bool → ℕ
bit b = cond b 1 0

bit-lt : (b : Bool) → bit b < 2
bit-lt true = lit< tt
bit-lt false = lit< tt

-- the bit of an entry in its word, as the code shifts it into its place
pub one_bit : (i : ℕ) → i < 64 → 1 * 2 ^ i % 2 ^ 64 ≡ 2 ^ i
one_bit i h = shl_exact 1 i 64 (lit< tt) (omega arith) ∙ one-mul (2 ^ i)

-- ---- one entry changes

pub bitmap-same : (f : Entry → Bool) (ss : List Entry) (i : ℕ) (x : Entry) → f x ≡ f (get_or ss i free) → bitmap f (set ss i x) ≡ bitmap f ss
unfolding bitmap
bitmap-same f [] i x e = refl
bitmap-same f (s ∷ ss) zero x e = ap (λ (b : Bool). bitmap f ss * 2 + bit b) e
bitmap-same f (s ∷ ss) (suc i) x e = ap (λ (m : ℕ). m * 2 + bit (f s)) (bitmap-same f ss i x e)

-- its bit changes
flip-bit : (b c : Bool) → c ≡ not b → bit_xor (bit b) 1 ≡ bit c
flip-bit true c e = rw e
flip-bit false c e = rw e

pub bitmap-flip : (f : Entry → Bool) (ss : List Entry) (i : ℕ) (x : Entry) → i < length ss → f x ≡ not (f (get_or ss i free)) → bit_xor (bitmap f ss) (2 ^ i) ≡ bitmap f (set ss i x)
unfolding bitmap
bitmap-flip f [] i x l e = absurd (not-suc-le-zero l)
bitmap-flip f (s ∷ ss) zero x l e =
    xor_block 1 (bitmap f ss) 0 (bit (f s)) 1 (bit-lt (f s)) (lit< tt)
    ∙ ap₂ (λ (m b : ℕ). m * 2 + b) (xor_zero_r (bitmap f ss)) (flip-bit (f s) (f x) e)
bitmap-flip f (s ∷ ss) (suc i) x l e =
    ap (bit_xor (bitmap f ss * 2 + bit (f s))) (pow-suc 2 i ∙ omega arith)
    ∙ xor_block 1 (bitmap f ss) (2 ^ i) (bit (f s)) 0 (bit-lt (f s)) (lit< tt)
    ∙ ap₂ (λ (m b : ℕ). m * 2 + b) (bitmap-flip f ss i x (le_of_suc-le-suc l) e) (xor_zero_r (bit (f s)))

-- ---- the lowest bit that is not set

pub bitmap-lt : (f : Entry → Bool) (ss : List Entry) (n : ℕ) → length ss ≤ n → bitmap f ss < 2 ^ n
unfolding bitmap
bitmap-lt f [] n h = pow_pos n
bitmap-lt f (s ∷ ss) zero h = absurd (not-suc-le-zero h)
bitmap-lt f (s ∷ ss) (suc n) h = omega (arith, bitmap-lt f ss n (le_of_suc-le-suc h), bit-lt (f s), pow-suc 2 n)

-- In a word of n bits that has room for all entries it is that of the first free one. Where all are taken it is the
-- bit behind the last one's.
pub vacant-first : (ss : List Entry) (n m : ℕ) → length ss ≤ n → m + bitmap is_taken ss + 1 ≡ 2 ^ n → count_trailing_zeros n m ≡ position is_free ss
unfolding bitmap is_taken is_free position count_trailing_zeros
vacant-first [] zero m h e = refl
vacant-first [] (suc n) m h e = let o : m % 2 ≡ 1 = omega (arith, e, pow-suc 2 n) in rw o
vacant-first (s ∷ ss) zero m h e = absurd (not-suc-le-zero h)
vacant-first (free ∷ ss) (suc n) m h e = let o : m % 2 ≡ 1 = omega (arith, e, pow-suc 2 n) in rw o
vacant-first (taken c ∷ ss) (suc n) m h e =
    let o : m % 2 ≡ 0 = omega (arith, e, pow-suc 2 n) in
    rw o (ap suc (vacant-first ss n (m / 2) (le_of_suc-le-suc h) (omega (arith, e, pow-suc 2 n))))
