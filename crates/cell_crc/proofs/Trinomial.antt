-- The folds by x^9 + x^4 + 1: each keeps the remainder.
use mathlib.Core.Path.{◌≡◌, refl, sym, ap, ◌∙◌, subst}
use Prim.Native.Nat.{ℕ, ◌+◌, ◌%◌, ◌^◌, ◌<◌, ◌≤◌}
use native.Mathlib.Nat.{mod-eq_of_lt, zero-add}
use native.Mathlib.Omega.{arith}
use lib.Bits.{bit_xor}
use lib.Dec.{lit≤}
use lib.ListN.{replicate}
use Rattle.cell_crc.specs.Remainder.{bring, divide}
use Rattle.cell_crc.specs.Folding.{trinomial}
use Rattle.cell_crc.proofs.Below.{agree}
use Rattle.cell_crc.proofs.Division.{divide-low}
use Rattle.cell_crc.proofs.Fold.{Law, fold, folded, folded-lt, rem-more, square}

-- x^9 has the remainder of x^4 + 1, x^18 that of x^8 + 1, and so on
law9 : Law 9 0x211 refl 9 4
unfolding divide bring
law9 r h = agree (λ r. divide 9 0x211 r (replicate 9 0)) (λ r. bit_xor (divide 9 0x211 r (replicate 4 0)) r) 512 tt r h

law18 : Law 9 0x211 refl 18 8
law18 = square 9 0x211 refl 9 4 law9

law36 : Law 9 0x211 refl 36 16
law36 = square 9 0x211 refl 18 8 law18

law72 : Law 9 0x211 refl 72 32
law72 = square 9 0x211 refl 36 16 law36

law144 : Law 9 0x211 refl 144 64
law144 = square 9 0x211 refl 72 32 law72

law288 : Law 9 0x211 refl 288 128
law288 = square 9 0x211 refl 144 64 law144

-- z, which is x folded, has the remainder of x, and fewer bits: n if x has k + i, and m if it has l + i
module _ (i j p q : ℕ) (ei : p + i ≡ 384) (ej : q + j ≡ 384) (law : Law 9 0x211 refl i j) where
  once : (k n x z : ℕ) → k ≤ p → k ≤ q → i ≤ n → k + j ≤ n → z ≡ folded i j x → x < 2 ^ (k + i) → (trinomial z ≡ trinomial x) × (z < 2 ^ n)
  once k n x z kp kq hi hj e h = (
    ap trinomial e ∙ fold 9 0x211 refl 384 i j p q k x ei ej kp kq h law,
    subst (λ (y : ℕ). y < 2 ^ n) (sym e) (folded-lt i j k n x h hi hj),
  )

  twice : (k n l m x z : ℕ) → k ≤ p → k ≤ q → i ≤ n → k + j ≤ n → i ≤ m → l + j ≤ m → z ≡ folded i j x → x < 2 ^ (k + i)
      → (trinomial z ≡ trinomial x) × (z < 2 ^ n) × (x < 2 ^ (l + i) → z < 2 ^ m)
  twice k n l m x z kp kq hi hj hi' hl e h =
      let o = once k n x z kp kq hi hj e h in
      (o.0, o.1, λ g. subst (λ (y : ℕ). y < 2 ^ m) (sym e) (folded-lt i j l m x g hi' hl))

pub down288 : (x z : ℕ) → z ≡ folded 288 128 x → x < 2 ^ 384 → (trinomial z ≡ trinomial x) × (z < 2 ^ 288)
down288 x z = once 288 128 96 256 refl refl law288 96 288 x z (lit≤ tt) (lit≤ tt) (lit≤ tt) (lit≤ tt)

pub down144 : (x z : ℕ) → z ≡ folded 144 64 x → x < 2 ^ 288 → (trinomial z ≡ trinomial x) × (z < 2 ^ 208) × (x < 2 ^ 208 → z < 2 ^ 144)
down144 x z = twice 144 64 240 320 refl refl law144 144 208 64 144 x z (lit≤ tt) (lit≤ tt) (lit≤ tt) (lit≤ tt) (lit≤ tt) (lit≤ tt)

pub down72 : (x z : ℕ) → z ≡ folded 72 32 x → x < 2 ^ 144 → (trinomial z ≡ trinomial x) × (z < 2 ^ 104) × (x < 2 ^ 104 → z < 2 ^ 72)
down72 x z = twice 72 32 312 352 refl refl law72 72 104 32 72 x z (lit≤ tt) (lit≤ tt) (lit≤ tt) (lit≤ tt) (lit≤ tt) (lit≤ tt)

pub word36-is : (x z : ℕ) → z ≡ folded 36 16 x → x < 2 ^ 72 → (trinomial z ≡ trinomial x) × (z < 2 ^ 52)
word36-is x z = once 36 16 348 368 refl refl law36 36 52 x z (lit≤ tt) (lit≤ tt) (lit≤ tt) (lit≤ tt)

pub down36 : (x z : ℕ) → z ≡ folded 36 16 x → x < 2 ^ 52 → (trinomial z ≡ trinomial x) × (z < 2 ^ 36)
down36 x z = once 36 16 348 368 refl refl law36 16 36 x z (lit≤ tt) (lit≤ tt) (lit≤ tt) (lit≤ tt)

pub down18 : (x z : ℕ) → z ≡ folded 18 8 x → x < 2 ^ 36 → (trinomial z ≡ trinomial x) × (z < 2 ^ 26) × (x < 2 ^ 26 → z < 2 ^ 18)
down18 x z = twice 18 8 366 376 refl refl law18 18 26 8 18 x z (lit≤ tt) (lit≤ tt) (lit≤ tt) (lit≤ tt) (lit≤ tt) (lit≤ tt)

pub down9 : (x z : ℕ) → z ≡ folded 9 4 x → x < 2 ^ 18 → (trinomial z ≡ trinomial x) × (z < 2 ^ 13) × (x < 2 ^ 13 → z < 2 ^ 9)
down9 x z = twice 9 4 375 380 refl refl law9 9 13 4 9 x z (lit≤ tt) (lit≤ tt) (lit≤ tt) (lit≤ tt) (lit≤ tt) (lit≤ tt)

-- nine bits are their own remainder
pub low9 : (t : ℕ) → t < 512 → trinomial t ≡ t
low9 t h = rem-more 9 0x211 refl 375 9 t h ∙ divide-low 9 0x211 refl 9 0 t (omega arith) ∙ zero-add (t % 512) ∙ mod-eq_of_lt h
