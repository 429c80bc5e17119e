-- x^10 + x^9 + x^5 + x^4 + x + 1 is (x^9 + x^4 + 1) (x + 1): a remainder by it is made of those by the two factors.
use mathlib.Core.Path.{◌≡◌, refl, sym, ap, ap₂, ◌∙◌}
use Prim.Native.Nat.{ℕ, zero, suc, ◌+◌, ◌*◌, ◌/◌, ◌%◌, ◌^◌, ◌<◌}
use native.Mathlib.Nat.{div-one, mod-eq_of_lt, mod-lt}
use native.Mathlib.Numerals.{add-one, one-add}
use native.Mathlib.Omega.{arith}
use lib.Bits.{bit_xor, xor_lt, xor_zero_r}
use lib.Dec.{lit<}
use Rattle.cell_crc.specs.Remainder.{bring, divide, bits}
use Rattle.cell_crc.proofs.Below.{agree}
use Rattle.cell_crc.proofs.Division.{digit_lt, bring-lt}
use Rattle.cell_crc.proofs.Fold.{rem-append, rem_lt, rem-more, rem-xor}

-- a remainder by g has the remainder by a divisor of g that the number itself has
module _ (w g : ℕ) (degree : g / 2 ^ w ≡ 1) (j d : ℕ) (degree' : d / 2 ^ j ≡ 1)
    (divides : (t : ℕ) → t < 2 → divide j d 0 (bits (suc w) (t * g)) ≡ 0) where
  tower-bring : (r b : ℕ) → r < 2 ^ w → b < 2 → divide j d 0 (bits w (bring w g r b)) ≡ bring j d (divide j d 0 (bits w r)) b
  unfolding bring divide bits
  tower-bring r b hr hb =
      let v : ℕ = r * 2 + b in
      let t : ℕ = v / 2 ^ w in
      sym (ap (λ (n : ℕ). divide j d 0 (bits n (bring w g r b))) (sym (one-add w)) ∙ rem-more j d degree' 1 w (bring w g r b) (bring-lt w g degree r b hr hb))
      ∙ rem-xor j d degree' (suc w) v (t * g)
      ∙ ap (bit_xor (divide j d 0 (bits (suc w) v))) (divides t (digit_lt w g degree r b hr hb))
      ∙ xor_zero_r (divide j d 0 (bits (suc w) v))
      ∙ ap (λ (n : ℕ). divide j d 0 (bits n v)) (sym (add-one w))
      ∙ rem-append j d degree' w 1 r b hb
      ∙ ap (bring j d (divide j d 0 (bits w r))) (ap (λ (x : ℕ). x % 2) (div-one b) ∙ mod-eq_of_lt hb)

  tower : (n r x : ℕ) → r < 2 ^ w → divide j d 0 (bits w (divide w g r (bits n x))) ≡ divide j d (divide j d 0 (bits w r)) (bits n x)
  unfolding divide bits
  tower zero r x hr = refl
  tower (suc n) r x hr =
      let b : ℕ = x / 2 ^ n % 2 in
      let hb : b < 2 = mod-lt (x / 2 ^ n) (lit< tt) in
      tower n (bring w g r b) x (bring-lt w g degree r b hr hb)
      ∙ ap (λ (z : ℕ). divide j d z (bits n x)) (tower-bring r b hr hb)

divides9 : (t : ℕ) → t < 2 → divide 9 0x211 0 (bits 11 (t * 0x633)) ≡ 0
unfolding divide bring bits
divides9 t h = agree (λ t. divide 9 0x211 0 (bits 11 (t * 0x633))) (λ t. 0) 2 tt t h

divides1 : (t : ℕ) → t < 2 → divide 1 3 0 (bits 11 (t * 0x633)) ≡ 0
unfolding divide bring bits
divides1 t h = agree (λ t. divide 1 3 0 (bits 11 (t * 0x633))) (λ t. 0) 2 tt t h

none9 : divide 9 0x211 0 (bits 10 0) ≡ 0
unfolding divide bring bits
none9 = refl

none1 : divide 1 3 0 (bits 10 0) ≡ 0
unfolding divide bring bits
none1 = refl

-- by x^9 + x^4 + 1, and by x + 1, the remainder of a number of n bits
abbrev pub by9 : ℕ → ℕ → ℕ
by9 n x = divide 9 0x211 0 (bits n x)

abbrev pub by1 : ℕ → ℕ → ℕ
by1 n x = divide 1 3 0 (bits n x)

abbrev pub by10 : ℕ → ℕ → ℕ
by10 n x = divide 10 0x633 0 (bits n x)

-- a remainder of ten bits from its remainders by the two factors, at each of the 1,024
abbrev made : ℕ → ℕ → ℕ
made t p = bit_xor t (bit_xor (by1 10 t) p * 0x211)

from-both : (r : ℕ) → r < 1024 → r ≡ made (by9 10 r) (by1 10 r)
unfolding divide bring bits
from-both r h = agree (λ r. r) (λ r. made (by9 10 r) (by1 10 r)) 1024 tt r h

-- t with the remainder by the first factor and q with the parity of the number make the whole remainder
pub joined : (n x t q : ℕ) → t ≡ by9 n x → by1 64 q ≡ by1 n x → bit_xor t (by1 64 (bit_xor t q) * 0x211) ≡ by10 n x
joined n x t q et eq =
    let r : ℕ = by10 n x in
    let hr : r < 1024 = rem_lt 10 0x633 refl n x in
    let e9 : by9 10 r ≡ by9 n x = tower 10 0x633 refl 9 0x211 refl divides9 n 0 x (lit< tt) ∙ ap (λ (z : ℕ). divide 9 0x211 z (bits n x)) none9 in
    let e1 : by1 10 r ≡ by1 n x = tower 10 0x633 refl 1 3 refl divides1 n 0 x (lit< tt) ∙ ap (λ (z : ℕ). divide 1 3 z (bits n x)) none1 in
    let ht : by9 n x < 512 = rem_lt 9 0x211 refl n x in
    ap (λ (z : ℕ). bit_xor t (z * 0x211)) (rem-xor 1 3 refl 64 t q ∙ ap₂ bit_xor (rem-more 1 3 refl 54 10 t (omega arith)) (eq ∙ sym e1))
    ∙ ap (λ (z : ℕ). made z (by1 10 r)) (et ∙ sym e9)
    ∙ sym (from-both r hr)

pub joined-lt : (t z : ℕ) → t < 512 → z < 2 → bit_xor t (z * 0x211) < 1024
joined-lt t z ht hz = xor_lt 10 t (z * 0x211) (omega arith) (omega arith)
