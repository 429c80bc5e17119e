-- The remainder by x + 1 is the parity.
use mathlib.Core.Path.{◌≡◌, refl, sym, ap, ap₂, ◌∙◌, subst}
use Prim.Native.Nat.{ℕ, zero, suc, ◌+◌, ◌*◌, ◌/◌, ◌%◌, ◌^◌, ◌<◌}
use native.Mathlib.Nat.{add-mod, le_of_suc-le-suc, mod-lt, mod-mod, not-suc-le-zero}
use native.Mathlib.Numerals.{add-one}
use lib.Bits.{bit_xor}
use lib.Count.{ones, ones_in, ones_step}
use lib.Dec.{lit<}
use lib.ListN.{replicate}
use lib.Pow.{shr_lt, split}
use Rattle.cell_crc.specs.Remainder.{bring, divide, bits}
use Rattle.cell_crc.proofs.Below.{agree}
use Rattle.cell_crc.proofs.Xor.{none}
use Rattle.cell_crc.proofs.Fold.{apart, rem-append, rem_lt, rem-xor, up}
use Rattle.cell_crc.proofs.Factors.{by1}

-- by x + 1 each power of x has the remainder 1
one : (n r : ℕ) → r < 2 → up 1 3 refl n r ≡ r
unfolding divide bring
one zero r h = refl
one (suc n) r h = ap (λ (z : ℕ). divide 1 3 z (replicate n 0)) (agree (λ r. bring 1 3 r 0) (λ r. r) 2 tt r h) ∙ one n r h

-- so bits brought down are added to what is there
by1-append : (m n x y : ℕ) → y < 2 ^ n → by1 (m + n) (x * 2 ^ n + y) ≡ bit_xor (by1 m x) (by1 n y)
by1-append m n x y h =
    rem-append 1 3 refl m n x y h ∙ apart 1 3 refl n (by1 m x) y (rem_lt 1 3 refl m x)
    ∙ ap (λ (z : ℕ). bit_xor z (by1 n y)) (one n (by1 m x) (rem_lt 1 3 refl m x))

-- a word more, after m bits that made x
pub by1-more : (m x q w : ℕ) → by1 64 q ≡ by1 m x → w < 2 ^ 64 → by1 64 (bit_xor q w) ≡ by1 (m + 64) (x * 2 ^ 64 + w)
by1-more m x q w e h = rem-xor 1 3 refl 64 q w ∙ ap (λ (z : ℕ). bit_xor z (by1 64 w)) e ∙ sym (by1-append m 64 x w h)

low1 : (y : ℕ) → y < 2 → by1 1 y ≡ y
unfolding divide bring bits
low1 y h = agree (λ y. by1 1 y) (λ y. y) 2 tt y h

-- two digits
digits : (x y : ℕ) → x < 2 → y < 2 → (x + y) % 2 ≡ bit_xor y x
digits zero zero hx hy = refl
digits zero (suc zero) hx hy = refl
digits (suc zero) zero hx hy = refl
digits (suc zero) (suc zero) hx hy = refl
digits zero (suc (suc y)) hx hy = none hy
digits (suc zero) (suc (suc y)) hx hy = none hy
digits (suc (suc x)) y hx hy = none hx

none-set : (z : ℕ) → z < 1 → ones z % 2 ≡ 0
unfolding ones ones_in
none-set zero h = refl
none-set (suc z) h = absurd (not-suc-le-zero (le_of_suc-le-suc h))

-- the number of digits set, halved
pub ones_is : (n z : ℕ) → z < 2 ^ n → ones z % 2 ≡ by1 n z
unfolding bits divide
ones_is zero z h = none-set z h
ones_is (suc n) z h =
    let hb : z % 2 < 2 = mod-lt z (lit< tt) in
    let hh : z / 2 < 2 ^ n = shr_lt n 1 (subst (λ (m : ℕ). z < 2 ^ m) (sym (add-one n)) h) in
    let ho : ones (z / 2) % 2 < 2 = mod-lt (ones (z / 2)) (lit< tt) in
    ap (λ (m : ℕ). m % 2) (ones_step z)
    ∙ add-mod (z % 2) (ones (z / 2)) 2
    ∙ ap (λ (m : ℕ). (m + ones (z / 2) % 2) % 2) (mod-mod z 2)
    ∙ digits (z % 2) (ones (z / 2) % 2) hb ho
    ∙ ap₂ bit_xor (ones_is n (z / 2) hh) (sym (low1 (z % 2) hb))
    ∙ sym (by1-append n 1 (z / 2) (z % 2) hb)
    ∙ ap₂ by1 (add-one n) (split z 1)
