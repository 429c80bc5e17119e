-- Rows of bits: they are 0 or 1, they come apart, and they add bit by bit.
use mathlib.Core.Path.{◌≡◌, refl, sym, ap, ap₂, ◌∙◌}
use mathlib.Core.List.{List, [], ◌∷◌, ◌++◌, append_assoc}
use Prim.Native.Nat.{ℕ, zero, suc, ◌+◌, ◌*◌, ◌/◌, ◌%◌, ◌^◌, ◌<◌}
use native.Mathlib.Nat.{mod-eq_of_lt, zero-div, mod-lt, mod-mod, zero-add, suc-add, add_comm}
use native.Mathlib.Numerals.{one-add}
use native.Mathlib.Omega.{arith}
use lib.Bits.{bit_xor, xor_shr, xor_mod}
use lib.Dec.{lit<}
use lib.ListN.{length, replicate, take}
use lib.Pow.{field, shr-shr, high, low, mod-mod-pow, pow_pos, split}
use Rattle.cell_crc.specs.Remainder.{bits, octet_bits}
use Rattle.cell_crc.specs.Multiple.{Binary, sum}

pub length-bits : (n x : ℕ) → length (bits n x) ≡ n
unfolding bits
length-bits zero x = refl
length-bits (suc n) x = ap suc (length-bits n x)

pub bits-binary : (n x : ℕ) → Binary (bits n x)
unfolding bits
bits-binary zero x = tt
bits-binary (suc n) x = (mod-lt (x / 2 ^ n) (lit< tt), bits-binary n x)

pub append-binary : (xs ys : List ℕ) → Binary xs → Binary ys → Binary (xs ++ ys)
append-binary [] ys hx hy = hy
append-binary (x ∷ xs) ys hx hy = (hx.0, append-binary xs ys hx.1 hy)

pub zeros-binary : (n : ℕ) → Binary (replicate n 0)
zeros-binary zero = tt
zeros-binary (suc n) = (lit< tt, zeros-binary n)

pub octets-binary : (os : List ℕ) → Binary (octet_bits os)
unfolding octet_bits
octets-binary [] = tt
octets-binary (o ∷ os) = append-binary (bits 8 o) (octet_bits os) (bits-binary 8 o) (octets-binary os)

pub take-binary : (n : ℕ) (xs : List ℕ) → Binary xs → Binary (take n xs)
take-binary zero xs h = tt
take-binary (suc n) [] h = tt
take-binary (suc n) (x ∷ xs) h = (h.0, take-binary n xs h.1)

pub octet_bits-append : (xs ys : List ℕ) → octet_bits (xs ++ ys) ≡ octet_bits xs ++ octet_bits ys
unfolding octet_bits
octet_bits-append [] ys = refl
octet_bits-append (x ∷ xs) ys = ap (λ (l : List ℕ). bits 8 x ++ l) (octet_bits-append xs ys) ∙ sym (append_assoc (bits 8 x) (octet_bits xs) (octet_bits ys))

-- the n low bits are those of the number below 2 ^ n
pub bits-low : (n z w : ℕ) → z % 2 ^ n ≡ w % 2 ^ n → bits n z ≡ bits n w
unfolding bits
bits-low zero z w e = refl
bits-low (suc n) z w e =
    let e' : z % 2 ^ (1 + n) ≡ w % 2 ^ (1 + n) = ap (λ (m : ℕ). z % 2 ^ m) (one-add n) ∙ e ∙ ap (λ (m : ℕ). w % 2 ^ m) (sym (one-add n)) in
    ap₂ (λ (b : ℕ) (l : List ℕ). b ∷ l)
    (sym (field z 1 n) ∙ ap (λ (x : ℕ). x / 2 ^ n) e' ∙ field w 1 n)
    (bits-low n z w (sym (mod-mod-pow z 1 n) ∙ ap (λ (x : ℕ). x % 2 ^ n) e' ∙ mod-mod-pow w 1 n))

-- the bits of a high part and of n low bits
pub bits-append : (m n x y : ℕ) → y < 2 ^ n → bits (m + n) (x * 2 ^ n + y) ≡ bits m x ++ bits n y
unfolding bits
bits-append zero n x y h = ap (λ (m : ℕ). bits m (x * 2 ^ n + y)) (zero-add n) ∙ bits-low n (x * 2 ^ n + y) y (low x n h ∙ sym (mod-eq_of_lt h))
bits-append (suc m) n x y h =
    ap (λ (l : ℕ). bits l (x * 2 ^ n + y)) (suc-add m n)
    ∙ ap₂ (λ (b : ℕ) (l : List ℕ). b ∷ l)
    (ap (λ (z : ℕ). z % 2) (ap (λ (e : ℕ). (x * 2 ^ n + y) / 2 ^ e) (add_comm m n) ∙ sym (shr-shr (x * 2 ^ n + y) n m) ∙ ap (λ (z : ℕ). z / 2 ^ m) (high x n h)))
    (bits-append m n x y h)

-- the bits of a number, in two parts
pub bits-split : (m n x : ℕ) → bits (m + n) x ≡ bits m (x / 2 ^ n) ++ bits n (x % 2 ^ n)
bits-split m n x = ap (bits (m + n)) (sym (split x n)) ∙ bits-append m n (x / 2 ^ n) (x % 2 ^ n) (mod-lt x (pow_pos n))

-- k bits from the bit of weight 2 ^ n on, and those below
pub bits-part : (k n x : ℕ) → bits k (x / 2 ^ n % 2 ^ k) ++ bits n x ≡ bits (k + n) x
bits-part k n x =
    ap₂ (λ (s t : List ℕ). s ++ t) (bits-low k (x / 2 ^ n % 2 ^ k) (x / 2 ^ n) (mod-mod (x / 2 ^ n) (2 ^ k))) (bits-low n x (x % 2 ^ n) (sym (mod-mod x (2 ^ n))))
    ∙ sym (bits-split k n x)

pub bits-zero : (n : ℕ) → bits n 0 ≡ replicate n 0
unfolding bits
bits-zero zero = refl
bits-zero (suc n) = ap₂ (λ (b : ℕ) (l : List ℕ). b % 2 ∷ l) (zero-div (2 ^ n)) (bits-zero n)

pub bits-sum : (n x y : ℕ) → bits n (bit_xor x y) ≡ sum (bits n x) (bits n y)
unfolding bits sum
bits-sum zero x y = refl
bits-sum (suc n) x y =
    ap₂ (λ (b : ℕ) (l : List ℕ). b ∷ l) (ap (λ (z : ℕ). z % 2) (xor_shr x y n) ∙ xor_mod (x / 2 ^ n) (y / 2 ^ n) 1) (bits-sum n x y)

pub sum-append : (xs ys us vs : List ℕ) → length xs ≡ length ys → sum (xs ++ us) (ys ++ vs) ≡ sum xs ys ++ sum us vs
unfolding sum
sum-append [] [] us vs e = refl
sum-append [] (y ∷ ys) us vs e = let z : ◌≡◌ {A = ℕ} 0 1 = cc in absurd (omega arith)
sum-append (x ∷ xs) [] us vs e = let z : ◌≡◌ {A = ℕ} 0 1 = cc in absurd (omega arith)
sum-append (x ∷ xs) (y ∷ ys) us vs e = ap (λ (l : List ℕ). bit_xor x y ∷ l) (sum-append xs ys us vs (cc))
