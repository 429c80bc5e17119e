-- Remainders of polynomials over the two elements 0 and 1, by long division. (Document 01, "The cell, 53 octets".)
-- A polynomial of degree below n is a number below 2 ^ n, or the list of its bits, high bits first. The bit of
-- weight 2 ^ i is the coefficient of x ^ i. Sums and differences are exclusive-ors.
use Rattle.std.specs.Prelude.{List, [], ◌∷◌, ◌++◌, ℕ, zero, suc, ◌+◌, ◌*◌, ◌/◌, ◌%◌, ◌^◌, replicate}
use Rattle.std.specs.Int.Bits.{bit_xor}

-- One step of a division by g, of degree w. The next bit b is brought down beside the remainder r. The quotient's
-- next digit is the coefficient of x ^ w that is then there. That multiple of g is taken away.
unfoldable pub bring : (w g r b : ℕ) → ℕ
bring w g r b = bit_xor (r * 2 + b) ((r * 2 + b) / 2 ^ w * g)

-- The whole division, from the remainder r on.
unfoldable pub divide : (w g r : ℕ) → List ℕ → ℕ
divide w g r [] = r
divide w g r (b ∷ bs) = divide w g (bring w g r b) bs

-- The remainder, by g of degree w, of the polynomial with these bits times x ^ w, starting from 0.
unfoldable pub remainder : (w g : ℕ) → List ℕ → ℕ
remainder w g bs = divide w g 0 (bs ++ replicate w 0)

-- The n low bits of x, high bits first.
unfoldable pub bits : ℕ → ℕ → List ℕ
bits zero x = []
bits (suc n) x = x / 2 ^ n % 2 ∷ bits n x

-- The bits of a row of octets, high bits first.
unfoldable pub octet_bits : List ℕ → List ℕ
octet_bits [] = []
octet_bits (o ∷ os) = bits 8 o ++ octet_bits os
