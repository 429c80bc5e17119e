-- What makes a number a remainder, and sums of polynomials, in terms of their bits alone.
-- (Document 01, "The cell, 53 octets".)
use Rattle.std.specs.Prelude.{◌≡◌, List, [], ◌∷◌, ℕ, ◌+◌, ◌*◌, ◌^◌, ◌<◌, length}
use Rattle.std.specs.Int.Bits.{bit_xor}

-- each is 0 or 1
abbrev pub Binary : List ℕ → Type 0
Binary [] = Unit
Binary (b ∷ bs) = (b < 2) × Binary bs

-- the number with these bits, high bits first
unfoldable pub bits_number : List ℕ → ℕ
bits_number [] = 0
bits_number (b ∷ bs) = b * 2 ^ length bs + bits_number bs

-- the product of the polynomial with these bits and g
unfoldable pub product : List ℕ → ℕ → ℕ
product [] g = 0
product (q ∷ qs) g = bit_xor (q * g * 2 ^ length qs) (product qs g)

-- the polynomial with these bits, times x ^ w, is a multiple of g plus r, and r has a degree below w
pub record Remains (w g : ℕ) (bs : List ℕ) (r : ℕ) : Type 0 where
  pub quotient : List ℕ
  pub digits : Binary quotient
  pub whole : bits_number bs * 2 ^ w ≡ bit_xor (product quotient g) r
  pub small : r < 2 ^ w

-- the sum of two polynomials, bit by bit
unfoldable pub sum : List ℕ → List ℕ → List ℕ
sum [] ys = ys
sum (x ∷ xs) [] = x ∷ xs
sum (x ∷ xs) (y ∷ ys) = bit_xor x y ∷ sum xs ys
