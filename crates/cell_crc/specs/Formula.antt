-- The formula for the remainder of a header's octets times x^8. By the generator, x^8 is x^2 + x + 1.
-- (Document 01, "The cell, 53 octets"; document 02, L3.)
use Rattle.std.specs.Prelude.{ℕ, ◌*◌, ◌/◌, ◌%◌}
use Rattle.std.specs.Int.Bits.{bit_xor}

-- a number times x^2 + x + 1, without carries
abbrev pub times : ℕ → ℕ
times v = bit_xor (bit_xor v (v * 2)) (v * 4)

-- a number times its square, x^4 + x^2 + 1
abbrev pub times_square : ℕ → ℕ
times_square v = bit_xor (bit_xor v (v * 4)) (v * 16)

-- the bits above the octet times x^2 + x + 1, added to the low eight
abbrev pub folded_octet : ℕ → ℕ
folded_octet v = bit_xor (v % 256) (times (v / 256))
