-- What the code keeps while it folds a payload down to its CRC-10: the payload's number, and that number's
-- remainder by a factor of the generator. (Document 01, "The cell, 53 octets".)
use Rattle.std.specs.Prelude.{ℕ, ◌+◌, ◌*◌, ◌^◌}
use Rattle.cell_crc.specs.Remainder.{divide, bits}
use Rattle.cell_payload.specs.declared.payload.Payload.{Payload}

-- six words as one number of 384 bits
abbrev pub limbs : (a b c d e f : ℕ) → ℕ
limbs a b c d e f = ((((a * 2 ^ 64 + b) * 2 ^ 64 + c) * 2 ^ 64 + d) * 2 ^ 64 + e) * 2 ^ 64 + f

abbrev pub wide : Payload → ℕ
wide p = limbs p.a p.b p.c p.d p.e p.f

-- the remainder of such a number by x^9 + x^4 + 1
abbrev pub trinomial : ℕ → ℕ
trinomial x = divide 9 0x211 0 (bits 384 x)
