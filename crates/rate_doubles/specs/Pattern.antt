-- The parts of a double's bit pattern, and the code that they make. (Document 02, L8.)
use Rattle.std.specs.Prelude.{ℕ, ◌+◌, ◌-◌, ◌*◌, ◌/◌, ◌%◌, ◌^◌, cond, eqb, pos, Float}
use Rattle.std.specs.Float.{binary64}
use Rattle.std.specs.Float.Ieee.{div, of_int}
use Rattle.rate_doubles.specs.Import.{Imported, Exact, Below}

-- the double is 2^place × (1 + digits / 2^52)
abbrev pub place : ℕ → ℕ
place b = b / 2 ^ 52 - 1023

abbrev pub digits : ℕ → ℕ
digits b = b % 2 ^ 52

-- the leading nine digits, and the 43 below them
abbrev pub lead : ℕ → ℕ
lead b = digits b / 2 ^ 43

abbrev pub low : ℕ → ℕ
low b = digits b % 2 ^ 43

abbrev pub pattern_code : ℕ → ℕ
pattern_code b = 16384 + place b * 512 + lead b

-- low over 2^(52 - place)
abbrev pub pattern_remainder : ℕ → Float
pattern_remainder b = div binary64 (of_int binary64 (pos (low b))) (of_int binary64 (pos (2 ^ 52 / 2 ^ place b)))

unfoldable pub pattern_split : ℕ → Imported
pattern_split b = cond (eqb (low b) 0) (Exact (pattern_code b)) (Below (pattern_code b) (pattern_remainder b))
