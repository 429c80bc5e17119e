-- What importing a double answers, for every double. (Document 02, L8.)
use Rattle.std.specs.Prelude.{ℕ, ◌-◌, ◌*◌, ◌/◌, ◌^◌, Bool, false, cond, not, ◌&&◌, leb, ltb, eqb, Result, Ok, Err, Float}
use Rattle.std.specs.Float.{nan, inf, fin, binary64}
use Rattle.std.specs.Float.Ieee.{up, down, round}
use Rattle.laws.specs.declared.refusals.Refusal.{Refusal}
use Rattle.laws.specs.declared.refusals.Refusal.TheVariants.{Double}
use Rattle.rate.specs.Code.{rate_of, code_of}
pub use Rattle.rate_doubles.specs.declared.import.Imported.{Imported}
pub use Rattle.rate_doubles.specs.declared.import.Imported.TheVariants.{Exact, Below}

-- what is left of a / b units of 1/512 after the code's rate is subtracted, in cells per second; `round` changes
-- nothing here: see `ImportsExactly`, Exact.antt
abbrev pub remainder_of : (code a b : ℕ) → Float
remainder_of code a b = round binary64 false (a - rate_of code * b) (512 * b)

-- the code of a / b units of 1/512, and what is left of them
unfoldable pub split_at : (code a b : ℕ) → Imported
split_at code a b = cond (eqb a (rate_of code * b)) (Exact code) (Below code (remainder_of code a b))

-- not below 0, not between 0 and 1, not 2^32 or more: a / b cells per second
unfoldable pub accepted : (negative : Bool) → (a b : ℕ) → Bool
accepted s a b = not s && (leb b a && ltb a (2 ^ 32 * b))

-- a / b cells per second, which are a * 512 / b units of 1/512; with either sign, 0 is 0x0000
unfoldable pub of_fraction : (negative : Bool) → (a b : ℕ) → Result Imported Refusal
of_fraction s a b = cond (eqb a 0) (Ok (Exact 0)) (cond (accepted s a b) (Ok (split_at (code_of (a * 512 / b)) (a * 512) b)) (Err Double))

-- a finite double is the fraction m * up e / down e
abbrev pub import_of : Float → Result Imported Refusal
import_of nan = Err Double
import_of (inf s) = Err Double
import_of (fin s m e) = of_fraction s (m * up e) (down e)
