-- The 16-bit rate code. (Document 01, "Units and the 16-bit rate code"; document 02, L7.)
use Rattle.std.specs.Prelude.{ℕ, zero, suc, ◌+◌, ◌-◌, ◌*◌, ◌/◌, ◌%◌, ◌^◌, ◌≤◌, ◌<◌, Bool, cond, ◌&&◌, ◌||◌, leb, ltb, eqb, Result, Ok, Err}
use Rattle.laws.specs.declared.refusals.Refusal.{Refusal}
use Rattle.laws.specs.declared.refusals.Refusal.TheVariants.{TooLarge}
use Rattle.rate.specs.Units.{largest_rate}

-- whether bit 15, which is reserved, is 0; true also for a number over 16 bits, which is no code
-- and meets 7 where one is given
unfoldable pub reserved_clear : ℕ → Bool
reserved_clear code = ltb code 32768 || ltb 65535 code

-- the same of three codes: those of an open, or those in a cell
unfoldable pub codes_clear : ℕ → ℕ → ℕ → Bool
codes_clear a b c = reserved_clear a && (reserved_clear b && reserved_clear c)

-- Bit 14 is nz, bits 13 to 9 are the exponent e, bits 8 to 0 the mantissa m. The rate is 2^e × (512 + m) with nz,
-- else 0. Higher bits are not looked at, since whoever reads a code tests them first.
unfoldable pub rate_of : ℕ → ℕ
rate_of code = cond (eqb (code / 16384 % 2) 1) (2 ^ (code / 512 % 32) * (512 + code % 512)) 0

-- the code of x among those with an exponent below the first argument: it has the highest exponent
-- whose lowest rate is not above x
unfoldable pub code_below : ℕ → ℕ → ℕ
code_below zero x = 0
code_below (suc e) x = cond (leb (512 * 2 ^ e) x) (16384 + e * 512 + (x / 2 ^ e - 512)) (code_below e x)

unfoldable pub code_of : ℕ → ℕ
code_of x = code_below 32 x

-- the code of whatever number stands where a rate should: 0 above the largest
unfoldable pub code_or_zero : ℕ → ℕ
code_or_zero x = cond (leb x largest_rate) (code_of x) 0

-- coding a rate: refusal 9 above the largest
unfoldable pub coded : ℕ → Result ℕ Refusal
coded x = cond (leb x largest_rate) (Ok (code_of x)) (Err TooLarge)

-- what document 01 asks of the code of x: no code has a higher rate that is not above x, and bit 15 is 0
pub record GreatestCode (x code : ℕ) : Type 0 where
  pub not_above : rate_of code ≤ x
  pub greatest : (k : ℕ) → rate_of k ≤ x → rate_of k ≤ rate_of code
  pub fifteen : code < 32768
