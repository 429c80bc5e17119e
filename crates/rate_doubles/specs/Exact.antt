-- Import rounds nothing, and its code is the greatest. This is stated for the values of doubles, as fractions of
-- whole numbers, and not for sums of doubles. (Document 02, L8.)
use Rattle.std.specs.Prelude.{ℕ, ◌+◌, ◌*◌, ◌^◌, ◌≤◌, ◌<◌, ◌≡◌, false, T, ℤ, Result, Ok, Err, Float}
use Rattle.std.specs.Float.{nan, inf, fin, binary64}
use Rattle.std.specs.Float.Ieee.{up, down, fits}
use Rattle.std.specs.Float.Ieee.Digits.{Equals}
use Rattle.std.specs.Float.Ieee.Exact.{HasValue}
use Rattle.laws.specs.declared.refusals.Refusal.{Refusal}
use Rattle.laws.specs.declared.refusals.Refusal.TheVariants.{Double}
use Rattle.laws.specs.Refusals.{number}
use Rattle.rate.specs.Units.{largest_rate}
use Rattle.rate.specs.Code.{rate_of}
use Rattle.rate_doubles.specs.Import.{Imported, Exact, Below, remainder_of, import_of}
use Rattle.rate_doubles.specs.Refused.{Unfit}

-- x is the rate over 512 plus y: y is part / whole, and x is rate / 512 + part / whole. `Equals` ignores the sign
-- of x, since import takes -0.
pub record IsSum (x : Float) (rate : ℕ) (y : Float) : Type 0 where
  pub part : ℕ
  pub whole : ℕ
  pub some : 0 < whole
  pub remainder : HasValue y false part whole
  pub input : Equals x (rate * whole + 512 * part) (512 * whole)

-- the rate over 512 is not above x, for an x that is 0 or more
abbrev pub AtMost : (rate : ℕ) → Float → Type 0
AtMost r nan = ⊥
AtMost r (inf s) = ⊥
AtMost r (fin s m e) = r * down e ≤ m * up e * 512

-- no code has a higher rate that is not above x, and bit 15 is 0
pub record CodeUnder (x : Float) (code : ℕ) : Type 0 where
  pub not_above : AtMost (rate_of code) x
  pub greatest : (k : ℕ) → AtMost (rate_of k) x → rate_of k ≤ rate_of code
  pub fifteen : code < 32768

-- what each answer says of the double
abbrev pub ImportedExactly : Float → Result Imported Refusal → Type 0
ImportedExactly x (Err r) = (r ≡ Double) × (number r ≡ 20) × Unfit x
ImportedExactly x (Ok (Exact code)) = CodeUnder x code × Equals x (rate_of code) 512
ImportedExactly x (Ok (Below code y)) = CodeUnder x code × IsSum x (rate_of code) y

-- so for every double
abbrev pub ImportsExactly : Type 0
ImportsExactly = (x : Float) → T (fits binary64 x) → ImportedExactly x (import_of x)

-- above the largest rate over 512, and below 2^32, the code below is the largest
abbrev pub LargestBelow : Type 0
LargestBelow =
    (m : ℕ) (e : ℤ) → largest_rate * down e < m * up e * 512 → m * up e < 2 ^ 32 * down e
    → import_of (fin false m e) ≡ Ok (Below 0x7FFF (remainder_of 0x7FFF (m * up e * 512) (down e)))
