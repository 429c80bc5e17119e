-- A contract's rates as doubles, in cells per second. (Document 02, L8.)
use Rattle.std.specs.Prelude.{ℕ, false, Float}
use Rattle.std.specs.Float.Ieee.Exact.{HasValue}
use Rattle.rate.specs.Code.{rate_of}
pub use Rattle.rate_doubles.specs.declared.export.Exported.{Exported}

-- exactly the rate over 512: x is finite, has no minus sign, and has that value to the last bit
abbrev pub IsRate : Float → (rate : ℕ) → Type 0
IsRate x rate = HasValue x false rate 512

-- the rates of the three codes
pub record ExportsExactly (p m i : ℕ) (c : Exported) : Type 0 where
  pub pcr : IsRate c.pcr (rate_of p)
  pub mcr : IsRate c.mcr (rate_of m)
  pub icr : IsRate c.icr (rate_of i)
