-- What exporting a contract and importing a double return. (Document 02, L8.)
use Rattle.std.specs.Prelude.{ℕ, ◌≡◌, false, pos, Float, Result, Ok, Err}
use Rattle.std.specs.Float.{fin}
use Rattle.laws.specs.declared.refusals.Refusal.{Refusal}
use Rattle.laws.specs.Refusals.{number}
use Rattle.rate.specs.Code.{rate_of}
use Rattle.rate_doubles.specs.declared.export.Exported.{Exported}
use Rattle.rate_doubles.specs.declared.import.Imported.{Imported}
use Rattle.rate_doubles.specs.declared.import.Imported.TheVariants.{Exact, Below}
use Rattle.rate_doubles.specs.Export.{ExportsExactly}
use Rattle.rate_doubles.specs.Import.{import_of}
use Rattle.rate_doubles.specs.Exact.{IsSum, CodeUnder}
use Rattle.model.specs.Answers.{Contract, NoContract, Codes}
pub use Rattle.abr_answers.specs.declared.planning.AbrImported.{AbrImported}

-- 0, without a minus sign
abbrev pub nil : Float
nil = fin false 0 (pos 0)

abbrev pub three_zeros : Exported
three_zeros = record { pcr = nil; mcr = nil; icr = nil }

-- the refusal that is written, 0 or 11, and the three doubles: the rates of a contract's codes
abbrev pub ExportedAs : Contract → (refusal : ℕ) → Exported → Type 0
ExportedAs NoContract n r = (n ≡ 11) × (r ≡ three_zeros)
ExportedAs (Codes p m i) n r = (n ≡ 0) × ExportsExactly p m i r

abbrev pub exact_answer : (code : ℕ) → AbrImported
exact_answer code = record { refusal = 0; code = code; remainder = nil }

abbrev pub imported_of : Result Imported Refusal → AbrImported
imported_of (Err r) = record { refusal = number r; code = 0; remainder = nil }
imported_of (Ok (Exact code)) = exact_answer code
imported_of (Ok (Below code y)) = record { refusal = 0; code = code; remainder = y }

-- What importing x returns. If x is not refused, the code's rate over 512 plus the remainder is x, with no
-- rounding, and no other code comes nearer from below.
pub record Imports (x : Float) (r : AbrImported) : Type 0 where
  pub is : r ≡ imported_of (import_of x)
  pub sum : r.refusal ≡ 0 → IsSum x (rate_of r.code) r.remainder
  pub greatest : r.refusal ≡ 0 → CodeUnder x r.code
