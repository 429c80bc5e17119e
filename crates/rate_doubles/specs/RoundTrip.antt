-- Export then import gives the canonical code. (Document 02, L8.)
use Rattle.std.specs.Prelude.{ℕ, ◌/◌, ◌%◌, ◌≡◌, cond, eqb, Ok, Float}
use Rattle.rate.specs.Code.{rate_of}
use Rattle.rate_doubles.specs.Export.{IsRate}
use Rattle.rate_doubles.specs.Import.{Exact, import_of}

-- bit 15 is 0; a code whose rate is 0, with bit 14 clear, is 0x0000
unfoldable pub canonical : (code : ℕ) → ℕ
canonical code = cond (eqb (code / 16384 % 2) 1) (code % 32768) 0x0000

-- of any number that stands for a code
abbrev pub RoundTrip : Type 0
RoundTrip = (code : ℕ) (x : Float) → IsRate x (rate_of code) → import_of x ≡ Ok (Exact (canonical code))
