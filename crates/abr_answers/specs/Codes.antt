-- What coding a rate, and taking the rate of a code, return.
-- (Document 01, "Units and the 16-bit rate code" and "Refused because of the input", 7 and 9; document 02, L7.)
use Rattle.std.specs.Prelude.{ℕ, leb, Result, Ok, Err}
use Rattle.rate.specs.Code.{reserved_clear, rate_of}
use Rattle.laws.specs.declared.refusals.Refusal.{Refusal}
use Rattle.laws.specs.declared.refusals.Refusal.TheVariants.{Range, ReservedBit}
use Rattle.laws.specs.Refusals.{number}
use Rattle.laws.specs.Require.{require}
pub use Rattle.abr_answers.specs.declared.codes.AbrCoded.{AbrCoded}
pub use Rattle.abr_answers.specs.declared.codes.AbrRated.{AbrRated}

abbrev pub coded_of : Result ℕ Refusal → AbrCoded
coded_of (Ok x) = record { refusal = 0; code = x }
coded_of (Err r) = record { refusal = number r; code = 0 }

-- no rate beside a refusal
abbrev pub rated_as : Result ℕ Refusal → AbrRated
rated_as (Ok x) = record { refusal = 0; reserved = 0; rate = x }
rated_as (Err r) = record { refusal = number r; reserved = 0; rate = 0 }

-- a code has at most 16 bits, and bit 15 clear
abbrev pub rate_taken : (code : ℕ) → Result ℕ Refusal
rate_taken code = require (Err Range) (leb code 65535) (require (Err ReservedBit) (reserved_clear code) (Ok (rate_of code)))

abbrev pub rated_of : (code : ℕ) → AbrRated
rated_of code = rated_as (rate_taken code)
