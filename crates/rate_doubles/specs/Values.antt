-- Doubles and what importing them answers, computed. A double is m × 2^e; `negsuc k` is the exponent
-- -(k + 1). (Document 02, L8.)
use Rattle.std.specs.Prelude.{◌≡◌, true, false, pos, negsuc, Ok, Err}
use Rattle.std.specs.Float.{fin}
use Rattle.laws.specs.declared.refusals.Refusal.TheVariants.{Double}
use Rattle.rate_doubles.specs.Import.{Exact, Below, import_of}

pub record Values : Type 0 where
  -- 1 cell per second, the double before it and the double after it
  pub one : import_of (fin false 1 (pos 0)) ≡ Ok (Exact 0x4000)
  pub before_one : import_of (fin false 9_007_199_254_740_991 (negsuc 52)) ≡ Err Double
  pub after_one : import_of (fin false 4_503_599_627_370_497 (negsuc 51)) ≡ Ok (Below 0x4000 (fin false 1 (negsuc 51)))
  -- 1,000 and 1,000.5
  pub thousand : import_of (fin false 125 (pos 3)) ≡ Ok (Exact 0x53E8)
  pub thousand_and_half : import_of (fin false 2001 (negsuc 0)) ≡ Ok (Below 0x53E8 (fin false 1 (negsuc 0)))
  -- the largest rate, the double before 2^32, and 2^32
  pub largest : import_of (fin false 1023 (pos 22)) ≡ Ok (Exact 0x7FFF)
  pub before_top : import_of (fin false 9_007_199_254_740_991 (negsuc 20)) ≡ Ok (Below 0x7FFF (fin false 8_796_093_022_207 (negsuc 20)))
  pub top : import_of (fin false 1 (pos 32)) ≡ Err Double
  -- both zeros, a half, and -1
  pub zero : import_of (fin false 0 (pos 0)) ≡ Ok (Exact 0x0000)
  pub minus_zero : import_of (fin true 0 (pos 0)) ≡ Ok (Exact 0x0000)
  pub half : import_of (fin false 1 (negsuc 0)) ≡ Err Double
  pub minus_one : import_of (fin true 1 (pos 0)) ≡ Err Double
