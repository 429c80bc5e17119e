-- Refusal 20 is met for these doubles, and import has no other. (Document 02, L8.)
use Rattle.std.specs.Prelude.{ℕ, ◌*◌, ◌^◌, ◌≤◌, ◌<◌, ◌≡◌, Bool, true, false, T, ℤ, Ok, Err, Float}
use Rattle.std.specs.Float.{nan, inf, fin, binary64}
use Rattle.std.specs.Float.Ieee.{up, down, fits}
use Rattle.laws.specs.declared.refusals.Refusal.{Refusal}
use Rattle.laws.specs.declared.refusals.Refusal.TheVariants.{Double}
use Rattle.laws.specs.Refusals.{number}
use Rattle.rate_doubles.specs.Import.{Exact, import_of}

-- a finite double is the fraction m * up e / down e, with a minus sign if s is true
pub data Unfit : Float → Type 0 where
  not_anumber : Unfit nan
  infinite : (s : Bool) → Unfit (inf s)
  below_zero : (m : ℕ) (e : ℤ) → 0 < m → Unfit (fin true m e)
  below_one : (m : ℕ) (e : ℤ) → 0 < m → m * up e < down e → Unfit (fin false m e)
  too_large : (m : ℕ) (e : ℤ) → 2 ^ 32 * down e ≤ m * up e → Unfit (fin false m e)

-- they are refused, and no other double is; both zeros are 0x0000
pub record RefusedExactly : Type 0 where
  pub refused : (x : Float) → Unfit x → import_of x ≡ Err Double
  pub only : (x : Float) → T (fits binary64 x) → (r : Refusal) → import_of x ≡ Err r → (r ≡ Double) × (number r ≡ 20) × Unfit x
  pub zeros : (s : Bool) (e : ℤ) → import_of (fin s 0 e) ≡ Ok (Exact 0x0000)
