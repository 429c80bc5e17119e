-- What an open refuses of its arguments alone. (Document 01, "Refused because of the input"; document 02, L7 and L14.)
use Rattle.std.specs.Prelude.{ℕ, ◌≡◌, ◌≤◌, true, ◌&&◌, Result, Ok, Err}
use Rattle.laws.specs.declared.refusals.Refusal.{Refusal}
use Rattle.laws.specs.Refusals.{number}
use Rattle.rate_params.specs.declared.params.Params.{Params}
use Rattle.rate.specs.Units.{latest_time}
use Rattle.rate.specs.Code.{codes_clear}
use Rattle.rate_params.specs.Params.{params_fit, tbe_fits, frtt_fits}
use Rattle.cell.specs.Name.{address_fits}
use Rattle.model.specs.State.{State}
use Rattle.model.specs.Step.{refuse, open_address}

-- the tests of the input that an open has passed
pub record InputPassed (a b t : ℕ) (p : Params) : Type 0 where
  pub clear : codes_clear p.pcr p.mcr p.icr ≡ true
  pub fits : (address_fits a b && params_fit p) ≡ true
  pub tbe : tbe_fits p ≡ true
  pub frtt : frtt_fits p ≡ true
  pub timely : t ≤ latest_time

-- all of them, or the refusal of the first that it does not pass: 19, 7, 29, 30, 8
abbrev pub JudgesInput : (vpi vci time : ℕ) → Params → Result Unit Refusal → Type 0
JudgesInput a b t p (Ok u) = InputPassed a b t p
JudgesInput a b t p (Err r) = (s : State) → open_address s a b t p ≡ refuse s (number r)
