use mathlib.Core.Path.{ap}
use Rattle.model.specs.Returned.{allowed_as}
use Rattle.abr_answers.proofs.Signed.{acr-is}
use Rattle.abr_answers.proofs.calls.AbrAllowedFromOptionAllowed.from.Goals as goal

pub returns-in-Some : goal.returns-in-Some
returns-in-Some c = acr-is _ _ (ap allowed_as c.in-Some.is)
