use mathlib.Core.Path.{ap, ◌∙◌}
use Rattle.abr_answers.specs.Codes.{rated_as}
use Rattle.abr.proofs.codes.abr_rate.Goals as goal

pub returns : goal.returns
returns c = c.from.ensures ∙ ap rated_as c.rate_taken.ensures
