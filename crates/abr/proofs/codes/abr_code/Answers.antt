use mathlib.Core.Path.{ap, ◌∙◌}
use Rattle.abr_answers.specs.Codes.{coded_of}
use Rattle.abr.proofs.codes.abr_code.Goals as goal

pub returns : goal.returns
returns c = c.from.ensures ∙ ap coded_of c.code_of.ensures
