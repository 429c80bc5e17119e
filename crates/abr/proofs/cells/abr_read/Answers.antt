use mathlib.Core.Path.{ap, ◌∙◌}
use Rattle.abr_answers.specs.Cells.{cell_of}
use Rattle.abr.proofs.cells.abr_read.Goals as goal

pub returns : goal.returns
returns c = c.from.ensures ∙ ap cell_of c.read.ensures
