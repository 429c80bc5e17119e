use Rattle.abr_answers.specs.Status.{totals_shown}
use Rattle.abr.proofs.Answered.{read_as}
use Rattle.abr.proofs.link.abr_link.Goals as goal

pub returns : goal.returns
returns c = read_as totals_shown c.from.ensures c.read_totals.ensures
