use Rattle.abr_answers.specs.Details.{opened_of}
use Rattle.abr.proofs.Answered.{returned}
use Rattle.abr.proofs.path.abr_open_path.Goals as goal

pub returns : goal.returns
returns c = returned opened_of c.from.ensures c.open_path.ensures
