use Rattle.abr_answers.specs.Calls.{closed_of}
use Rattle.abr.proofs.Answered.{returned}
use Rattle.abr.proofs.path.abr_remove_member.Goals as goal

pub returns : goal.returns
returns c = returned closed_of c.from.ensures c.remove.ensures
