use Rattle.abr_answers.specs.Calls.{answer_of}
use Rattle.abr.proofs.Answered.{returned}
use Rattle.abr.proofs.path.abr_add_member.Goals as goal

pub returns : goal.returns
returns c = returned answer_of c.from.ensures c.add.ensures
