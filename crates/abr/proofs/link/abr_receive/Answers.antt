use Rattle.abr_answers.specs.Details.{received_of}
use Rattle.abr.proofs.Answered.{returned}
use Rattle.abr.proofs.link.abr_receive.Goals as goal

pub returns : goal.returns
returns c = returned received_of c.from.ensures c.receive.ensures
