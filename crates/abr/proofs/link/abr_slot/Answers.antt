use Rattle.abr_answers.specs.Details.{sent_of}
use Rattle.abr.proofs.Answered.{returned-writing}
use Rattle.abr.proofs.link.abr_slot.Goals as goal

pub returns : goal.returns
returns c = returned-writing sent_of c.from.ensures c.slot.ensures
