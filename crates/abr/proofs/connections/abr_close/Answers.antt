use Rattle.model.specs.Step.{close_step}
use Rattle.abr_answers.specs.Calls.{closed_of}
use Rattle.abr.proofs.Answered.{named, returned}
use Rattle.abr.proofs.connections.abr_close.Goals as goal

pub returns : goal.returns
returns c =
    let k = c in
    returned closed_of c.from.ensures (named (λ v s. close_step s v) k.address_name-name.ensures c.close.ensures)
