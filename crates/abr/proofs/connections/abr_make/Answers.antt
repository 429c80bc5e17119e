use Rattle.model.specs.Step.{make_step}
use Rattle.abr_answers.specs.Calls.{answer_of}
use Rattle.abr.proofs.Answered.{named, returned}
use Rattle.abr.proofs.connections.abr_make.Goals as goal

pub returns : goal.returns
returns c =
    let k = c in
    let a = k.args in
    returned answer_of c.from.ensures (named (λ v s. make_step s v a.time) k.address_name-name.ensures c.make.ensures)
