use Rattle.model.specs.Step.{offer_step}
use Rattle.abr_answers.specs.Calls.{answer_of}
use Rattle.abr.proofs.Answered.{named, returned}
use Rattle.abr.proofs.connections.abr_offer.Goals as goal

pub returns : goal.returns
returns c =
    let k = c in
    let a = k.args in
    returned answer_of c.from.ensures (named (λ v s. offer_step s v a.cells) k.address_name-name.ensures c.offer.ensures)
