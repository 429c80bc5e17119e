use lib.ListN.{length}
use mathlib.Core.Path.{ap, ◌∙◌}
use Rattle.model.specs.Step.{out_of_rate_step}
use Rattle.abr_answers.specs.Calls.{refusal_alone, answer_of}
use Rattle.abr.proofs.Answered.{named-writing, returned-writing, refused_alone}
use Rattle.abr.proofs.connections.abr_out_of_rate.Goals as goal

pub returns : goal.returns
returns c =
    let a = c.args in
    returned-writing answer_of (ap refusal_alone c.refusal_or_0.ensures ∙ refused_alone _)
    (named-writing (λ v s. out_of_rate_step s v a.time (length a.cell.now)) c.address_name-name.ensures c.out_of_rate.ensures)
