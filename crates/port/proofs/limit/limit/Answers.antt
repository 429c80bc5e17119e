-- What is read says what passes.
use Rattle.std.proofs.Common.{Ok, sym, ap, ◌∙◌}
use Rattle.cell.specs.Read.{read_as}
use Rattle.cell.proofs.Admits.{Received, rm-received}
use Rattle.cell.proofs.Readings.{refused-1}
use Rattle.port.proofs.Cases.{limit-refused, limit-backward, er-is, er-fits}
use Rattle.port.proofs.limit.limit.Goals as goal

pub put_er-requires : goal.put_er-requires
put_er-requires c =
    let r : Received c.in-Some.cell.now c.in-Rm.f = rm-received _ _ (sym c.in_ok-f.ensures ∙ ap (λ x. read_as (Ok x)) c.in-Rm.is) in
    (er-fits _ _ (er-is _ _ c.rate_of.ensures c.min.ensures c.code_or_zero.ensures), r.check)

pub returns-in-Rm : goal.returns-in-Rm
returns-in-Rm c =
    rw (sym c.in-Some.ensures.cases.same)
    (limit-backward _ _ (sym c.in_ok-f.ensures ∙ ap (λ x. read_as (Ok x)) c.in-Rm.is) c.if-f-eq1.true
    (er-is _ _ c.rate_of.ensures c.min.ensures c.code_or_zero.ensures) c.put_er.ensures)

pub returns-in_default : goal.returns-in_default
returns-in_default c = limit-refused _ _ (sym (refused-1 _ c.in_default.ensures.cases))
