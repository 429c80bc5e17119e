-- Each answer of the share is a case of the definition.
use borrow.Author.Rules.{rules}
use Rattle.std.proofs.lemmas.Result.{err_from_is_err_and}
use Rattle.port.proofs.Cases.{port-refused, port-unlimited, port-limited}
use Rattle.port.proofs.port.port.Goals as goal

pub returns-in_err-fair_share : goal.returns-in_err-fair_share
returns-in_err-fair_share c =
    let p = err_from_is_err_and c.from_residual.result c.from_residual.ensures.1 in
    rw (p.1, p.2) (port-refused _ _ _ c.fair_share.ensures c.in_err-fair_share.was)

pub returns-in-None : goal.returns-in-None
returns-in-None c = port-unlimited _ _ _ c.fair_share.ensures (search rules) c.refusal.ensures

pub returns-in-Some : goal.returns-in-Some
returns-in-Some c = port-limited _ _ _ c.fair_share.ensures (search rules) c.limit.ensures
