use Rattle.engine.proofs.Outcomes.{unfound}
use Rattle.engine.proofs.TimedCases.{timed-late, timed-missing, timed-early, timed-found}
use Rattle.engine.proofs.timed.timed_entry.Goals as goal

pub returns-then-time-gt-LATEST_TIME : goal.returns-then-time-gt-LATEST_TIME
returns-then-time-gt-LATEST_TIME c = timed-late _ _ _ c.if-time-gt-LATEST_TIME.true

pub returns-in_err-i : goal.returns-in_err-i
returns-in_err-i c = let f = c in rw (unfound c.from_residual.ensures.1 c.in_err-i.ensures.ok_part c.in_err-i.ensures.value) (timed-missing _ _ _ f.if-time-gt-LATEST_TIME.false f.find.ensures c.in_err-i.ensures.ok_part)

pub returns-then-time-t : goal.returns-then-time-t
returns-then-time-t c =
    let i = c in
    let f = i in
    timed-early _ _ _ f.if-time-gt-LATEST_TIME.false f.find.ensures i.in_ok-i.ensures.ok_part c.if-time-t.true

pub returns : goal.returns
returns c =
    let i = c in
    let f = i in
    timed-found _ _ _ f.if-time-gt-LATEST_TIME.false f.find.ensures i.in_ok-i.ensures.ok_part c.if-time-t.false
