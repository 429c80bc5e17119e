use Rattle.abr_readings.proofs.LimitCases.{without-trip, kept, lowered-to}
use Rattle.abr_readings.proofs.limits.initial_of.Goals as goal

pub returns-then-p-eq0 : goal.returns-then-p-eq0
returns-then-p-eq0 c l = without-trip _ c.initial-initial.ensures l c.if-p-eq0.true

pub returns-then-initial-tbe_rate : goal.returns-then-initial-tbe_rate
returns-then-initial-tbe_rate c l =
    let e = c in
    kept _ e.initial-initial.ensures l e.if-p-eq0.false c.if-initial-tbe_rate.true

pub returns : goal.returns
returns c l =
    let m = c in
    let b = m in
    let e = b in
    lowered-to _ e.initial-initial.ensures l e.if-p-eq0.false b.if-initial-tbe_rate.false m.least.ensures c.max.ensures
