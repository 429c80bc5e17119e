use Rattle.std.proofs.Common.{arith, rules}
use Rattle.table_names.proofs.Found.{searched-next, searched-found, searched-behind, searched-none}
use Rattle.table_names.proofs.used.find_free.Goals as goal

pub returns-then-i-lt-CAPACITY : goal.returns-then-i-lt-CAPACITY
returns-then-i-lt-CAPACITY c =
    let i = c in
    let o = i in
    let lp = o in
    searched-found _ _ lp.loop-g.invariant (search rules) _ o.others-vacant.ensures _ i.lowest.ensures.0 i.lowest.ensures.1 (omega (arith, c.if-i-lt-CAPACITY.true))

-- For 1,024 connections the check finds that every bit is an entry's; in the edition for 16 most are none.
pub returns-then-vacant-gt0 : goal.returns-then-vacant-gt0
returns-then-vacant-gt0 c =
    let i = c in
    let o = i in
    let lp = o in
    searched-behind _ _ lp.loop-g.invariant (search rules) _ o.others-vacant.ensures _ i.lowest.ensures.0 i.lowest.ensures.1 (omega (arith, c.if-i-lt-CAPACITY.false))

pub loop-g-preserved : goal.loop-g-preserved
loop-g-preserved c =
    let o = c in
    let lp = o in
    searched-next _ _ lp.loop-g.invariant (search rules) _ o.others-vacant.ensures (omega (arith, c.if-vacant-gt0.false))

pub returns : goal.returns
returns c = searched-none _ _ c.loop-g.invariant (search rules)
