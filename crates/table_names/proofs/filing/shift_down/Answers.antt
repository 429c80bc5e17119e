use Rattle.std.proofs.Common.{rules}
use Rattle.table_names.proofs.Leaving.{shifting-down-start, shifting-down-next, shifting-down-zero, shifting-down-end}
use Rattle.table_names.proofs.filing.shift_down.Goals as goal

pub loop-i-init : goal.loop-i-init
loop-i-init c = shifting-down-start _ _ c.requires

pub returns-then-next-eq0 : goal.returns-then-next-eq0
returns-then-next-eq0 c =
    let p = c in
    let lp = p in
    shifting-down-zero _ _ _ _ lp.loop-i.invariant (search rules) c.if-next-eq0.true _ p.put_last.ensures

pub loop-i-preserved : goal.loop-i-preserved
loop-i-preserved c =
    let p = c in
    let lp = p in
    shifting-down-next _ _ _ _ lp.loop-i.invariant (search rules) _ _ p.put_last.ensures c.move_down.ensures

pub returns : goal.returns
returns c = shifting-down-end _ _ _ _ c.loop-i.invariant (search rules)
