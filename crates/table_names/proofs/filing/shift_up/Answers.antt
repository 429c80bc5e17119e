use Rattle.std.proofs.Common.{rules}
use Rattle.table_names.proofs.Entering.{shifting-up-start, shifting-up-next, shifting-up-zero, shifting-up-end}
use Rattle.table_names.proofs.filing.shift_up.Goals as goal

pub loop-i-init : goal.loop-i-init
loop-i-init c = shifting-up-start _ _ _ c.requires

pub returns-then-last-eq0 : goal.returns-then-last-eq0
returns-then-last-eq0 c =
    let p = c in
    let lp = p in
    shifting-up-zero _ _ _ _ _ _ lp.loop-i.invariant (search rules) c.if-last-eq0.true _ p.put_last.ensures

pub loop-i-preserved : goal.loop-i-preserved
loop-i-preserved c =
    let p = c in
    let lp = p in
    shifting-up-next _ _ _ _ _ _ lp.loop-i.invariant (search rules) _ _ _ p.put_last.ensures c.move_up-moved.ensures

pub returns : goal.returns
returns c = shifting-up-end _ _ _ _ _ _ c.loop-i.invariant (search rules)
