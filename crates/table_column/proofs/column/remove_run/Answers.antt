use borrow.Author.Rules.{rules}
use Rattle.table_column.proofs.Runs.{running-start, running-next, running-zero, running-end}
use Rattle.table_column.proofs.column.remove_run.Goals as goal

pub loop-i-init : goal.loop-i-init
loop-i-init c = running-start _ _ _ _ _ _ c.at_least-p.ensures

pub returns-then-word-eq0 : goal.returns-then-word-eq0
returns-then-word-eq0 c = let lp = c in running-zero _ _ _ _ _ _ _ _ lp.loop-i.invariant (search rules) c.if-word-eq0.true

pub loop-i-preserved : goal.loop-i-preserved
loop-i-preserved c =
    let lp = c in
    running-next _ _ _ _ _ _ _ _ lp.loop-i.invariant (search rules) _ _ c.stays-p.ensures.1 c.left.ensures c.stays-p.ensures.0

pub returns : goal.returns
returns c = running-end _ _ _ _ _ _ _ _ c.loop-i.invariant (search rules)
