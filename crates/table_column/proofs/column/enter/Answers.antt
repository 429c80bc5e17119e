use borrow.Author.Rules.{rules}
use Rattle.table_column.proofs.Moves.{inserting-start, inserting-next, inserting-zero, inserting-end}
use Rattle.table_column.proofs.column.enter.Goals as goal

pub loop-i-init : goal.loop-i-init
loop-i-init c = inserting-start _ _ _ _ _ c.requires.0

pub returns-then-next-eq0 : goal.returns-then-next-eq0
returns-then-next-eq0 c = let lp = c in inserting-zero _ _ _ _ _ _ _ _ lp.loop-i.invariant (search rules) c.if-next-eq0.true

pub loop-i-preserved : goal.loop-i-preserved
loop-i-preserved c = let lp = c in inserting-next _ _ _ _ _ _ _ _ lp.loop-i.invariant (search rules)

pub returns : goal.returns
returns c = inserting-end _ _ _ _ _ _ _ _ c.loop-i.invariant (search rules)
