use borrow.Author.Rules.{rules}
use Rattle.table_column.proofs.Halving.{halved-from-next}
use Rattle.table_column.proofs.column.at_least_from.Goals as goal

pub loop-half-preserved : goal.loop-half-preserved
loop-half-preserved c = let lp = c in halved-from-next _ _ _ _ _ _ _ lp.loop-half.invariant (search rules) _ c.passed-p.ensures
