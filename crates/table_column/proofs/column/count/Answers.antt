use Rattle.table_column.proofs.Halving.{counted}
use Rattle.table_column.proofs.column.count.Goals as goal

pub returns : goal.returns
returns c = counted _ _ _ _ _ c.at_least-p.ensures _ c.passed.ensures
