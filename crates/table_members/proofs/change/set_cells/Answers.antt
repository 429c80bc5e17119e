use Rattle.table_members.proofs.Found.{cells-set}
use Rattle.table_members.proofs.change.set_cells.Goals as goal

pub returns : goal.returns
returns c = cells-set _ _ _ _ c.requires.0 c.with_cells.ensures
