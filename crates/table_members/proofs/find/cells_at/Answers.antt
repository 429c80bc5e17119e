use Rattle.table_members.proofs.Found.{cells_are}
use Rattle.table_members.proofs.find.cells_at.Goals as goal

pub returns : goal.returns
returns c = cells_are _ _ c.requires
