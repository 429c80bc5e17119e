use mathlib.Core.Path.{refl}
use Rattle.table_members.proofs.Found.{room-is}
use Rattle.table_members.proofs.find.has_room.Goals as goal

pub returns : goal.returns
returns c = room-is _ _ refl
