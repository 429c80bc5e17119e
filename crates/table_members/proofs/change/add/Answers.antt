use Rattle.table_members.proofs.Packed.{members-column}
use Rattle.table_members.proofs.Changes.{adds}
use borrow.Author.Rules.{rules}
use Rattle.table_members.proofs.change.add.Goals as goal

pub returns : goal.returns
returns c = adds _ _ _ c.requires c.insert.ensures

pub insert-requires : goal.insert-requires
insert-requires c = search (rules, members-column)
