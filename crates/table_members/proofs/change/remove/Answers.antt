use Rattle.table_members.proofs.Packed.{members-column}
use Rattle.table_members.proofs.Changes.{removes}
use borrow.Author.Rules.{rules}
use Rattle.table_members.proofs.change.remove.Goals as goal

pub returns : goal.returns
returns c = removes _ _ _ _ c.requires c.word_limit.ensures c.remove.ensures

pub remove-requires : goal.remove-requires
remove-requires c = search (rules, members-column)
