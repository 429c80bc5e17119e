use Rattle.table_members.proofs.Packed.{members-column}
use Rattle.table_members.proofs.Found.{found_here, found_nowhere}
use borrow.Author.Rules.{rules}
use Rattle.table_members.proofs.find.find.Goals as goal

pub returns-then-t-p : goal.returns-then-t-p
returns-then-t-p c = found_nowhere _ _ _ _ c.requires c.word_limit.ensures c.at_least-p.ensures c.if-t-p.true

pub returns : goal.returns
returns c = found_here _ _ _ _ c.requires c.word_limit.ensures c.at_least-p.ensures c.if-t-p.false

pub at_least-p-requires : goal.at_least-p-requires
at_least-p-requires c = search (rules, members-column)
