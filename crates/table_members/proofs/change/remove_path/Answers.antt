use Rattle.table_members.proofs.Packed.{members-column}
use Rattle.table_members.proofs.Runs.{path-leaves, channel-keeps}
use borrow.Author.Rules.{rules}
use Rattle.table_members.proofs.change.remove_path.Goals as goal

pub returns-then-name-ne-PATH_VCI : goal.returns-then-name-ne-PATH_VCI
returns-then-name-ne-PATH_VCI c = channel-keeps _ _ c.if-name-ne-PATH_VCI.true

pub returns : goal.returns
returns c = path-leaves _ _ _ _ _ c.if-name-ne-PATH_VCI.false c.word_limit.ensures c.word_limit-2.ensures c.remove_run.ensures

pub remove_run-requires : goal.remove_run-requires
remove_run-requires c = search (rules, members-column)
