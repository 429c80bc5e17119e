use Rattle.table_column.proofs.Halving.{up-to-all, up-to-first, up-to-last}
use borrow.Author.Rules.{rules}
use Rattle.table_column.proofs.column.count_up_to.Goals as goal

pub returns-then-word-t : goal.returns-then-word-t
returns-then-word-t c = up-to-all _ _ _ _ _ (search rules) (search rules) c.if-word-t.true

pub returns-then-p-eq1 : goal.returns-then-p-eq1
returns-then-p-eq1 c = up-to-first _ _ _ _ _ (search rules) (search rules) (search rules) (search rules)

pub returns-then-word-t-2 : goal.returns-then-word-t-2
returns-then-word-t-2 c = up-to-last _ _ _ _ _ (search rules) (search rules) (search rules) (search rules) c.if-word-t-2.true
