use borrow.Author.Rules.{rules}
use Rattle.table_tournament.proofs.Levels.{counts-won}
use Rattle.table_tournament.proofs.replay.levels_won.Goals as goal

pub returns : goal.returns
returns c = counts-won _ _ _ (search rules) c.levels_with.ensures
