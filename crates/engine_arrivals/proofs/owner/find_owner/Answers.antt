use borrow.Author.Rules.{rules}
use Rattle.engine_arrivals.proofs.Owners.{found-owner}
use Rattle.engine_arrivals.proofs.owner.find_owner.Goals as goal

pub returns : goal.returns
returns c = found-owner c.args.t.now c.args.name c.find.result c.or_else.result c.find.ensures (search rules)
