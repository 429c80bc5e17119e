use Rattle.table_tournament.proofs.Winning.{gives-next}
use Rattle.table_tournament.proofs.next.next_ready.Goals as goal

pub returns : goal.returns
returns c = let f = c in gives-next f.args.t.now f.keyed_node-first.result f.keyed_node-first.ensures
