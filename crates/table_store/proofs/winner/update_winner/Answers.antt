use Rattle.model.specs.Tournament.{levels}
use Rattle.table_store.proofs.Stored.{replays-winner, both-updates}
use Rattle.table_store.proofs.winner.update_winner.Goals as goal

pub returns : goal.returns
returns c =
    let st = c in both-updates st.args.t.now c.rekey_winner.new.t st.args.i st.requires.0 st.args.c levels c.key_of.result c.key_of.ensures c.put_source.ensures c.put_destination.ensures (replays-winner st.requires.0 c.rekey_winner.ensures)
