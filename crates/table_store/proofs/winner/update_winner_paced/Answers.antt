use Rattle.table_store.proofs.Stored.{replays-winner, paced-updates}
use Rattle.table_store.proofs.winner.update_winner_paced.Goals as goal

pub returns : goal.returns
returns c =
    let st = c in paced-updates st.args.t.now c.rekey_winner.new.t st.args.i st.requires.0 st.args.c c.key_of.result c.key_of.ensures c.put_paced.ensures (replays-winner st.requires.0 c.rekey_winner.ensures)
