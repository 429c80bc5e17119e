use Rattle.table_store.proofs.Stored.{replays-always, queue-updates}
use Rattle.table_store.proofs.store.update_queue.Goals as goal

pub returns : goal.returns
returns c =
    let st = c in queue-updates st.args.t.now c.rekey.new.t st.args.i st.requires.0 st.args.c c.rekey.result c.key_of.result c.key_of.ensures c.queue_word.ensures (replays-always c.rekey.ensures)
