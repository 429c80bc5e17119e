use Rattle.table_store.proofs.Stored.{replays-always, source-updates}
use Rattle.table_store.proofs.store.update_source.Goals as goal

pub returns : goal.returns
returns c =
    let st = c in source-updates st.args.t.now c.rekey.new.t st.args.i st.requires.0 st.args.c c.rekey.result c.key_of.result c.key_of.ensures c.put_source.ensures (replays-always c.rekey.ensures)
