use Prim.Native.Nat.{ℕ}
use mathlib.Core.Path.{ap, ◌∙◌}
use mathlib.Core.List.{List}
use lib.ListN.{set}
use Rattle.laws.specs.Blocks.{put_from}
use Rattle.table.specs.Layout.{rest_words, record_from}
use Rattle.table.specs.Storing.{entry_flipped}
use Rattle.table_store.proofs.Stored.{opens-entry}
use Rattle.table_store.proofs.store.store.Goals as goal

pub returns : goal.returns
returns c =
    let st = c in
    let i = st.args.i in
    let flip = c in
    opens-entry st.args.t.now flip.flip_entry.new.t c.file.new.t c.replay.new.t i st.requires.0 st.args.c c.replay.result
    (flip.flip_entry.ensures
    ∙ ap (λ (l : List ℕ). entry_flipped l i)
    (c.put_rest.ensures ∙ ap (λ (k : ℕ). put_from (set st.args.t.now (record_from i) k) (record_from i) 1 (rest_words st.args.c)) c.key_of.ensures))
    c.file.ensures c.replay.ensures
