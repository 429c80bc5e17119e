use Prim.Native.Nat.{ℕ}
use mathlib.Core.Path.{ap, ◌∙◌}
use mathlib.Core.List.{List}
use Rattle.table.specs.Storing.{entry_flipped}
use Rattle.table_store.proofs.Stored.{leaves}
use Rattle.table_store.proofs.store.clear.Goals as goal

pub returns : goal.returns
returns c =
    let st = c in
    let i = st.args.i in
    let flip = c in
    leaves st.args.t.now flip.flip_entry.new.t c.unfile.new.t c.replay.new.t i st.requires c.replay.result st.args.name
    (flip.flip_entry.ensures ∙ ap (λ (l : List ℕ). entry_flipped l i) c.clear_record.ensures) c.unfile.ensures c.replay.ensures
