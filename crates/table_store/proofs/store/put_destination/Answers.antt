use Prim.Native.Nat.{ℕ}
use mathlib.Core.Path.{ap, ◌∙◌}
use mathlib.Core.List.{List}
use Rattle.laws.specs.Blocks.{put_from}
use Rattle.table.specs.Layout.{turned_words, record_from}
use Rattle.table_store.proofs.store.put_destination.Goals as goal

pub returns : goal.returns
returns c =
    let st = c.args in c.put_turned.ensures ∙ ap (λ (l : List ℕ). put_from l (record_from st.i) 16 (turned_words st.destination)) c.update_efci.ensures
