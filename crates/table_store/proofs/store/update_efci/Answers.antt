use Prim.Native.Nat.{ℕ, ◌+◌}
use mathlib.Core.Path.{ap}
use lib.ListN.{set}
use Rattle.table.specs.Layout.{record_from}
use Rattle.table_store.proofs.store.update_efci.Goals as goal

pub returns : goal.returns
returns c =
    let a = c.args in ap (λ (w : ℕ). set a.t.now (record_from a.i + 2) w) c.destination_word.ensures
