-- The loop's invariant: place is that of the next match above the leaf. The winners below it are those of the entries
-- now, the others those before (`Reached`). `best` leads so far, and `other` is its opponent.
use Prim.Native.Nat.{◌+◌, ◌≤◌, ◌<◌}
use mathlib.Core.Path.{◌≡◌}
use Rattle.model.specs.State.{capacity}
use Rattle.model.specs.Tournament.{levels}
use Rattle.model.proofs.Places.{above}
use Rattle.table_tournament.specs.KeyedWinner.{word_mark}
use Rattle.table_tournament.proofs.Replaying.{Reached, Counted}
use Rattle.table_tournament.proofs.replay.replay.Given as goal

abbrev pub invariant-loop-n : goal.invariant-loop-n
invariant-loop-n l = (l.n ≤ levels) × (l.place < capacity) × (l.place ≡ above (l.n + 1) (capacity + l.leaf)) × Reached word_mark l.initial.t l.t l.leaf l.n l.best l.other × Counted l.initial.t l.leaf l.n
