-- The loop's invariant: that of `replay`, without marks and without a count.
use Prim.Native.Nat.{◌+◌, ◌≤◌, ◌<◌}
use mathlib.Core.Path.{◌≡◌}
use Rattle.model.specs.State.{capacity}
use Rattle.model.specs.Tournament.{levels}
use Rattle.model.proofs.Places.{above}
use Rattle.table_tournament.proofs.Replaying.{Reached}
use Rattle.table_tournament.proofs.replay.replay_all.Given as goal

abbrev pub invariant-loop : goal.invariant-loop
invariant-loop l = (l.counter ≤ levels) × (l.place < capacity) × (l.place ≡ above (l.counter + 1) (capacity + l.leaf)) × Reached 0 l.initial.t l.t l.leaf l.counter l.best l.other
