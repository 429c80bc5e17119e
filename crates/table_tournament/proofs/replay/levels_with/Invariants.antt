-- The loop's invariant: the places below this one have the leaf's number, and are counted.
use Prim.Native.Nat.{◌+◌, ◌/◌, ◌≤◌, ◌<◌, max}
use Rattle.model.specs.State.{capacity}
use Rattle.table_tournament.proofs.Levels.{Looked}
use Rattle.table_tournament.proofs.replay.levels_with.Given as goal

abbrev pub invariant-loop-n : goal.invariant-loop-n
invariant-loop-n l = (l.place < capacity) × (l.n ≤ max l.most 1) × Looked l.t l.leaf ((capacity + l.leaf) / 2) l.most l.n l.place
