-- The loop's invariant: the words before word i stand in their new places, and those behind it are to move down by one.
use Rattle.table_column.proofs.Moves.{Removing}
use Rattle.table_column.proofs.column.leave.Given as goal

abbrev pub invariant-loop-i : goal.invariant-loop-i
invariant-loop-i l = Removing l.from l.p l.len l.initial.t l.t l.i
