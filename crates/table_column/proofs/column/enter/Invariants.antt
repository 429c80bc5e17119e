-- The loop's invariant: the words before word i stand in their new places, and `moved` is to stand before the others.
use Rattle.table_column.proofs.Moves.{Inserting}
use Rattle.table_column.proofs.column.enter.Given as goal

abbrev pub invariant-loop-i : goal.invariant-loop-i
invariant-loop-i l = Inserting l.from l.p l.len l.word l.initial.t l.t l.i l.moved
