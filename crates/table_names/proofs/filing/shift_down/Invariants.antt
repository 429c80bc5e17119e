-- The loop's invariant: the words before the last one of block i stand in their new places, and those behind it are to
-- move down by one.
use Rattle.table_names.proofs.Leaving.{ShiftingDown}
use Rattle.table_names.proofs.filing.shift_down.Given as goal

abbrev pub invariant-loop-i : goal.invariant-loop-i
invariant-loop-i l = ShiftingDown l.b l.initial.t l.t l.i
