-- The loop's invariant: the words before the last one of block i stand in their new places, and `moved` is to stand
-- before the others.
use Rattle.table_names.proofs.Entering.{ShiftingUp}
use Rattle.table_names.proofs.filing.shift_up.Given as goal

abbrev pub invariant-loop-i : goal.invariant-loop-i
invariant-loop-i l = ShiftingUp l.b l.word l.initial.t l.t l.i l.moved
