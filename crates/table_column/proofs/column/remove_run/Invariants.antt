-- The loop's invariant: the words that stay of those before word i stand before word p, and between the two are zeros.
use Rattle.table_column.proofs.Runs.{Running}
use Rattle.table_column.proofs.column.remove_run.Given as goal

abbrev pub invariant-loop-i : goal.invariant-loop-i
invariant-loop-i l = Running l.from l.len l.high l.low l.initial.t l.t l.p l.i
