-- The loop's invariant: what is looked for is among the words from p on, and half of them is looked at next.
use Rattle.table_column.proofs.Halving.{HalvedFrom}
use Rattle.table_column.proofs.column.at_least_from.Given as goal

abbrev pub invariant-loop-half : goal.invariant-loop-half
invariant-loop-half l = HalvedFrom l.from l.start l.len l.t l.word l.p l.half

abbrev pub decreases-loop-half : goal.decreases-loop-half
decreases-loop-half l = l.half
