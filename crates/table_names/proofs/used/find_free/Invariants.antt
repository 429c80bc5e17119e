-- The loop's invariant: of the words of a state, the entries before group g are taken.
use Rattle.table_names.proofs.Found.{Searched}
use Rattle.table_names.proofs.used.find_free.Given as goal

abbrev pub invariant-loop-g : goal.invariant-loop-g
invariant-loop-g l = Searched l.t l.g
