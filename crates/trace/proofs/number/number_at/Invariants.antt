-- `trace::number::number_at` meets its contract. The invariant: what is still to be read from k on is the number that
-- starts at the offset (`OnTheWay`).
use Rattle.trace.specs.Numbers.{number_at}
use Rattle.trace.proofs.OnTheWay.{OnTheWay}
use Rattle.trace.proofs.number.number_at.Given as goal

abbrev pub invariant-loop-k : goal.invariant-loop-k
invariant-loop-k l = OnTheWay l.octets l.k l.value l.weight (number_at l.octets l.offset)
