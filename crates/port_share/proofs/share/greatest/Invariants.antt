-- What fits goes up, and what is left of the capacity times the demands not met goes down to nothing.
use Rattle.port_share.proofs.Rises.{AfterPasses}
use Rattle.port_share.proofs.share.greatest.Given as goal

abbrev pub invariant-loop : goal.invariant-loop
invariant-loop l = AfterPasses l.capacity l.demands l.s l.left l.above l.counter
