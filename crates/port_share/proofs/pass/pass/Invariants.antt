-- The sums of the demands passed.
use mathlib.Core.Path.{◌≡◌}
use Prim.Native.Nat.{◌*◌, ◌≤◌}
use lib.ListN.{take}
use Rattle.port_share.specs.Demands.{cut_sum}
use Rattle.port_share.specs.Above.{above}
use Rattle.port_share.proofs.pass.pass.Given as goal

abbrev pub invariant-loop-d : goal.invariant-loop-d
invariant-loop-d l = (l.sum ≡ cut_sum l.s (take l.d-index l.demands)) × ((l.above ≡ above l.s (take l.d-index l.demands)) × ((l.sum ≤ l.d-index * 2_196_875_771_904) × (l.above ≤ l.d-index)))
