use mathlib.Core.Path.{refl}
use native.Mathlib.Omega.{arith}
use lib.Dec.{lit≤}
use lib.Ieee.{of_bits}
use Rattle.rate_doubles.proofs.Fractions.{whole-held, quotient-exact}
use Rattle.rate_doubles.proofs.export.in_cells.Goals as goal

pub int_to_float-result : goal.int_to_float-result
int_to_float-result c = whole-held c.args.rate (omega arith)

-- the divisor is 2^9
pub returns : goal.returns
unfolding of_bits
returns c = quotient-exact c.args.rate 9 (omega arith) (lit≤ tt) _ (refl, refl)
