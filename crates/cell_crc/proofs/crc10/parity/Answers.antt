use Prim.Native.Nat.{◌≤◌}
use native.Mathlib.Nat.{mod-lt}
use native.Mathlib.Omega.{arith}
use lib.Count.{ones, ones-le}
use lib.Dec.{lit<}
use Rattle.cell_crc.proofs.Parity.{ones_is}
use Rattle.cell_crc.proofs.crc10.parity.Goals as goal

pub overflow_cast-result : goal.overflow_cast-result
overflow_cast-result c =
    let h : ones c.args.z ≤ 64 = ones-le 64 c.args.z c.ranges.z.fits in
    record { fits = omega arith }

pub returns : goal.returns
returns c = (ones_is 64 c.args.z c.ranges.z.fits, mod-lt (ones c.args.z) (lit< tt))
