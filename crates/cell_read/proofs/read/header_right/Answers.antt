-- The check of the first four octets, beside octet 5.
use Rattle.std.proofs.Common.{rules}
use Rattle.cell.proofs.Readings.{header-test}
use Rattle.cell_read.proofs.read.header_right.Goals as goal

pub returns : goal.returns
returns c = header-test c.args.cell.now _ (search rules) c.header_check.ensures
