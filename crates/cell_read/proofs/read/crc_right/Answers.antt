-- The check of the payload's words, beside the low ten bits of the last.
use Rattle.std.proofs.Common.{rules}
use Rattle.cell.proofs.Readings.{crc-test}
use Rattle.cell_read.proofs.read.crc_right.Goals as goal

pub returns : goal.returns
returns c = crc-test c.args.cell.now _ _ (search rules) (record { each = λ i. search rules }) c.payload_at-p.ensures c.crc10.ensures.0
