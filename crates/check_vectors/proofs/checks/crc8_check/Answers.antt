-- The three steps together are the check of the nine octets, and compute to the published value.
use Rattle.check_vectors.proofs.Published.{crc8}
use Rattle.check_vectors.proofs.checks.crc8_check.Goals as goal

pub returns : goal.returns
returns c = crc8 _ _ _ c.header_check-four.ensures c.header_check-eight.ensures c.header_check.ensures
