-- Both sides of the contract compute to the published value.
use Rattle.check_vectors.proofs.Published.{crc10}
use Rattle.check_vectors.proofs.checks.crc10_check.Goals as goal

pub returns : goal.returns
returns c = crc10 _ c.crc10.ensures.0
