use Rattle.abr.proofs.Answered.{acrs}
use Rattle.abr.proofs.connections.abr_acr.Goals as goal

pub returns : goal.returns
returns c = acrs c.address_name-name.ensures c.from.ensures c.read_acr.ensures
