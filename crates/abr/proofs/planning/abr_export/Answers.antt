use Rattle.abr.proofs.Planned.{exports}
use Rattle.abr.proofs.planning.abr_export.Goals as goal

pub returns : goal.returns
returns c = exports _ _ c.address_name-name.ensures c.from-answer.ensures c.read_contract.ensures
