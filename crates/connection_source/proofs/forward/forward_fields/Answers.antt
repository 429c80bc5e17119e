use Rattle.connection.proofs.SourceCases.{carried}
use Rattle.connection_source.proofs.forward.forward_fields.Goals as goal

pub returns : goal.returns
returns c = carried _ _ c.canonical.ensures c.code_or_zero.ensures c.canonical-2.ensures
