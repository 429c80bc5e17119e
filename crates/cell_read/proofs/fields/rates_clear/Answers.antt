use Rattle.std.proofs.Common.{◌∙◌}
use Rattle.cell.proofs.Readings.{codes-are}
use Rattle.cell_read.proofs.fields.rates_clear.Goals as goal

pub returns : goal.returns
returns c = c.codes_clear.ensures ∙ codes-are _ c.from_be_bytes-er.ensures c.from_be_bytes-ccr.ensures c.from_be_bytes-mcr.ensures
