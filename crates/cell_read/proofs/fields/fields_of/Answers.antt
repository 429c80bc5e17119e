-- The fields, one by one, are those of the definition.
use Rattle.std.proofs.Common.{arith}
use Rattle.cell.proofs.Readings.{fields-are}
use Rattle.cell_read.proofs.fields.fields_of.Goals as goal

pub returns : goal.returns
returns c =
    fields-are _ c.vpi_of.ensures c.vci_of.ensures c.from_be_bytes.ensures c.from_be_bytes-2.ensures c.from_be_bytes-3.ensures
    (omega (arith, c.from_be_bytes-4.ensures)) (omega (arith, c.from_be_bytes-5.ensures))
