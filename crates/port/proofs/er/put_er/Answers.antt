-- The four octets stored are those of the definition.
use Rattle.std.proofs.Common.{rules}
use Rattle.port.proofs.Stores.{er-stored}
use Rattle.port.proofs.er.put_er.Goals as goal

pub returns : goal.returns
returns c =
    er-stored c.args.cell.now c.args.code (search rules) (record { each = λ i. search rules }) c.requires.0 c.requires.1
    c.er_check-check.ensures.0 c.er_check-check.ensures.1
