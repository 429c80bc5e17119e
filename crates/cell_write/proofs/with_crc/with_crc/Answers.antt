-- The last word with its low ten bits written new is that of the octets with their CRC-10, whose CRC-10 is right.
use mathlib.Core.Path.{refl, sym, subst}
use Rattle.cell_payload.specs.Payload.{octets_of}
use Rattle.cell.specs.Fields.{CrcMatches}
use Rattle.cell.proofs.OctetLists.{octets-words}
use Rattle.cell.proofs.WithCrc.{with_crc-checked}
use Rattle.cell.proofs.PayloadWords.{crc-words}
use Rattle.cell_write.proofs.with_crc.with_crc.Goals as goal

pub returns : goal.returns
returns c =
    let p = c.args.p in
    let g = c.struct_known-1.given in
    let e =
    crc-words p g.0.fits g.1.0.fits g.1.1.0.fits g.1.1.1.0.fits g.1.1.1.1.0.fits
    g.1.1.1.1.1.0.fits c.crc10-check.ensures.0 in
    (e, subst CrcMatches (sym e) (with_crc-checked (octets_of p) refl (octets-words p)))
