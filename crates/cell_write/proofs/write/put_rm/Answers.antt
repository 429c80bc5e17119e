-- The header, and then the payload with its CRC-10.
use mathlib.Core.Path.{ap, ◌∙◌}
use mathlib.Core.List.{List, ◌++◌}
use Prim.Native.Nat.{ℕ}
use Rattle.cell_payload.specs.Payload.{octets_of}
use Rattle.cell.specs.Header.{header}
use Rattle.cell.specs.Fields.{rm_cell}
use Rattle.cell.proofs.Fits.{fit}
use Rattle.cell.proofs.Stores.{cell-put}
use Rattle.cell.proofs.PayloadWords.{with_crc-words}
use Rattle.cell_write.proofs.write.put_rm.Goals as goal

pub returns : goal.returns
unfolding rm_cell
returns c =
    let p = c in
    let h = p in
    let s = h in
    let f = s.args.f in
    cell-put s.args.clp f.vpi f.vci s.args.cell.now (octets_of p.with_crc.result) h.put_header.ensures p.put_payload.ensures
    ∙ ap (λ (l : List ℕ). header s.args.clp f.vpi f.vci ++ l)
    (with_crc-words f (fit f s.requires.1) p.without_crc.ensures p.with_crc.ensures.0)
