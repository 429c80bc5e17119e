-- The header, and then the payload.
use Rattle.cell_payload.specs.Payload.{octets_of}
use Rattle.cell.specs.Turning.{turned_cell}
use Rattle.cell.proofs.Stores.{cell-put}
use Rattle.cell_write.proofs.turned.put_turned.Goals as goal

pub returns : goal.returns
unfolding turned_cell
returns c =
    let p = c in
    let h = p in
    let s = h in
    cell-put 0 s.args.vpi s.args.vci s.args.cell.now (octets_of s.args.p) h.put_header.ensures p.put_payload.ensures
