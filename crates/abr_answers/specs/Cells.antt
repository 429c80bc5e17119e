-- What writing and reading a cell return.
-- (Document 01, "The cell, 53 octets" and "Refused because of the input"; document 02, L6.)
use Rattle.std.specs.Prelude.{ℕ, cond, List, length}
use Rattle.cell.specs.Fields.{rm_cell}
use Rattle.cell.specs.Writing.{writing, buffer_written}
use Rattle.cell.specs.declared.fields.Fields.{Fields}
use Rattle.cell.specs.Read.{Reading, Refused as Unread, DataCell, RmCell}
use Rattle.laws.specs.Refusals.{refusal_or_0}
pub use Rattle.abr_answers.specs.declared.cells.AbrCell.{AbrCell}

-- writing an RM cell of these fields into a buffer: the number, and the octets afterwards
abbrev pub write_refusal : Fields → (old : List ℕ) → ℕ
write_refusal f old = refusal_or_0 (writing (length old) f)

abbrev pub octets_after : Fields → (old : List ℕ) → List ℕ
octets_after f old = buffer_written (writing (length old) f) (rm_cell 0 f) old

abbrev pub address_alone : (vpi vci : ℕ) → Fields
address_alone vpi vci = record { vpi = vpi; vci = vci; dir = 0; bn = 0; ci = 0; ni = 0; ra = 0; er = 0; ccr = 0; mcr = 0; ql = 0; sn = 0 }

-- Kind 1 is a data cell: its EFCI and, of the fields, only the VPI and the VCI. Kind 2 is an RM cell: its fields,
-- and 0 for EFCI. Beside a refusal all are 0.
abbrev pub cell_of : Reading → AbrCell
cell_of (Unread n) = record { refusal = n; kind = 0; efci = 0; rm = address_alone 0 0 }
cell_of (DataCell vpi vci e) = record { refusal = 0; kind = 1; efci = cond e 1 0; rm = address_alone vpi vci }
cell_of (RmCell f) = record { refusal = 0; kind = 2; efci = 0; rm = f }
