-- Which cells stay as they are, and that every cell that is accepted leaves as a cell. (Document 02, L10.)
use Rattle.std.specs.Prelude.{ℕ, ◌<◌, ◌≡◌, Bool, List, None, Ok}
use Rattle.cell.specs.Reading.{reading}
use Rattle.cell.specs.Admitted.{Admitted}
use Rattle.cell.specs.declared.fields.Fields.{Fields}
use Rattle.cell.specs.Read.{DataCell, RmCell}
use Rattle.port_share.specs.Share.{fair_share}
use Rattle.port.specs.Limit.{Forwarded, passed, limit}
use Rattle.port.specs.Port.{port}

-- a refused call leaves the cell, and an accepted one leaves a cell that the format admits, with right checks
pub record Whole (o : List ℕ) (p : Forwarded) : Type 0 where
  pub refused : 0 < p.refusal → p.cell ≡ o
  pub admitted : p.refusal ≡ 0 → Admitted p.cell

pub record OthersUnchanged : Type 0 where
  -- data cells and forward cells: accepted, and every octet as it was
  pub data_on_path : (rate : ℕ) (o : List ℕ) (vpi vci : ℕ) (efci : Bool) → reading o ≡ DataCell vpi vci efci → limit rate o ≡ passed 0 o
  pub forward : (rate : ℕ) (o : List ℕ) (f : Fields) → reading o ≡ RmCell f → (f.dir ≡ 1 → ⊥) → limit rate o ≡ passed 0 o
  -- without a limit every cell
  pub unlimited : (capacity : ℕ) (ds o : List ℕ) → fair_share capacity ds ≡ Ok None → (port capacity ds o).cell ≡ o
  -- of every call
  pub held : (rate : ℕ) (o : List ℕ) → Whole o (limit rate o)
  pub ported : (capacity : ℕ) (ds o : List ℕ) → Whole o (port capacity ds o)
