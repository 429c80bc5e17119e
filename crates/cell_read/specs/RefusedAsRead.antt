-- What the number of a cell's refusal, 0 for none, says of its reading.
use Rattle.std.specs.Prelude.{ℕ, ◌/◌, ◌%◌, ◌≡◌, true, false, List, leb, eqb, length}
use Rattle.cell.specs.Header.{vpi_of, vci_of, type_of}
use Rattle.cell.specs.Fields.{fields_of}
use Rattle.cell.specs.Reading.{reading}
use Rattle.cell.specs.Read.{Refused, DataCell, RmCell}

pub record RefusedAsRead (o : List ℕ) (n : ℕ) : Type 0 where
  pub refused : (n ≡ 0 → ⊥) → reading o ≡ Refused n
  pub size : n ≡ 0 → length o ≡ 53
  pub data_cell : n ≡ 0 → leb (type_of o) 3 ≡ true → reading o ≡ DataCell (vpi_of o) (vci_of o) (eqb (type_of o / 2 % 2) 1)
  pub rm : n ≡ 0 → leb (type_of o) 3 ≡ false → reading o ≡ RmCell (fields_of o)
