-- What reading a cell gives, with the documents' number of a refusal. (Document 01, "The cell, 53 octets" and
-- "Refused because of the input"; document 02, L6.)
use Rattle.std.specs.Prelude.{ℕ, Bool, Result, Ok, Err}
use Rattle.laws.specs.declared.refusals.Refusal.{Refusal}
use Rattle.laws.specs.Refusals.{number}
use Rattle.cell.specs.declared.fields.Fields.{Fields}
use Rattle.cell.specs.declared.read.Cell.{Cell}
use Rattle.cell.specs.declared.read.Cell.TheVariants.{Data, Rm}

-- the refusal that the cell meets, a data cell's VPI, VCI and EFCI, or an RM cell's fields
pub data Reading : Type 0 where
  Refused : (number : ℕ) → Reading
  DataCell : (vpi vci : ℕ) (efci : Bool) → Reading
  RmCell : (fields : Fields) → Reading

-- the same of what the code answers
abbrev pub read_as : Result Cell Refusal → Reading
read_as (Ok (Data vpi vci efci)) = DataCell vpi vci efci
read_as (Ok (Rm f)) = RmCell f
read_as (Err r) = Refused (number r)
