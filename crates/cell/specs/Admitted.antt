-- The cells that the format admits: those that reading takes. (Document 01, "The cell, 53 octets"; document 02, L7.)
use Rattle.std.specs.Prelude.{ℕ, ◌≤◌, ◌%◌, ◌≡◌, true, List, length, take}
use Rattle.cell_crc.specs.Checks.{header_check, payload_check}
use Rattle.cell.specs.Octets.{octet, pair, payload}
use Rattle.cell.specs.Header.{type_of}
use Rattle.cell.specs.Fields.{rates_clear}
use Rattle.cell.specs.Reading.{Reading, Refused}

-- a data cell, or an RM cell whose CRC-10 is right, whose protocol is 1 and whose rate codes have bit 15 clear
pub data Admissible (o : List ℕ) : Type 0 where
  data_cell : type_of o ≤ 3 → Admissible o
  rm_cell : type_of o ≡ 6 → pair 52 o % 1024 ≡ payload_check (payload o) → octet 6 o ≡ 1 → rates_clear o ≡ true → Admissible o

-- of 53 octets, with octet 5 right
pub record Admitted (o : List ℕ) : Type 0 where
  pub size : length o ≡ 53
  pub check : octet 5 o ≡ header_check (take 4 o)
  pub kind : Admissible o

-- what is read is no refusal
abbrev pub Taken : Reading → Type 0
Taken r = (n : ℕ) → r ≡ Refused n → ⊥
