-- What an RM cell that the engine writes holds outside its fields. (Document 01, "The cell, 53 octets".)
use Rattle.std.specs.Prelude.{ℕ, ◌/◌, ◌%◌, ◌≤◌, ◌≡◌, List, length, take}
use Rattle.cell_crc.specs.Checks.{header_check, payload_check}
use Rattle.cell.specs.Octets.{octet, pair, payload}
use Rattle.cell.specs.Fields.{Fields, rm_cell}

-- 53 octets, GFC 0, payload type 6, the CLP, octet 5, protocol 1, and the CRC-10
pub record Framed (clp : ℕ) (o : List ℕ) : Type 0 where
  pub size : length o ≡ 53
  pub gfc : octet 1 o / 16 ≡ 0
  pub payload_type : octet 4 o / 2 % 8 ≡ 6
  pub loss_priority : octet 4 o % 2 ≡ clp
  pub check : octet 5 o ≡ header_check (take 4 o)
  pub protocol : octet 6 o ≡ 1
  pub crc : pair 52 o % 1024 ≡ payload_check (payload o)

-- the reserved bits of octets 7 and 52 are 0, the reserved octets 0x6A
pub record Blank (o : List ℕ) : Type 0 where
  pub low : octet 7 o % 8 ≡ 0
  pub reserved : (i : ℕ) → 22 ≤ i → i ≤ 51 → octet i o ≡ 0x6A
  pub six : octet 52 o / 4 ≡ 0

-- every cell that is written from fields
abbrev pub WrittenForm : Type 0
WrittenForm = (clp : ℕ) (f : Fields) → clp ≤ 1 → Framed clp (rm_cell clp f) × Blank (rm_cell clp f)
