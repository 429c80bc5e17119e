-- What reading a cell and writing one answer, computed where two refusals apply.
-- (Document 01, "Refused because of the input" and "Refused because of the state"; document 02, L7.)
use Rattle.std.specs.Prelude.{ℕ, ◌+◌, ◌*◌, ◌≡◌, true, false, List, [], ◌∷◌, ◌++◌, replicate, Ok, Err}
use Rattle.cell_crc.specs.Checks.{header_check}
use Rattle.cell.specs.Header.{header}
use Rattle.cell.specs.Fields.{with_crc, rm_cell}
use Rattle.cell.specs.Reading.{reading}
use Rattle.cell.specs.Writing.{writing}
use Rattle.cell.specs.declared.fields.Fields.{Fields}
use Rattle.cell.specs.Read.{Refused, DataCell}
use Rattle.laws.specs.declared.refusals.Refusal.TheVariants.{Length, Range}

-- a cell of VCI 33 with this payload type, octet 5 right, and nothing in its payload
abbrev pub of_type : (payload_type : ℕ) → List ℕ
of_type t = let four : List ℕ = 0 ∷ 0 ∷ 2 ∷ (16 + t * 2) ∷ [] in four ++ (header_check four ∷ replicate 48 0)

-- an RM cell of VCI 33 with this protocol and this high octet of ER, and a right CRC-10
abbrev pub rm_of : (protocol er : ℕ) → List ℕ
rm_of protocol er = header 0 0 33 ++ with_crc (protocol ∷ 0 ∷ er ∷ replicate 45 0)

-- fields of a cell of VCI 33 with this DIR
abbrev pub with_dir : ℕ → Fields
with_dir dir = record { vpi = 0; vci = 33; dir = dir; bn = 0; ci = 0; ni = 0; ra = 0; er = 0; ccr = 0; mcr = 0; ql = 0; sn = 0 }

-- each field with a value of its own
abbrev pub distinct_fields : Fields
distinct_fields = record { vpi = 0xAB; vci = 0xCDEF; dir = 1; bn = 0; ci = 1; ni = 0; ra = 1; er = 0x1234; ccr = 0x2345; mcr = 0x3456; ql = 0x789ABCDE; sn = 0x13579BDF }

pub record Readings : Type 0 where
  -- 1 before 2, 2 before 4
  pub size : reading (replicate 52 0) ≡ Refused 1
  pub check : reading (0 ∷ 0 ∷ 2 ∷ 24 ∷ replicate 49 0) ≡ Refused 2
  -- types 4, 5 and 7
  pub four : reading (of_type 4) ≡ Refused 4
  pub five : reading (of_type 5) ≡ Refused 4
  pub seven : reading (of_type 7) ≡ Refused 4
  -- 5 before 6, 6 before 19
  pub crc : reading (header 0 0 33 ++ (replicate 47 0 ++ (1 ∷ []))) ≡ Refused 5
  pub protocol : reading (rm_of 0 128) ≡ Refused 6
  pub reserved : reading (rm_of 1 128) ≡ Refused 19
  -- EFCI is the middle bit of the types 0 to 3
  pub zero : reading (of_type 0) ≡ DataCell 0 33 false
  pub one : reading (of_type 1) ≡ DataCell 0 33 false
  pub two : reading (of_type 2) ≡ DataCell 0 33 true
  pub three : reading (of_type 3) ≡ DataCell 0 33 true
  -- writing: 1 before 7
  pub short : writing 52 (with_dir 2) ≡ Err Length
  pub unfit : writing 53 (with_dir 2) ≡ Err Range
  pub fit : writing 53 (with_dir 1) ≡ Ok tt
  -- a whole cell, with every field in its octets
  pub whole :
      rm_cell 0 distinct_fields
      ≡ 0x0A ∷ 0xBC ∷ 0xDE ∷ 0xFC ∷ 0x4F ∷ 0x01 ∷ 0xA8 ∷ 0x12 ∷ 0x34 ∷ 0x23 ∷ 0x45 ∷ 0x34 ∷ 0x56
      ∷ 0x78 ∷ 0x9A ∷ 0xBC ∷ 0xDE ∷ 0x13 ∷ 0x57 ∷ 0x9B ∷ 0xDF ∷ (replicate 30 0x6A ++ (0x01 ∷ 0x69 ∷ []))
