-- The reserved bit of rate codes in opens and received cells, computed from the empty table. (Document 02, L7.)
use Rattle.std.specs.Prelude.{ℕ, ◌≡◌, List, [], ◌∷◌, ◌++◌, replicate}
use Rattle.rate_params.specs.Params.{house_set}
use Rattle.cell.specs.Header.{header}
use Rattle.cell.specs.Fields.{with_crc, rm_cell}
use Rattle.model.specs.Call.{Call, opening, receiving}
use Rattle.check_examples.specs.Unstarred.{refused, accepted, next, house}

-- a backward cell of VPI 0 and this VCI with these codes, its checks right
abbrev pub receiving_coded : (vci er ccr mcr : ℕ) → Call
receiving_coded v er ccr mcr =
    receiving (rm_cell 0 (record { vpi = 0; vci = v; dir = 1; bn = 0; ci = 0; ni = 0; ra = 0; er = er; ccr = ccr; mcr = mcr; ql = 0; sn = 0 }))

-- the payload of a backward cell of this protocol with bit 15 of ER set, its CRC-10 not yet written
abbrev pub flagged : (protocol : ℕ) → List ℕ
flagged n = n ∷ 128 ∷ 0xD3 ∷ 0xE8 ∷ replicate 44 0

abbrev pub opened_one : List Call
opened_one = opening 0 33 0 house ∷ []

pub record ReservedCalls : Type 0 where
  -- an open: after 10, before 7, in each of the three codes
  pub low : next [] (opening 0 31 0 (house_set 0xD3E8 0x4000 0x4200)) ≡ refused 10
  pub peak : next [] (opening 0 33 0 (house_set 0xD3E8 0x4000 0x4200)) ≡ refused 19
  pub minimum : next [] (opening 0 33 0 (house_set 0x53E8 0xC000 0x4200)) ≡ refused 19
  pub initial : next [] (opening 0 33 0 (house_set 0x53E8 0x4000 0xC200)) ≡ refused 19
  pub far_away : next [] (opening 256 33 0 (house_set 0xD3E8 0x4000 0x4200)) ≡ refused 19
  -- a number over 16 bits is no code, and meets 7, unless a code beside it meets 19
  pub wide : next [] (opening 0 33 0 (house_set 0x1D3E8 0x4000 0x4200)) ≡ refused 7
  pub wide_beside : next [] (opening 0 33 0 (house_set 0x1D3E8 0xC000 0x4200)) ≡ refused 19
  -- a received cell: after 5 and 6, in each of the three codes, before 11
  pub bad_crc : next opened_one (receiving (header 0 0 33 ++ flagged 1)) ≡ refused 5
  pub bad_protocol : next opened_one (receiving (header 0 0 33 ++ with_crc (flagged 2))) ≡ refused 6
  pub flagged_cell : next opened_one (receiving (header 0 0 33 ++ with_crc (flagged 1))) ≡ refused 19
  pub explicit : next opened_one (receiving_coded 33 0xD3E8 0 0) ≡ refused 19
  pub current : next opened_one (receiving_coded 33 0x53E8 0xC000 0) ≡ refused 19
  pub least : next opened_one (receiving_coded 33 0x53E8 0 0xC000) ≡ refused 19
  pub unknown : next opened_one (receiving_coded 34 0xD3E8 0 0) ≡ refused 19
  -- bit 14 is no reserved bit
  pub taken : next opened_one (receiving_coded 33 0x53E8 0x7FFF 0x3FFF) ≡ accepted
