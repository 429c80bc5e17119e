-- When one backward cell is at least as congested as another, by their octets. (Document 01, "Four moves of the
-- allowed rate"; document 02, L7.)
use Rattle.std.specs.Prelude.{ℕ, ◌/◌, ◌%◌, ◌≤◌, ◌≡◌, true, List, eqb, length, take, drop}
use Rattle.rate.specs.Code.{rate_of}
use Rattle.rate_moves.specs.Moves.{mark_level}
use Rattle.cell.specs.declared.fields.Fields.{Fields}
use Rattle.cell.specs.Octets.{octet}
use Rattle.cell.specs.Header.{type_of, header_right}
use Rattle.cell.specs.Fields.{fields_of, rates_clear, crc_right}

-- the level of the marks that the fields carry
abbrev pub level_of : Fields → ℕ
level_of f = mark_level (eqb f.ci 1) (eqb f.ni 1)

pub record RightChecks (o : List ℕ) : Type 0 where
  pub size : length o ≡ 53
  pub header : header_right o ≡ true
  pub crc : crc_right o ≡ true

-- a backward cell: an RM cell with DIR 1
pub record Backward (o : List ℕ) : Type 0 where
  pub is_rm : type_of o ≡ 6
  pub is_backward : (fields_of o).dir ≡ 1

-- all except marks, ER and CRC is equal: octets 1 to 6, octet 7 without CI and NI, octets 10 to 51
-- and the six bits before the CRC
pub record SameButFeedback (a b : List ℕ) : Type 0 where
  pub start : take 6 a ≡ take 6 b
  pub dir_bn : octet 7 a / 64 ≡ octet 7 b / 64
  pub ra_reserved : octet 7 a % 16 ≡ octet 7 b % 16
  pub middle : take 42 (drop 9 a) ≡ take 42 (drop 9 b)
  pub reserved : octet 52 a / 4 ≡ octet 52 b / 4

-- b is at least as congested as a, with the arguments in this order; only cells whose rate codes
-- have bit 15 clear are compared
pub record AtLeastAsCongested (b a : List ℕ) : Type 0 where
  pub right_first : RightChecks a
  pub right_second : RightChecks b
  pub clear_first : rates_clear a ≡ true
  pub clear_second : rates_clear b ≡ true
  pub rest : SameButFeedback a b
  pub rate : rate_of (fields_of b).er ≤ rate_of (fields_of a).er
  pub level : level_of (fields_of a) ≤ level_of (fields_of b)
