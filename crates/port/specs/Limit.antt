-- A passing cell held to a rate. (Document 02, L10; the refusals are those of reading a cell, in their order.)
use Rattle.std.specs.Prelude.{ℕ, min, cond, List, ◌++◌, eqb, take, drop}
use Rattle.rate.specs.Code.{rate_of, code_of}
use Rattle.cell.specs.Octets.{two, payload}
use Rattle.cell.specs.Fields.{with_crc}
use Rattle.cell.specs.Reading.{reading}
use Rattle.cell.specs.Read.{Reading, Refused, DataCell, RmCell}

-- what a call answers and leaves: the number of its refusal, 0 if it was accepted, and the octets of the cell
pub record Forwarded : Type 0 where
  pub refusal : ℕ
  pub cell : List ℕ

abbrev pub passed : (refusal : ℕ) (cell : List ℕ) → Forwarded
passed n o = record { refusal = n; cell = o }

abbrev pub refusal_of : Reading → ℕ
refusal_of (Refused n) = n
refusal_of (DataCell vpi vci efci) = 0
refusal_of (RmCell f) = 0

-- the code of the lesser of ER and the rate; so a code of rate 0 with other bits set becomes 0x0000, whatever the rate
abbrev pub held_er : (rate er : ℕ) → ℕ
held_er rate er = code_of (min (rate_of er) rate)

-- a payload of 48 octets with this code as ER, in octets 8 and 9 of its cell, and the CRC-10 written new
unfoldable pub with_er : (code : ℕ) → List ℕ → List ℕ
with_er code p = with_crc (take 2 p ++ (two code ++ drop 4 p))

-- a backward cell, DIR 1, has its ER held to the rate; every other cell passes as it is
unfoldable pub held : (rate : ℕ) → List ℕ → Reading → List ℕ
held rate o (Refused n) = o
held rate o (DataCell vpi vci efci) = o
held rate o (RmCell f) = cond (eqb f.dir 1) (take 5 o ++ with_er (held_er rate f.er) (payload o)) o

abbrev pub limit : (rate : ℕ) → List ℕ → Forwarded
limit rate o = passed (refusal_of (reading o)) (held rate o (reading o))
