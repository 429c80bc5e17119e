-- A received forward cell turned round. (Document 01, "Turning cells round"; document 02, L2 and L6.)
use Rattle.std.specs.Prelude.{ℕ, ◌+◌, ◌*◌, ◌/◌, ◌%◌, Bool, cond, ◌||◌, List, ◌∷◌, ◌++◌, eqb, get_or, drop}
use Rattle.cell_payload.specs.Payload.{octets_of}
use Rattle.cell_payload.specs.declared.payload.Payload.{Payload}
use Rattle.cell.specs.Header.{header}
use Rattle.cell.specs.Fields.{with_crc}

-- Octet 7 has DIR 1 and BN 0. CI is 1 at level 2 or with a mark of the connection: the saved EFCI,
-- or CI of the turned cell that is replaced. NI is 1 at level 1. Every other bit is as received, so
-- that no mark is lost on the way.
unfoldable pub turned_marks : (level : ℕ) (mark : Bool) → ℕ → ℕ
turned_marks level mark x = 128 + cond (mark || eqb level 2) 1 (x / 32 % 2) * 32 + cond (eqb level 1) 1 (x / 16 % 2) * 16 + x % 16

-- a payload with no bits set but these four, the high ones of octet 7
abbrev pub marks_alone : ℕ → Payload
marks_alone n = record { a = n * 0x10000000000000; b = 0; c = 0; d = 0; e = 0; f = 0 }

-- the payload of 48 octets, received and then turned
unfoldable pub turned_payload : (level : ℕ) (mark : Bool) → List ℕ → List ℕ
turned_payload level mark p = with_crc (get_or p 0 0 ∷ turned_marks level mark (get_or p 1 0) ∷ drop 2 p)

-- the cell that carries a waiting payload
unfoldable pub turned_cell : (vpi vci : ℕ) → Payload → List ℕ
turned_cell vpi vci p = header 0 vpi vci ++ octets_of p
