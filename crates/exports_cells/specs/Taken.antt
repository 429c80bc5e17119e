-- A cell is taken in exactly when the format admits it and its connection is open. This is stated by the octets of
-- one more abr_receive, the number that it returns, and what a caller knows from the calls before it and the
-- numbers that they returned. (Document 01, "Refused because of the state"; document 02, L7 and L13.)
use Rattle.std.specs.Prelude.{ℕ, ◌≤◌, ◌≡◌, false, List}
use Rattle.cell.specs.Header.{type_of}
use Rattle.cell.specs.Reading.{reading}
use Rattle.cell.specs.Admitted.{Admitted}
use Rattle.connection_members.specs.Path.{is_path, path_of}
use Rattle.model.specs.Call.{Call, receiving}
use Rattle.abr_answers.specs.declared.cells.AbrCell.{AbrCell}
use Rattle.abr_answers.specs.Cells.{cell_of}
use Rattle.abr.specs.Exports.{Observation, Performs, Transcript, final_words, zeros}
use Rattle.exports.specs.Known.{Opened, KnownMember, name_in}

-- The connection of a cell is open. For a data cell this is the channel of its pair, which is no path's own name,
-- or the path that the pair is a member of. For an RM cell it is the connection of its pair.
pub data ConnectionOpen (cs : List Call) (os : List Observation) (octets : List ℕ) : Type 0 where
  channel : type_of octets ≤ 3 → is_path (name_in octets) ≡ false → Opened cs os (name_in octets) → ConnectionOpen cs os octets
  member : type_of octets ≤ 3 → KnownMember cs os (name_in octets) → Opened cs os (path_of (name_in octets)) → ConnectionOpen cs os octets
  rm : type_of octets ≡ 6 → Opened cs os (name_in octets) → ConnectionOpen cs os octets

-- after any exported calls from the zero table
pub record TakenExactly : Type 0 where
  pub taken :
      (cs : List Call) (os : List Observation) → Transcript cs zeros os → (octets : List ℕ) (o : Observation) → Performs (receiving octets) (final_words zeros os) o
      → o.returned.refusal ≡ 0 → Admitted octets × ConnectionOpen cs os octets
  pub takes :
      (cs : List Call) (os : List Observation) → Transcript cs zeros os → (octets : List ℕ) (o : Observation) → Performs (receiving octets) (final_words zeros os) o
      → Admitted octets → ConnectionOpen cs os octets → o.returned.refusal ≡ 0
  -- and abr_read returns 0 exactly if it is admitted
  pub read : (octets : List ℕ) (r : AbrCell) → r ≡ cell_of (reading octets) → r.refusal ≡ 0 → Admitted octets
  pub reads : (octets : List ℕ) (r : AbrCell) → r ≡ cell_of (reading octets) → Admitted octets → r.refusal ≡ 0
  -- a member's path is open, and its own name is not: a pair is a channel or a member, never both
  pub members : (cs : List Call) (os : List Observation) → Transcript cs zeros os → (x : ℕ) → KnownMember cs os x → Opened cs os (path_of x) × (Opened cs os x → ⊥)
