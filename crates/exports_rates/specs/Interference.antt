-- A call that is not about a connection leaves what abr_acr returns for it and what waits on it. A call that is
-- not about a member leaves what waits on that member. (Document 01, "Four moves of the allowed rate", says so of
-- a backward cell; document 02, L6 and L13.)
use Rattle.std.specs.Prelude.{ℕ, ◌≡◌, ◌≢◌, Bool, false, ◌&&◌, not, List, eqb}
use Rattle.std.proofs.Math.Option.{Option, none, some}
use Rattle.cell.specs.Read.{Reading, Refused, DataCell, RmCell}
use Rattle.cell.specs.Name.{name_from, address_name}
use Rattle.cell.specs.Fields.{cell_name}
use Rattle.cell.specs.Reading.{reading}
use Rattle.connection_members.specs.Path.{path_of}
use Rattle.model.specs.Call.{Call, closing, removing}
use Rattle.model.specs.Aspects.{Subject, by_name, in_cell, in_answer, no_subject, subject_of, OnMembers, of_closed, of_added, of_offered, of_removed, of_slot, of_none, members_of}
use Rattle.abr_answers.specs.declared.calls.AbrAllowed.{AbrAllowed}
use Rattle.abr.specs.Contract.{ReturnsAllowed}
use Rattle.abr.specs.Exports.{Observation, Performs, Transcript, final_words, zeros}
use Rattle.exports.specs.Returned.{no_member, members_seen, connection_of, went_to}
use Rattle.abr_answers.specs.Reply.{Reply}

-- the one connection that a call is about, as a caller knows it
abbrev pub read_name_seen : (member : ℕ → Bool) → Reading → Option ℕ
read_name_seen f (Refused n) = none
read_name_seen f (DataCell vpi vci e) = some (connection_of f (address_name vpi vci))
read_name_seen f (RmCell g) = some (cell_name g)

abbrev pub subject_seen : (member : ℕ → Bool) → Reply → Subject → Option ℕ
subject_seen f r (by_name v) = some v
subject_seen f r (in_cell o) = read_name_seen f (reading o)
subject_seen f r in_answer = went_to f r
subject_seen f r no_subject = none

abbrev pub names_seen : (member : ℕ → Bool) → Call → Reply → Option ℕ
names_seen f c r = subject_seen f r (subject_of c)

-- a call is about the member x: it names it, closes its path, or is a slot that returned it
abbrev pub touched_seen : (x : ℕ) → Reply → OnMembers → Bool
touched_seen x r (of_closed v) = eqb v (path_of x)
touched_seen x r (of_added y) = eqb y x
touched_seen x r (of_offered y n) = eqb y x
touched_seen x r (of_removed y) = eqb y x
touched_seen x r of_slot = not (eqb r.kind 0) && eqb (name_from r.vpi r.vci) x
touched_seen x r of_none = false

abbrev pub touches_seen : (x : ℕ) → Call → Reply → Bool
touches_seen x c r = touched_seen x r (members_of c)

-- two closes: the same refusal or none, and the same data cells
pub record SameClose (a b : Observation) : Type 0 where
  pub refusals : b.returned.refusal ≡ a.returned.refusal
  pub cells : b.cells ≡ a.cells

-- two removals: neither refused or both, so that it is a member before and after or in neither, and the same data cells
pub record SameRemoval (a b : Observation) : Type 0 where
  pub accepted : eqb b.returned.refusal 0 ≡ eqb a.returned.refusal 0
  pub cells : b.cells ≡ a.cells

-- after any exported calls from the zero table, and one call more
pub record ExportsNoInterference : Type 0 where
  -- of any other connection, open or not, abr_acr returns the same: rate, change and refusal
  pub rates :
      (cs : List Call) (os : List Observation) → Transcript cs zeros os → (c : Call) (o : Observation) → Performs c (final_words zeros os) o → (u : ℕ)
      → names_seen (members_seen no_member cs os) c o.returned ≢ some u → (a b : AbrAllowed) → ReturnsAllowed u (final_words zeros os) a → ReturnsAllowed u o.table b → b ≡ a
  -- and abr_close would return the same
  pub closes :
      (cs : List Call) (os : List Observation) → Transcript cs zeros os → (c : Call) (o : Observation) → Performs c (final_words zeros os) o → (vpi vci : ℕ)
      → names_seen (members_seen no_member cs os) c o.returned ≢ some (address_name vpi vci)
      → (a b : Observation) → Performs (closing vpi vci) (final_words zeros os) a → Performs (closing vpi vci) o.table b → SameClose a b
  -- of any other member, or no member, abr_remove_member would return the same data cells, or a refusal
  pub removes :
      (cs : List Call) (os : List Observation) → Transcript cs zeros os → (c : Call) (o : Observation) → Performs c (final_words zeros os) o → (vpi vci : ℕ)
      → touches_seen (address_name vpi vci) c o.returned ≡ false
      → (a b : Observation) → Performs (removing vpi vci) (final_words zeros os) a → Performs (removing vpi vci) o.table b → SameRemoval a b
