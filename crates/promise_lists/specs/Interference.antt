-- No call touches a connection, or a member of a path, that it is not about. The record of every other one stays
-- as it was. (Document 01, "Four moves of the allowed rate", says so of a backward cell; document 02, L6 and L13.)
use Rattle.std.specs.Prelude.{ℕ, ◌≡◌, ◌≢◌, Bool, false, List, eqb}
use Rattle.std.proofs.Math.Option.{Option, none, some}
use Rattle.cell.specs.Read.{Reading, Refused, DataCell, RmCell}
use Rattle.cell.specs.Name.{address_name}
use Rattle.cell.specs.Fields.{cell_name}
use Rattle.cell.specs.Reading.{reading}
use Rattle.connection_members.specs.Path.{path_of}
use Rattle.connection_members.specs.Members.{Member, is_member, cells_of, owner}
use Rattle.model.specs.State.{empty, find}
use Rattle.model.specs.Answers.{Answer, Refused as NotDone, Accepted, Closed, Idle, Sent}
use Rattle.model.specs.Call.{Call, goes_to}
use Rattle.model.specs.Aspects.{Subject, by_name, in_cell, in_answer, no_subject, subject_of, OnMembers, of_closed, of_added, of_offered, of_removed, of_slot, of_none, members_of}
use Rattle.model.specs.Step.{step}
use Rattle.model.specs.Run.{final}

-- the connection of a received cell: of a member's data cell its path
unfoldable pub read_name : List Member → Reading → Option ℕ
read_name ms (Refused n) = none
read_name ms (DataCell vpi vci e) = some (owner (address_name vpi vci) ms)
read_name ms (RmCell f) = some (cell_name f)

abbrev pub concerned : List Member → Answer → Subject → Option ℕ
concerned ms a (by_name v) = some v
concerned ms a (in_cell o) = read_name ms (reading o)
concerned ms a in_answer = goes_to a
concerned ms a no_subject = none

-- the one connection that a call is about: the call names it or a member of it, receives a cell of it, or is a
-- slot that goes to it; a new member changes none
unfoldable pub concerns : List Member → Call → Answer → Option ℕ
concerns ms c a = concerned ms a (subject_of c)

-- it is a slot's answer with the name x
unfoldable pub answers_name : (x : ℕ) → Answer → Bool
answers_name x (NotDone n) = false
answers_name x (Accepted n) = false
answers_name x (Closed n k) = false
answers_name x Idle = false
answers_name x (Sent v y k a n) = eqb y x

abbrev pub touched : (x : ℕ) → Answer → OnMembers → Bool
touched x a (of_closed v) = eqb v (path_of x)
touched x a (of_added y) = eqb y x
touched x a (of_offered y n) = eqb y x
touched x a (of_removed y) = eqb y x
touched x a of_slot = answers_name x a
touched x a of_none = false

-- a call is about the member x: it names it, closes its path, or is a slot that names it
unfoldable pub touches : (x : ℕ) → Call → Answer → Bool
touches x c a = touched x a (members_of c)

-- x is a member before and after, on which the same waits, or in neither
pub record SameMember (x : ℕ) (ms ns : List Member) : Type 0 where
  pub member : is_member x ns ≡ is_member x ms
  pub cells : cells_of x ns ≡ cells_of x ms

-- after any list of calls from the empty table
pub record NoInterference : Type 0 where
  pub connections :
      (cs : List Call) (c : Call) (u : ℕ) → let s = final empty cs in
      concerns s.members c (step s c).answer ≢ some u → find u (step s c).state.entries ≡ find u s.entries
  pub members :
      (cs : List Call) (c : Call) (x : ℕ) → let s = final empty cs in
      touches x c (step s c).answer ≡ false → SameMember x s.members (step s c).state.members
