-- What calls read of a whole connection, of a member and of the link; they leave the table as it is.
-- (Beyond the documents' demands.)
use Rattle.std.specs.Prelude.{ℕ, zero, suc, true, false, cond, List, [], ◌∷◌, length, get_or}
use Rattle.std.proofs.Math.Option.{Option, none, some}
use Rattle.connection_members.specs.Members.{Member, is_member, cells_of, owner}
use Rattle.connection.specs.Parts.{waiting}
use Rattle.connection.specs.Ready.{ready_instant}
use Rattle.model.specs.State.{State, Entry, free, taken, find, leaf_of}
use Rattle.model.specs.Queries.{ready_word}
use Rattle.model.specs.Orders.{open_count}
use Rattle.model.specs.Answers.{Status, NothingOpen, Open, MemberStatus, NoMember, AMember}
use Rattle.model.specs.declared.readings.Totals.{Totals}

-- the connection in an entry, under this name; of a member's name the cells that wait on the member
unfoldable pub entry_status : (name leaf : ℕ) → (member : Option ℕ) → Entry → Status
entry_status x l m free = NothingOpen
entry_status x l none (taken c) = Open x false (waiting c.queue) l (ready_word (ready_instant c)) c
entry_status x l (some n) (taken c) = Open x true n l (ready_word (ready_instant c)) c

-- what waits on a name if it is a member
abbrev pub member_cells : (name : ℕ) → List Member → Option ℕ
member_cells x ms = cond (is_member x ms) (some (cells_of x ms)) none

-- a channel, a path, or a member with its path
unfoldable pub status_of : State → (name : ℕ) → Status
status_of s x = entry_status x (leaf_of (owner x s.members) s) (member_cells x s.members) (find (owner x s.members) s.entries)

-- the connection in a leaf, by its own name
unfoldable pub leaf_status : (leaf : ℕ) → Entry → Status
leaf_status l free = NothingOpen
leaf_status l (taken c) = entry_status c.name l none (taken c)

unfoldable pub status_at : State → (leaf : ℕ) → Status
status_at s l = leaf_status l (get_or s.entries l free)

-- the member with this number, counted from 0 in the order of names
unfoldable pub member_numbered : List Member → (number : ℕ) → MemberStatus
member_numbered [] i = NoMember
member_numbered (m ∷ ms) zero = AMember m.name m.cells
member_numbered (m ∷ ms) (suc i) = member_numbered ms i

unfoldable pub member_status_at : State → (number : ℕ) → MemberStatus
member_status_at s i = member_numbered s.members i

unfoldable pub totals : State → Totals
totals s = record { connections = open_count s.entries; members = length s.members; level = s.level; last = s.last }
