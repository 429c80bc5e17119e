-- What a caller keeps of one connection, only from the calls and what they returned: its open, its cells from
-- slots, and what waits on it. With its contract and the rate that abr_acr returns, this gives its ready
-- instant and the kind of its next cell. (Document 01, "Opening", "Four moves of the allowed rate" and "Slots";
-- document 02, L1, L5 and L13.)
use Rattle.std.specs.Prelude.{ℕ, ◌+◌, ◌-◌, min, Bool, true, false, cond, ◌&&◌, ◌||◌, not, List, eqb}
use Rattle.cell.specs.declared.fields.Fields.{Fields}
use Rattle.cell.specs.Read.{Reading, Refused, DataCell, RmCell}
use Rattle.cell.specs.Name.{name_from, address_name}
use Rattle.cell.specs.Fields.{cell_name}
use Rattle.cell.specs.Reading.{reading}
use Rattle.connection_members.specs.Path.{path_vci, path_of}
use Rattle.connection.specs.declared.parts.Pace.{Pace}
use Rattle.connection.specs.declared.parts.Pace.TheVariants.{Unsent, Running}
use Rattle.model.specs.Call.{Call, opening, closing, receiving, offering, levelling, slot, making, out_of_rate, opening_path, adding, offering_member, removing}
use Rattle.abr.specs.Exports.{Observation}
use Rattle.exports.specs.Returned.{no_member, member_seen, connection_returned}
use Rattle.exports.specs.Along.{kept}
use Rattle.abr_answers.specs.Reply.{Reply}

pub record Seen : Type 0 where
  pub opened : ℕ  -- the instant of its open; 0 while it is closed
  -- its cells from slots: the instants of the last and of the last forward one, k, and whether a turned or made one is
  -- among those k
  pub pace : Pace
  pub unanswered : ℕ  -- Y: its forward cells from slots since the last backward cell with BN 0
  pub turned : Bool  -- a turned cell waits
  pub made : Bool  -- a made cell waits
  pub waiting : ℕ  -- its data cells that wait, of a path those of all its members
  pub served : ℕ  -- of a path, the VCI of the member whose data cell went last; 0 before any

abbrev pub seen : (opened : ℕ) → Pace → (unanswered : ℕ) → (turned made : Bool) → (waiting served : ℕ) → Seen
seen t p y b m n x = record { opened = t; pace = p; unanswered = y; turned = b; made = m; waiting = n; served = x }

-- as a connection starts, and while it is closed
abbrev pub opened_at : (t : ℕ) → Seen
opened_at t = seen t Unsent 0 false false 0 0

-- a received RM cell: a forward one waits turned round, a backward one with BN 0 answers
abbrev pub received : Fields → Seen → Seen
received f k =
    seen k.opened k.pace (cond (eqb f.dir 1 && eqb f.bn 0) 0 k.unanswered) (not (eqb f.dir 1) || k.turned) k.made k.waiting k.served

abbrev pub read_seen : (v : ℕ) → Reading → Seen → Seen
read_seen v (Refused n) k = k
read_seen v (DataCell vpi vci e) k = k
read_seen v (RmCell f) k = cond (eqb (cell_name f) v) (received f k) k

-- a cell of it from a slot at t: a forward one, after which the count starts again
abbrev pub forward_sent : (t : ℕ) → Seen → Seen
forward_sent t k = seen k.opened (Running t t 0 false) (min (k.unanswered + 1) 8_388_608) k.turned k.made k.waiting k.served

-- one more cell, turned or made or not
abbrev pub further : (t : ℕ) → Bool → Pace → Pace
further t b Unsent = Unsent
further t b (Running sent forward n turned) = Running t forward (n + 1) (turned || b)

-- the turned cell goes before the made one
abbrev pub turned_sent : (t : ℕ) → Seen → Seen
turned_sent t k = seen k.opened (further t true k.pace) k.unanswered false (k.turned && k.made) k.waiting k.served

-- a data cell, of a member or not
abbrev pub data_sent : (t : ℕ) → (of_member : Bool) → (vci : ℕ) → Seen → Seen
data_sent t b x k = seen k.opened (further t false k.pace) k.unanswered k.turned k.made (k.waiting - 1) (cond b x k.served)

-- kind 1 is forward, 2 turned or made, 3 data
abbrev pub cell_sent : (t : ℕ) → (member : ℕ → Bool) → Reply → Seen → Seen
cell_sent t f r k = cond (eqb r.kind 1) (forward_sent t k) (cond (eqb r.kind 2) (turned_sent t k) (data_sent t (f (name_from r.vpi r.vci)) r.vci k))

abbrev pub makes : Seen → Seen
makes k = seen k.opened k.pace k.unanswered k.turned true k.waiting k.served

abbrev pub waits_now : (n : ℕ) → Seen → Seen
waits_now n k = seen k.opened k.pace k.unanswered k.turned k.made n k.served

-- after a call that was not refused, returned this and, as a close or a removal, this many cells
abbrev pub seen_after : (v : ℕ) → (member : ℕ → Bool) → Call → Reply → (cells : ℕ) → Seen → Seen
seen_after v f (opening vpi vci t p) r n k = cond (eqb (address_name vpi vci) v) (opened_at t) k
seen_after v f (closing vpi vci) r n k = cond (eqb (address_name vpi vci) v) (opened_at 0) k
seen_after v f (receiving o) r n k = read_seen v (reading o) k
seen_after v f (offering vpi vci m) r n k = cond (eqb (address_name vpi vci) v) (waits_now (k.waiting + m) k) k
seen_after v f (levelling l) r n k = k
seen_after v f (slot t room) r n k = cond (not (eqb r.kind 0) && eqb (connection_returned f r) v) (cell_sent t f r k) k
seen_after v f (making vpi vci t) r n k = cond (eqb (address_name vpi vci) v) (makes k) k
seen_after v f (out_of_rate vpi vci t room) r n k = k
seen_after v f (opening_path vpi t p) r n k = cond (eqb (address_name vpi path_vci) v) (opened_at t) k
seen_after v f (adding vpi vci) r n k = k
seen_after v f (offering_member vpi vci m) r n k = cond (eqb (path_of (address_name vpi vci)) v) (waits_now (k.waiting + m) k) k
seen_after v f (removing vpi vci) r n k = cond (eqb (path_of (address_name vpi vci)) v) (waits_now (k.waiting - n) k) k

-- kept together with the members, by which a returned pair says whose cell it was
pub record Watched : Type 0 where
  pub member : ℕ → Bool
  pub connection : Seen

abbrev pub watch : (v : ℕ) → Call → Observation → Watched → Watched
watch v c o k = record {
  member = member_seen c o k.member;
  connection = cond (eqb o.returned.refusal 0) (seen_after v k.member c o.returned o.cells k.connection) k.connection;
}

abbrev pub unwatched : Watched
unwatched = record { member = no_member; connection = opened_at 0 }

-- what is kept after calls, and of v after calls from the zero table
abbrev pub watched_from : (v : ℕ) → Watched → List Call → List Observation → Watched
watched_from v k cs os = kept (watch v) k cs os

abbrev pub watched : (v : ℕ) → List Call → List Observation → Watched
watched v cs os = watched_from v unwatched cs os

abbrev pub seen_of : (v : ℕ) → List Call → List Observation → Seen
seen_of v cs os = (watched v cs os).connection
