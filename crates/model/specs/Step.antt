-- What each call does to a table, with its refusals in their order. (Document 01, "Refused because
-- of the state"; document 02.)
use Rattle.std.specs.Prelude.{ℕ, ◌+◌, Bool, ◌&&◌, not, List, leb, ltb, eqb, length}
use Rattle.std.proofs.Math.Option.{Option, none, some}
use Rattle.rate_params.specs.declared.params.Params.{Params}
use Rattle.rate.specs.Units.{latest_time}
use Rattle.rate.specs.Code.{codes_clear}
use Rattle.rate_params.specs.Params.{params_fit, tbe_fits, frtt_fits}
use Rattle.cell.specs.Read.{Reading, Refused as Unread, DataCell, RmCell}
use Rattle.cell.specs.Name.{address_fits, address_name}
use Rattle.cell.specs.Fields.{cell_name}
use Rattle.cell.specs.Reading.{reading}
use Rattle.connection_members.specs.Path.{is_path, path_vci, first_vci, path_of}
use Rattle.connection_members.specs.Members.{member_capacity, is_member, cells_of, with_member, without_member, without_path, with_cells, owner}
use Rattle.connection_members.specs.Turn.{after_serving}
use Rattle.connection.specs.declared.parts.Connection.{Connection}
use Rattle.connection.specs.declared.kind.Kind.{Kind}
use Rattle.connection.specs.Parts.{fresh, waiting, with_queue, dequeued}
use Rattle.connection.specs.Source.{offered, with_served, after_out_of_rate, out_of_rate_cell}
use Rattle.connection.specs.Destination.{after_data_cell, with_made}
use Rattle.connection.specs.Received.{after_rm_cell}
use Rattle.connection.specs.Slot.{untouched, written, after, member_served, buffer_sent}
use Rattle.connection.specs.Interval.{rested}
use Rattle.connection.specs.Kind.{kind_at}
use Rattle.model.specs.State.{State, Entry, free, taken, position, is_free, find, leaf_of, with_entry_of, with_opened, room_left, with_time, with_level, with_members}
use Rattle.model.specs.Winner.{Winner, none_ready, wins, winner}
use Rattle.model.specs.Tournament.{replayed}
use Rattle.model.specs.Call.{Call, opening, closing, receiving, offering, levelling, slot, making, out_of_rate, opening_path, adding, offering_member, removing, Refused, Accepted, Closed, Idle, Sent, Outcome}
use Rattle.laws.specs.Require.{require}

-- a refusal leaves table and buffer
unfoldable pub refuse : State → ℕ → Outcome
refuse s n = record { state = s; answer = Refused n; buffer = untouched }

unfoldable pub accept : (comparisons : ℕ) → State → Outcome
accept n s = record { state = s; answer = Accepted n; buffer = untouched }

-- accepted, and the matches of the leaf that changed are replayed (document 02, L4)
unfoldable pub replay : (leaf : ℕ) (before after : State) → Outcome
replay x s r = accept (replayed x s.entries r.entries) r

-- the same of a call that discards this many waiting data cells (document 02, L12)
unfoldable pub discard : (cells leaf : ℕ) (before after : State) → Outcome
discard n x s r = record { state = r; answer = Closed (replayed x s.entries r.entries) n; buffer = untouched }

-- the rest on the open connection in an entry; 11 on a free one
unfoldable pub of_open : State → Entry → (Connection → Outcome) → Outcome
of_open s free f = refuse s 11
of_open s (taken c) f = f c

-- What every open refuses: 19, 7, 29, 30, 8, 12, 27, 13, 14. 7 judges the initial rate as given. 27 is a member's
-- pair, so a path's name never meets it. (Document 02, L13 and L14.)
unfoldable pub open_address : State → (vpi vci time : ℕ) → Params → Outcome
open_address s vpi vci t p =
    require (refuse s 19) (codes_clear p.pcr p.mcr p.icr)
    (require (refuse s 7) (address_fits vpi vci && params_fit p)
    (require (refuse s 29) (tbe_fits p)
    (require (refuse s 30) (frtt_fits p)
    (require (refuse s 8) (leb t latest_time)
    (require (refuse s 12) (is_free (find (address_name vpi vci) s.entries))
    (require (refuse s 27) (not (is_member (address_name vpi vci) s.members))
    (require (refuse s 13) (room_left s)
    (require (refuse s 14) (leb s.last t)
    (replay (position is_free s.entries) s (with_time t (with_opened (fresh (address_name vpi vci) t p) s)))))))))))

-- Opening a channel: 10 before all that, which looks at the VCI alone.
unfoldable pub open_step : State → (vpi vci time : ℕ) → Params → Outcome
open_step s vpi vci t p = require (refuse s 10) (leb first_vci vci) (open_address s vpi vci t p)

-- Opening the path of a VPI: without 10. (Document 02, L13.)
unfoldable pub open_path_step : State → (vpi time : ℕ) → Params → Outcome
open_path_step s vpi t p = open_address s vpi path_vci t p

-- Close: 11. All that waits on the connection is removed with it, and the answer counts the data cells. A
-- path's members are removed too.
unfoldable pub close_step : State → (name : ℕ) → Outcome
close_step s v =
    of_open s (find v s.entries) λ c. discard (waiting c.queue) (leaf_of v s) s (with_members (without_path v s.members) (with_entry_of v free s))

-- Offer: 11, 28 on a path's own name, 15.
unfoldable pub offer_step : State → (name cells : ℕ) → Outcome
offer_step s v n =
    of_open s (find v s.entries) λ c.
    require (refuse s 28) (not (is_path v))
    (require (refuse s 15) (leb (waiting c.queue + n) 65535)
    (replay (leaf_of v s) s (with_entry_of v (taken (offered n c)) s)))

-- The calls on the members of paths. (Document 02, L13.)
-- n more cells wait on the member x, and so on its path; and the member x goes with its cells
unfoldable pub with_offer : (x n : ℕ) → Connection → State → State
with_offer x n c s = with_members (with_cells x (cells_of x s.members + n) s.members) (with_entry_of (path_of x) (taken (offered n c)) s)

unfoldable pub without_one : (x : ℕ) → Connection → State → State
without_one x c s =
    with_members (without_member x s.members) (with_entry_of (path_of x) (taken (with_queue c (dequeued (cells_of x s.members) c.queue))) s)

-- Adding: 10, which looks at the VCI alone, 11, 12, 27, 26. It replays no match.
unfoldable pub add_step : State → (vpi vci : ℕ) → Outcome
add_step s vpi vci =
    require (refuse s 10) (leb first_vci vci)
    (of_open s (find (path_of (address_name vpi vci)) s.entries) λ c.
    require (refuse s 12) (is_free (find (address_name vpi vci) s.entries))
    (require (refuse s 27) (not (is_member (address_name vpi vci) s.members))
    (require (refuse s 26) (ltb (length s.members) member_capacity)
    (accept 0 (with_members (with_member (address_name vpi vci) s.members) s)))))

-- the rest on a member's path: 11 if the VPI has no open path, 28 if the pair is no member; with
-- a VCI over 65,535 it is none
unfoldable pub of_member : State → (vpi vci : ℕ) → (Connection → Outcome) → Outcome
of_member s vpi vci f =
    of_open s (find (address_name vpi path_vci) s.entries) λ c. require (refuse s 28) (address_fits vpi vci && is_member (address_name vpi vci) s.members) (f c)

-- A member's offer: 11, 28, 15, which looks at that member alone.
unfoldable pub offer_member_step : State → (vpi vci cells : ℕ) → Outcome
offer_member_step s vpi vci n =
    let x = address_name vpi vci in
    of_member s vpi vci λ c.
    require (refuse s 15) (leb (cells_of x s.members + n) 65535)
    (replay (leaf_of (path_of x) s) s (with_offer x n c s))

-- Removing: 11, 28. It answers like a close.
unfoldable pub remove_step : State → (vpi vci : ℕ) → Outcome
remove_step s vpi vci =
    let x = address_name vpi vci in
    of_member s vpi vci λ c. discard (cells_of x s.members) (leaf_of (path_of x) s) s (without_one x c s)

-- a data cell: its EFCI belongs to its channel, or to the path that it is a member of; 11 on a
-- path's own name (document 02, L13)
unfoldable pub data_cell_step : State → (name : ℕ) → (efci : Bool) → Outcome
data_cell_step s x e =
    require (refuse s 11) (not (is_path x))
    (of_open s (find (owner x s.members) s.entries) λ c.
    replay (leaf_of (owner x s.members) s) s (with_entry_of (owner x s.members) (taken (after_data_cell e c)) s))

-- Receive: the refusals of reading, then 11.
unfoldable pub read_step : State → List ℕ → Reading → Outcome
read_step s o (Unread n) = refuse s n
read_step s o (DataCell vpi vci e) = data_cell_step s (address_name vpi vci) e
read_step s o (RmCell f) =
    of_open s (find (cell_name f) s.entries) λ c. replay (leaf_of (cell_name f) s) s (with_entry_of (cell_name f) (taken (after_rm_cell s.level o f c)) s)

unfoldable pub receive_step : State → List ℕ → Outcome
receive_step s o = read_step s o (reading o)

-- Setting the level: 9.
unfoldable pub level_step : State → (level : ℕ) → Outcome
level_step s l = require (refuse s 9) (leb l 2) (accept 0 (with_level l s))

-- the name that a slot answers: the member's, if its cell is taken from one (document 02, L13)
unfoldable pub name_answered : (connection : ℕ) → Option ℕ → ℕ
name_answered v none = v
name_answered v (some x) = x

-- a slot's cell of this kind, from the connection c of the name v and, of a path's data, from this member
unfoldable pub send_from : State → (t v : ℕ) → Connection → Kind → (member : Option ℕ) → Outcome
send_from s t v c k x =
    let r = with_entry_of v (taken (with_served x (after k t c))) s in
    record {
      state = with_members (after_serving x s.members) r;
      answer = Sent v (name_answered v x) k (after k t c).rate.acr (replayed (leaf_of v s) s.entries r.entries);
      buffer = buffer_sent k c (after k t c);
    }

unfoldable pub send_step : State → (t v : ℕ) → Connection → Kind → Outcome
send_step s t v c k = send_from s t v c k (member_served k c s.members)

-- an out-of-rate cell at t, from the connection c of the name v
unfoldable pub send_out_of_rate : State → (t v : ℕ) → Connection → Outcome
send_out_of_rate s t v c = record { state = with_entry_of v (taken (after_out_of_rate t c)) s; answer = Accepted 0; buffer = written (out_of_rate_cell c) }

unfoldable pub idle_step : State → Outcome
idle_step s = record { state = s; answer = Idle; buffer = untouched }

unfoldable pub serve_entry : State → (t v : ℕ) → Entry → Outcome
serve_entry s t v free = idle_step s
serve_entry s t v (taken c) = send_step s t v c (kind_at t c)

unfoldable pub serve : State → ℕ → Winner → Outcome
serve s t none_ready = idle_step s
serve s t (wins i v) = serve_entry s t v (find v s.entries)

-- Slot: 1, 8, 14. The time of an idle slot counts too.
unfoldable pub slot_step : State → (time room : ℕ) → Outcome
slot_step s t room =
    require (refuse s 1) (eqb room 53)
    (require (refuse s 8) (leb t latest_time)
    (require (refuse s 14) (leb s.last t)
    (serve (with_time t s) t (winner t s.entries))))

-- Making a backward cell: 8, 11, 14, 16, 17. Its time counts as a slot's does. (Document 02, L1.)
unfoldable pub make_step : State → (name time : ℕ) → Outcome
make_step s v t =
    require (refuse s 8) (leb t latest_time)
    (of_open s (find v s.entries) λ c.
    require (refuse s 14) (leb s.last t)
    (require (refuse s 16) (ltb 0 s.level)
    (require (refuse s 17) (rested t c.destination.made.last)
    (replay (leaf_of v s) s (with_entry_of v (taken (with_made t s.level c)) (with_time t s))))))

-- An out-of-rate forward cell: 1, 8, 11, 14, 18. Its time counts like a slot's, and it replays
-- no match. (Document 02, L5.)
unfoldable pub out_of_rate_step : State → (name time room : ℕ) → Outcome
out_of_rate_step s v t room =
    require (refuse s 1) (eqb room 53)
    (require (refuse s 8) (leb t latest_time)
    (of_open s (find v s.entries) λ c.
    require (refuse s 14) (leb s.last t)
    (require (refuse s 18) (rested t c.out_of_rate)
    (send_out_of_rate (with_time t s) t v c))))

-- a pair outside the ranges makes no connection's name, so it meets 11 (document 02, L6); a member's offer and
-- removal look for the path by its VPI
unfoldable pub step : State → Call → Outcome
step s (opening vpi vci t p) = open_step s vpi vci t p
step s (closing vpi vci) = close_step s (address_name vpi vci)
step s (receiving o) = receive_step s o
step s (offering vpi vci n) = offer_step s (address_name vpi vci) n
step s (levelling l) = level_step s l
step s (slot t room) = slot_step s t room
step s (making vpi vci t) = make_step s (address_name vpi vci) t
step s (out_of_rate vpi vci t room) = out_of_rate_step s (address_name vpi vci) t room
step s (opening_path vpi t p) = open_path_step s vpi t p
step s (adding vpi vci) = add_step s vpi vci
step s (offering_member vpi vci n) = offer_member_step s vpi vci n
step s (removing vpi vci) = remove_step s vpi vci
