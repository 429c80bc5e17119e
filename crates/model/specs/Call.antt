-- The calls of a list, and their outcomes. (Document 01, "The lists of demand 3"; document 02.)
use Rattle.std.specs.Prelude.{ℕ, List}
use Rattle.std.proofs.Math.Option.{Option, none, some}
use Rattle.rate_params.specs.declared.params.Params.{Params}
use Rattle.connection.specs.declared.kind.Kind.{Kind}
use Rattle.connection.specs.Slot.{Buffer}
use Rattle.model.specs.State.{State}
pub use Rattle.model.specs.Answers.{Answer, Refused, Accepted, Closed, Idle, Sent}

-- Nothing bounds the arguments. What a lent buffer holds before a slot or an out-of-rate cell is no
-- argument, so room is its length.
pub data Call : Type 0 where
  opening : (vpi vci time : ℕ) → Params → Call
  closing : (vpi vci : ℕ) → Call
  receiving : (octets : List ℕ) → Call
  offering : (vpi vci cells : ℕ) → Call
  levelling : (level : ℕ) → Call
  slot : (time room : ℕ) → Call
  making : (vpi vci time : ℕ) → Call
  out_of_rate : (vpi vci time room : ℕ) → Call
  opening_path : (vpi time : ℕ) → Params → Call
  adding : (vpi vci : ℕ) → Call
  offering_member : (vpi vci cells : ℕ) → Call
  removing : (vpi vci : ℕ) → Call

-- the table that a call leaves, its answer, and what it writes
pub record Outcome : Type 0 where
  pub state : State
  pub answer : Answer
  pub buffer : Buffer

-- the documents' number of a refusal; an accepted call has none
unfoldable pub refusal : Answer → Option ℕ
refusal (Refused n) = some n
refusal (Accepted n) = none
refusal (Closed n k) = none
refusal Idle = none
refusal (Sent v x k a n) = none

-- the connection that a slot goes to (for a member's data cell its path) and the kind of cell that it sends;
-- none for an idle or refused slot
unfoldable pub goes_to : Answer → Option ℕ
goes_to (Refused n) = none
goes_to (Accepted n) = none
goes_to (Closed n k) = none
goes_to Idle = none
goes_to (Sent v x k a n) = some v

unfoldable pub kind_sent : Answer → Option Kind
kind_sent (Refused n) = none
kind_sent (Accepted n) = none
kind_sent (Closed n k) = none
kind_sent Idle = none
kind_sent (Sent v x k a n) = some k

-- the comparisons that a call made in the tournament: none of a refused or idle one (document 02, L4)
unfoldable pub comparisons : Answer → ℕ
comparisons (Refused n) = 0
comparisons (Accepted n) = n
comparisons (Closed n k) = n
comparisons Idle = 0
comparisons (Sent v x k a n) = n

-- the data cells that waited on what a call closed or removed: none of another call (document 02, L12)
unfoldable pub closed_cells : Answer → ℕ
closed_cells (Refused n) = 0
closed_cells (Accepted n) = 0
closed_cells (Closed n k) = k
closed_cells Idle = 0
closed_cells (Sent v x k a n) = 0
