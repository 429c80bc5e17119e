-- The work of a call is bounded: the comparisons that it makes in the tournament of ready instants, and returns.
-- The winner of the tournament is the connection that a scan of all entries picks. (Document 02, L4 and L13.)
use Rattle.std.specs.Prelude.{ℕ, ◌≤◌, ◌≡◌, Bool, true, false, not, List, eqb}
use Rattle.model.specs.State.{empty}
use Rattle.model.specs.Winner.{winner}
use Rattle.model.specs.Tournament.{levels, winner_at, in_time}
use Rattle.model.specs.Answers.{Answer, Refused, Accepted, Closed, Idle, Sent}
use Rattle.model.specs.Call.{Call, comparisons}
use Rattle.model.specs.Aspects.{Sort, opener, closer, arrival, slot_at, another, sort_of, Lent, for_slot, for_out_of_rate, not_lent, lent_of, Subject, by_name, in_cell, in_answer, no_subject, subject_of}
use Rattle.model.specs.Step.{step}
use Rattle.model.specs.Run.{final, is_accepted}
use Rattle.abr.specs.Exports.{Observation, Transcript, zeros}
use Rattle.promise_lists.specs.Demand3.{InPlace}

-- whether a call replays a leaf if it is accepted: that of the connection that it is about,
-- a slot if it sends a cell, and an out-of-rate cell none
abbrev pub replays_for : Lent → Subject → (sent : Bool) → Bool
replays_for (for_slot t) x sent = sent
replays_for (for_out_of_rate v) x sent = false
replays_for not_lent (by_name v) sent = true
replays_for not_lent (in_cell o) sent = true
replays_for not_lent in_answer sent = true
replays_for not_lent no_subject sent = false

abbrev pub replays : Call → (sent : Bool) → Bool
replays c sent = replays_for (lent_of c) (subject_of c) sent

abbrev pub is_opener : Sort → Bool
is_opener (opener v t p) = true
is_opener (closer v) = false
is_opener (arrival o) = false
is_opener (slot_at t) = false
is_opener another = false

abbrev pub opens_one : Call → Bool
opens_one c = is_opener (sort_of c)

-- the comparisons n of a call, which was accepted or not, and sent a cell or not
pub record Counted (c : Call) (accepted sent : Bool) (n : ℕ) : Type 0 where
  pub most : n ≤ levels
  pub cell : sent ≡ true → n ≡ levels
  pub least : accepted ≡ true → replays c sent ≡ true → 1 ≤ n
  -- a connection is not ready when it is opened: its leaf wins nothing, and no winner changes
  pub opens : accepted ≡ true → opens_one c ≡ true → n ≡ 1
  -- an idle slot, a level that is set, an out-of-rate cell and a new member make none, nor does a refused call
  pub no_replay : replays c sent ≡ false → n ≡ 0
  pub refused : accepted ≡ false → n ≡ 0

abbrev pub is_sent : Answer → Bool
is_sent (Refused n) = false
is_sent (Accepted n) = false
is_sent (Closed n k) = false
is_sent Idle = false
is_sent (Sent v x k a n) = true

abbrev pub CountedAnswer : Call → Answer → Type 0
CountedAnswer c a = Counted c (is_accepted a) (is_sent a) (comparisons a)

-- after any list of calls from the empty table
abbrev pub Comparisons : Type 0
Comparisons = (cs : List Call) (c : Call) → CountedAnswer c (step (final empty cs) c).answer

-- Of exported calls, as C sees them: refusal 0 of an accepted call, kind 0 of one that sent no cell.
abbrev pub CountedObserved : Call → Observation → Type 0
CountedObserved c o = Counted c (eqb o.returned.refusal 0) (not (eqb o.returned.kind 0)) o.returned.comparisons

abbrev pub ExportsComparisons : Type 0
ExportsComparisons = (cs : List Call) (os : List Observation) → Transcript cs zeros os → InPlace CountedObserved cs os

-- the winner of a slot at t, found by a scan of the entries, is the winner at the root of the
-- tournament if that is ready by t
abbrev pub ScanPicksWinner : Type 0
ScanPicksWinner = (cs : List Call) (t : ℕ) → winner t (final empty cs).entries ≡ in_time t (winner_at (final empty cs).entries levels 1)
