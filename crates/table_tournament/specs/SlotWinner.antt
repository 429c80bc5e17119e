-- What the choice for a slot says of a table's words. (Document 01, "Slots".)
use Rattle.std.specs.Prelude.{ℕ, ◌+◌, ◌≤◌, ◌<◌, ◌≡◌, List, get_or, Option, Some, None}
use Rattle.connection.specs.declared.parts.Connection.{Connection}
use Rattle.connection.specs.Ready.{ready_instant}
use Rattle.model.specs.State.{State, Entry, free, taken, position, holds, capacity}
use Rattle.model.specs.Invariant.{WellFormed}
use Rattle.table.specs.Layout.{words}
use Rattle.model.specs.Winner.{none_ready, wins, winner}
use Rattle.model.specs.Tournament.{levels, winner_at, winner_word}

-- of any table: an entry that it has
abbrev pub SlotWinnerInRange : Option ℕ → Type 0
SlotWinnerInRange (Some i) = i < capacity
SlotWinnerInRange None = Unit

-- entry i is that of the winner, whose connection is ready not after t
pub record Won (t : ℕ) (ss : List Entry) (i : ℕ) : Type 0 where
  pub instant : ℕ
  pub holder : Connection
  pub here : get_or ss i free ≡ taken holder
  pub place : position (holds holder.name) ss ≡ i
  pub ready_at : ready_instant holder ≡ Some instant
  pub due : instant ≤ t
  pub won : winner t ss ≡ wins instant holder.name
  pub leads : winner_word (winner_at ss levels 1) ≡ i + 1

abbrev pub Picks : ℕ → List Entry → Option ℕ → Type 0
Picks t ss (Some i) = Won t ss i
Picks t ss None = winner t ss ≡ none_ready

-- of the words of a state: the winner's entry, or that none is ready
pub record FindsSlotWinner (l : List ℕ) (t : ℕ) (r : Option ℕ) : Type 0 where
  pub is : (s : State) → WellFormed s → l ≡ words s → Picks t s.entries r
