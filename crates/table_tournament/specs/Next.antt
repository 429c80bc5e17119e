-- What the readings of the next ready instant and of a slot's time say of a table's words.
use Rattle.std.specs.Prelude.{ℕ, ◌≡◌, List}
use Rattle.model.specs.State.{State}
use Rattle.model.specs.Invariant.{WellFormed}
use Rattle.model.specs.Queries.{next_ready, slot_time}
use Rattle.table.specs.Layout.{words}

-- of the words of a state: the earliest ready instant of all its connections, or the word for never
pub record GivesNext (l : List ℕ) (r : ℕ) : Type 0 where
  pub is : (s : State) → WellFormed s → l ≡ words s → r ≡ next_ready s

-- the time to pass to a slot whose own time is now, at most lag behind it
pub record GivesSlotTime (l : List ℕ) (now lag r : ℕ) : Type 0 where
  pub is : (s : State) → WellFormed s → l ≡ words s → r ≡ slot_time s now lag
