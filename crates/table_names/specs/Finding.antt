-- What a search in a table's words finds: the entry of a name, and the lowest free entry.
use Rattle.std.specs.Prelude.{◌≡◌, ℕ, ◌<◌, false, List, slice_index_or, Option, Some, None}
use Rattle.connection.specs.declared.parts.Connection.{Connection}
use Rattle.model.specs.State.{State, Entry, free, taken, position, is_free, holds, find, room_left, capacity}
use Rattle.model.specs.Invariant.{WellFormed}
use Rattle.table.specs.Layout.{words}

-- of any table: an entry that it has
abbrev pub FoundInRange : Option ℕ → Type 0
FoundInRange (Some i) = i < capacity
FoundInRange None = Unit

-- the connection of name v stands in entry i
pub record Located (ss : List Entry) (v i : ℕ) : Type 0 where
  pub holder : Connection
  pub here : slice_index_or ss i free ≡ taken holder
  pub named : holder.name ≡ v
  pub place : position (holds v) ss ≡ i

abbrev pub Names : ℕ → List Entry → Option ℕ → Type 0
Names v ss (Some i) = Located ss v i
Names v ss None = find v ss ≡ free

-- of the words of a state: the name's entry, or that it is not open
pub record FindsName (l : List ℕ) (v : ℕ) (r : Option ℕ) : Type 0 where
  pub inside : FoundInRange r
  pub is : (s : State) → WellFormed s → l ≡ words s → Names v s.entries r

abbrev pub Vacant : State → Option ℕ → Type 0
Vacant s (Some i) = position is_free s.entries ≡ i
Vacant s None = room_left s ≡ false

-- of the words of a state: the lowest free entry, or that there is none
pub record FindsFree (l : List ℕ) (r : Option ℕ) : Type 0 where
  pub inside : FoundInRange r
  pub is : (s : State) → WellFormed s → l ≡ words s → Vacant s r
