-- The connection that a pair's data cells belong to, as it is found in a table's words. (Document 02, L13.)
use Rattle.std.specs.Prelude.{ℕ, ◌≡◌, List, Option}
use Rattle.connection_members.specs.Members.{owner}
use Rattle.model.specs.State.{State, free, find}
use Rattle.model.specs.Invariant.{WellFormed}
use Rattle.table.specs.Layout.{words}
use Rattle.table_names.specs.Finding.{FoundInRange, Names}

-- of any table an entry that it has; of the words of a state that of the channel or of the path
pub record FindsOwner (l : List ℕ) (x : ℕ) (r : Option ℕ) : Type 0 where
  pub inside : FoundInRange r
  pub is : (s : State) → WellFormed s → l ≡ words s → Names (owner x s.members) s.entries r

-- the same of a pair that is no open connection's
pub record FindsPath (l : List ℕ) (x : ℕ) (r : Option ℕ) : Type 0 where
  pub inside : FoundInRange r
  pub is : (s : State) → WellFormed s → l ≡ words s → find x s.entries ≡ free → Names (owner x s.members) s.entries r
