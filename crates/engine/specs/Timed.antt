-- A call that names a connection and a time: what it refuses before it looks at the connection. (Document 02, L1
-- and L5.)
use Rattle.std.specs.Prelude.{ℕ, ◌≤◌, ◌<◌, ◌≡◌, List, leb, Result, Ok, Err}
use Rattle.laws.specs.declared.refusals.Refusal.{Refusal}
use Rattle.laws.specs.Refusals.{number}
use Rattle.laws.specs.Require.{require}
use Rattle.rate.specs.Units.{latest_time}
use Rattle.connection.specs.declared.parts.Connection.{Connection}
use Rattle.model.specs.State.{State, find, capacity}
use Rattle.model.specs.Invariant.{WellFormed}
use Rattle.model.specs.Call.{Outcome}
use Rattle.model.specs.Step.{refuse, of_open}
use Rattle.table.specs.Layout.{words}
use Rattle.table_names.specs.Finding.{Located}

-- the rest on the open connection of a name at a time: 8, 11, 14
abbrev pub of_timed : State → (name time : ℕ) → (Connection → Outcome) → Outcome
of_timed s v t f =
    require (refuse s 8) (leb t latest_time)
    (of_open s (find v s.entries) λ c.
    require (refuse s 14) (leb s.last t)
    (f c))

-- the connection stands in entry i, and the rest is what is made of it
pub record TimedAt (s : State) (v t i : ℕ) : Type 0 where
  pub located : Located s.entries v i
  pub passes : (f : Connection → Outcome) → of_timed s v t f ≡ f located.holder

-- what an entry that was found says
pub record TimedEntry (l : List ℕ) (v t i : ℕ) : Type 0 where
  -- of any table
  pub inside : i < capacity
  pub timely : t ≤ latest_time
  -- of the words of a state
  pub found : (s : State) → WellFormed s → l ≡ words s → TimedAt s v t i

-- an entry, or the refusal
abbrev pub FindsTimed : (l : List ℕ) (v t : ℕ) → Result ℕ Refusal → Type 0
FindsTimed l v t (Ok i) = TimedEntry l v t i
FindsTimed l v t (Err r) = (s : State) → WellFormed s → l ≡ words s → (f : Connection → Outcome) → of_timed s v t f ≡ refuse s (number r)
