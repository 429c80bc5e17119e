-- What holds of every table that the calls make from an empty one. (Document 01, "What the library
-- commits to", 1; document 02, L13.)
use Rattle.std.specs.Prelude.{ℕ, ◌≤◌, ◌≡◌, ◌≢◌, true, false, List, [], ◌∷◌, length}
use Rattle.rate.specs.Units.{latest_time}
use Rattle.connection_members.specs.Path.{is_path, path_of}
use Rattle.connection_members.specs.Members.{Member, is_member, path_cells}
use Rattle.connection_members.specs.Invariant.{ValidMembers}
use Rattle.connection.specs.declared.parts.Connection.{Connection}
use Rattle.connection.specs.Invariant.{ValidAt}
use Rattle.model.specs.State.{State, Entry, free, taken, capacity, is_free, find, entry_cells}

abbrev pub OnEntry : (Connection → Type 0) → Entry → Type 0
OnEntry P free = Unit
OnEntry P (taken c) = P c

abbrev pub Each : (Connection → Type 0) → List Entry → Type 0
Each P [] = Unit
Each P (s ∷ ss) = OnEntry P s × Each P ss

-- no entry holds the name
abbrev pub Absent : ℕ → List Entry → Type 0
Absent v ss = Each (λ c. c.name ≢ v) ss

-- no two entries hold one name
abbrev pub NamesUnique : List Entry → Type 0
NamesUnique [] = Unit
NamesUnique (s ∷ ss) = OnEntry (λ c. Absent c.name ss) s × NamesUnique ss

pub record MembersOf (ss : List Entry) (ms : List Member) : Type 0 where
  pub valid : ValidMembers ms
  -- a member's path is open
  pub on_open_path : (x : ℕ) → is_member x ms ≡ true → is_free (find (path_of x) ss) ≡ false
  -- a pair is a channel or a member, never both
  pub no_channel : (x : ℕ) → is_member x ms ≡ true → is_free (find x ss) ≡ true
  -- on a path waits what waits on its members: on one that is not open nothing
  pub sum : (v : ℕ) → is_path v ≡ true → entry_cells (find v ss) ≡ path_cells v ms

pub record WellFormed (s : State) : Type 0 where
  pub levels : s.level ≤ 2
  pub timely : s.last ≤ latest_time
  pub size : length s.entries ≡ capacity
  pub each : Each (ValidAt s.last) s.entries
  pub unique : NamesUnique s.entries
  pub members : MembersOf s.entries s.members
