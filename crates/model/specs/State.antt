-- The state of a table: the congestion level, the time of the last accepted open, slot, making or
-- out-of-rate cell, the entries, and the members of all paths. (Document 01, first paragraph and "The lists
-- of demand 3"; document 02, L13.)
use Rattle.std.specs.Prelude.{ℕ, suc, Bool, true, false, cond, List, [], ◌∷◌, ltb, eqb, length, get_or, set, replicate}
use Rattle.connection_members.specs.Members.{Member}
use Rattle.connection.specs.declared.parts.Connection.{Connection}
use Rattle.connection.specs.Parts.{waiting}

pub data Entry : Type 0 where
  free : Entry
  taken : Connection → Entry

pub record State : Type 0 where
  pub level : ℕ
  pub last : ℕ
  pub entries : List Entry
  pub members : List Member

-- how many connections can be open (document 02, L4)
abbrev pub capacity : ℕ
capacity = 1024

-- the table that every list starts from
unfoldable pub empty : State
empty = record { level = 0; last = 0; entries = replicate capacity free; members = [] }

-- the first entry at which the test passes; the number of entries if it passes at none
unfoldable pub position : (Entry → Bool) → List Entry → ℕ
position f [] = 0
position f (s ∷ ss) = cond (f s) 0 (suc (position f ss))

unfoldable pub is_free : Entry → Bool
is_free free = true
is_free (taken c) = false

unfoldable pub holds : ℕ → Entry → Bool
holds v free = false
holds v (taken c) = eqb c.name v

-- the entry of a name; a free one if the name is not open
unfoldable pub find : ℕ → List Entry → Entry
find v ss = get_or ss (position (holds v) ss) free

-- the leaf of a name in the tournament: the number of its entry
abbrev pub leaf_of : ℕ → State → ℕ
leaf_of v s = position (holds v) s.entries

-- the entry of a name is given this content
unfoldable pub with_entry_of : ℕ → Entry → State → State
with_entry_of v x s = record { level = s.level; last = s.last; entries = set s.entries (position (holds v) s.entries) x; members = s.members }

-- a connection takes the lowest free entry
unfoldable pub with_opened : Connection → State → State
with_opened c s = record { level = s.level; last = s.last; entries = set s.entries (position is_free s.entries) (taken c); members = s.members }

unfoldable pub room_left : State → Bool
room_left s = ltb (position is_free s.entries) (length s.entries)

-- the time of an accepted open, slot, making or out-of-rate cell
unfoldable pub with_time : ℕ → State → State
with_time t s = record { level = s.level; last = t; entries = s.entries; members = s.members }

unfoldable pub with_level : ℕ → State → State
with_level l s = record { level = l; last = s.last; entries = s.entries; members = s.members }

unfoldable pub with_members : List Member → State → State
with_members ms s = record { level = s.level; last = s.last; entries = s.entries; members = ms }

-- the data cells that wait in an entry
unfoldable pub entry_cells : Entry → ℕ
entry_cells free = 0
entry_cells (taken c) = waiting c.queue
