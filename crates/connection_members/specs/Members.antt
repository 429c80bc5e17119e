-- The members of all paths of a table, in one list that rises by name: who is one, what waits, and what adding,
-- removing and filling make of it. Each definition is over a test of names, so that it serves one member and a
-- path's members. (Document 02, L13.)
use Rattle.std.specs.Prelude.{ℕ, ◌+◌, Bool, false, cond, ◌||◌, List, [], ◌∷◌, ltb, eqb}
use Rattle.connection_members.specs.Path.{path_of}

pub record Member : Type 0 where
  pub name : ℕ  -- VPI × 65,536 + VCI
  pub cells : ℕ  -- its data that waits

-- how many a table has at most
abbrev pub member_capacity : ℕ
member_capacity = 256

-- tests of a name: that it is this one; that its path is this one
abbrev pub named : (x : ℕ) → (name : ℕ) → Bool
named x y = eqb y x

abbrev pub on_path : (path : ℕ) → (name : ℕ) → Bool
on_path v y = eqb (path_of y) v

-- a member's name passes the test
unfoldable pub any_where : (ℕ → Bool) → List Member → Bool
any_where f [] = false
any_where f (m ∷ ms) = f m.name || any_where f ms

-- what waits on the members whose names pass it
unfoldable pub cells_where : (ℕ → Bool) → List Member → ℕ
cells_where f [] = 0
cells_where f (m ∷ ms) = cond (f m.name) m.cells 0 + cells_where f ms

-- without those whose names pass it
unfoldable pub without : (ℕ → Bool) → List Member → List Member
without f [] = []
without f (m ∷ ms) = cond (f m.name) (without f ms) (m ∷ without f ms)

abbrev pub is_member : (x : ℕ) → List Member → Bool
is_member x ms = any_where (named x) ms

-- what waits on the member x, 0 if it is none; what waits on all members of the path v
abbrev pub cells_of : (x : ℕ) → List Member → ℕ
cells_of x ms = cells_where (named x) ms

abbrev pub path_cells : (path : ℕ) → List Member → ℕ
path_cells v ms = cells_where (on_path v) ms

-- a new member, on which nothing waits, in its place
abbrev pub new_member : (x : ℕ) → Member
new_member x = record { name = x; cells = 0 }

unfoldable pub with_member : (x : ℕ) → List Member → List Member
with_member x [] = new_member x ∷ []
with_member x (m ∷ ms) = cond (ltb x m.name) (new_member x ∷ m ∷ ms) (m ∷ with_member x ms)

-- without the member x; without all members of the path v
abbrev pub without_member : (x : ℕ) → List Member → List Member
without_member x ms = without (named x) ms

abbrev pub without_path : (path : ℕ) → List Member → List Member
without_path v ms = without (on_path v) ms

-- n cells wait on the member x, and on the others what did
unfoldable pub with_cells : (x n : ℕ) → List Member → List Member
with_cells x n [] = []
with_cells x n (m ∷ ms) = record { name = m.name; cells = cond (named x m.name) n m.cells } ∷ with_cells x n ms

-- the connection that a pair's data cells belong to: its path, if it is a member
unfoldable pub owner : (x : ℕ) → List Member → ℕ
owner x ms = cond (is_member x ms) (path_of x) x
