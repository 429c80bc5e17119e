-- Whose turn it is among the members of a path. (Document 02, L13.)
use Rattle.std.specs.Prelude.{ℕ, ◌+◌, ◌-◌, cond, ◌&&◌, List, [], ◌∷◌, leb, ltb}
use Rattle.std.proofs.Math.Option.{Option, none, some}
use Rattle.cell.specs.Name.{name_from, vpi_in, vci_in}
use Rattle.connection_members.specs.Members.{Member, on_path, cells_of, with_cells}

-- the first member of the path v with data, from the name low on
unfoldable pub first_from : (path low : ℕ) → List Member → Option ℕ
first_from v low [] = none
first_from v low (m ∷ ms) = cond (on_path v m.name && (leb low m.name && ltb 0 m.cells)) (some m.name) (first_from v low ms)

unfoldable pub or_else : Option ℕ → Option ℕ → Option ℕ
or_else none y = y
or_else (some x) y = some x

-- The first with data after the last one served, in rising VCI, round to the lowest. `last` is the VCI served last.
-- It is 0 before any, since members begin at 32. For a name that is no path's there is none.
unfoldable pub turn : (path last : ℕ) → List Member → Option ℕ
turn v q ms = or_else (first_from v (name_from (vpi_in v) q + 1) ms) (first_from v 0 ms)

-- what a data cell of this member, or of none, leaves: one cell less, and the VCI served last
unfoldable pub after_serving : Option ℕ → List Member → List Member
after_serving none ms = ms
after_serving (some x) ms = with_cells x (cells_of x ms - 1) ms

unfoldable pub last_after : Option ℕ → (last : ℕ) → ℕ
last_after none q = q
last_after (some x) q = vci_in x
