-- The names of paths. (Document 02, L13.)
use Rattle.std.specs.Prelude.{ℕ, Bool, eqb}
use Rattle.cell.specs.Name.{name_from, vpi_in, vci_in}

abbrev pub path_vci : ℕ
path_vci = 6

-- the lowest VCI of a channel or a member
abbrev pub first_vci : ℕ
first_vci = 32

abbrev pub path_name : (vpi : ℕ) → ℕ
path_name vpi = name_from vpi path_vci

unfoldable pub is_path : (name : ℕ) → Bool
is_path v = eqb (vci_in v) path_vci

-- the path that has the VPI of a name
abbrev pub path_of : (name : ℕ) → ℕ
path_of x = path_name (vpi_in x)
