-- The number that names a connection. (Document 02, L6.)
use Rattle.std.specs.Prelude.{ℕ, ◌+◌, ◌*◌, ◌/◌, ◌%◌, Bool, cond, ◌&&◌, leb}

-- VPI × 65,536 + VCI
abbrev pub name_from : (vpi vci : ℕ) → ℕ
name_from vpi vci = vpi * 65536 + vci

-- the VPI and the VCI of a name
abbrev pub vpi_in : ℕ → ℕ
vpi_in name = name / 65536

abbrev pub vci_in : ℕ → ℕ
vci_in name = name % 65536

-- one more than the greatest name: no connection has it
abbrev pub no_name : ℕ
no_name = 16_777_216

-- a VPI has eight bits, a VCI sixteen
abbrev pub address_fits : (vpi vci : ℕ) → Bool
address_fits vpi vci = leb vpi 255 && leb vci 65535

-- the name that a caller's two numbers make: outside their ranges they make none, so that no pair folds onto another
unfoldable pub address_name : (vpi vci : ℕ) → ℕ
address_name vpi vci = cond (address_fits vpi vci) (name_from vpi vci) no_name
