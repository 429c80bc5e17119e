-- A cell's header of five octets: what its first four carry, and the check over them.
-- (Document 01, "The cell, 53 octets"; document 02, L6.)
use Rattle.std.specs.Prelude.{ℕ, ◌+◌, ◌*◌, ◌/◌, ◌%◌, Bool, List, [], ◌∷◌, ◌++◌, eqb, take}
use Rattle.cell_crc.specs.Checks.{header_check}
use Rattle.cell.specs.Octets.{octet}

-- GFC, the four bits before the VPI, is not read
abbrev pub vpi_of : List ℕ → ℕ
vpi_of o = octet 1 o % 16 * 16 + octet 2 o / 16

abbrev pub vci_of : List ℕ → ℕ
vci_of o = octet 2 o % 16 * 4096 + octet 3 o * 16 + octet 4 o / 16

abbrev pub type_of : List ℕ → ℕ
type_of o = octet 4 o / 2 % 8

unfoldable pub header_right : List ℕ → Bool
header_right o = eqb (octet 5 o) (header_check (take 4 o))

-- octets 1 to 4 of an RM cell of this VPI and VCI: GFC 0, payload type 6, and the CLP
abbrev pub first_four : (clp vpi vci : ℕ) → List ℕ
first_four clp vpi vci = (vpi / 16 % 16) ∷ (vpi % 16 * 16 + vci / 4096 % 16) ∷ (vci / 16 % 256) ∷ (vci % 16 * 16 + 12 + clp) ∷ []

-- octets 1 to 5
unfoldable pub header : (clp vpi vci : ℕ) → List ℕ
header clp vpi vci = first_four clp vpi vci ++ (header_check (first_four clp vpi vci) ∷ [])
