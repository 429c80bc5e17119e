-- What reading a cell gives. (Document 01, "The cell, 53 octets" and "Refused because of the input".)
-- The orders are those of "Refused because of the state", without 3, which
-- document 02, L6 withdrew, and with 19 of L7.
use Rattle.std.specs.Prelude.{ℕ, ◌/◌, ◌%◌, cond, List, leb, eqb, length}
use Rattle.cell.specs.Octets.{octet}
use Rattle.cell.specs.Header.{vpi_of, vci_of, type_of, header_right}
use Rattle.cell.specs.Fields.{fields_of, rates_clear, crc_right}
use Rattle.laws.specs.Require.{require}
pub use Rattle.cell.specs.Read.{Reading, Refused, DataCell, RmCell}

-- Size, header check and payload type are judged first. The CRC-10, the protocol and the rate codes are judged for
-- RM cells (type 6) only. A data cell (types 0 to 3) has its EFCI in the middle bit of its type.
unfoldable pub reading : List ℕ → Reading
reading o =
    require (Refused 1) (eqb (length o) 53)
    (require (Refused 2) (header_right o)
    (cond (leb (type_of o) 3)
    (DataCell (vpi_of o) (vci_of o) (eqb (type_of o / 2 % 2) 1))
    (require (Refused 4) (eqb (type_of o) 6)
    (require (Refused 5) (crc_right o)
    (require (Refused 6) (eqb (octet 6 o) 1)
    (require (Refused 19) (rates_clear o)
    (RmCell (fields_of o))))))))
