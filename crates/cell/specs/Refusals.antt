-- For the code's own functions: the refusal that a cell's header meets, and the one that the rest of
-- an RM cell meets. 0 means none.
use Rattle.std.specs.Prelude.{ℕ, cond, ◌||◌, List, leb, eqb, length}
use Rattle.cell.specs.Octets.{octet}
use Rattle.cell.specs.Header.{type_of, header_right}
use Rattle.cell.specs.Fields.{rates_clear, crc_right}

unfoldable pub header_refusal : List ℕ → ℕ
header_refusal o = cond (eqb (length o) 53) (cond (header_right o) (cond (leb (type_of o) 3 || eqb (type_of o) 6) 0 4) 2) 1

unfoldable pub rest_refusal : List ℕ → ℕ
rest_refusal o = cond (crc_right o) (cond (eqb (octet 6 o) 1) (cond (rates_clear o) 0 19) 6) 5
