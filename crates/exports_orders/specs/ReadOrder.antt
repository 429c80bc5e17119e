-- The refusals of reading a cell in their order, by its octets: 1, 2 and 4 for every cell, then 5, 6
-- and 19 for an RM cell. (Document 01, "The cell, 53 octets", "Refused because of the input" and the
-- orders; document 02, L6 and L7.)
use Rattle.std.specs.Prelude.{ℕ, ◌≤◌, ◌%◌, ◌≡◌, true, cond, List, eqb, length, take}
use Rattle.std.proofs.Math.Option.{Option, none, some}
use Rattle.cell_crc.specs.Checks.{header_check, payload_check}
use Rattle.cell.specs.Octets.{octet, pair, payload}
use Rattle.cell.specs.Header.{type_of}
use Rattle.cell.specs.Fields.{rates_clear}
use Rattle.model.specs.Orders.{Asks}
use Rattle.abr_answers.specs.declared.cells.AbrCell.{AbrCell}

-- a payload type above 3, which is user data, is 6
abbrev pub ReadOrder : List ℕ → (Option ℕ → Type 0) → Option ℕ → Type 0
ReadOrder o Rest =
    Asks 1 (length o ≡ 53)
    (Asks 2 (octet 5 o ≡ header_check (take 4 o))
    (Asks 4 (4 ≤ type_of o → type_of o ≡ 6)
    (Asks 5 (type_of o ≡ 6 → pair 52 o % 1024 ≡ payload_check (payload o))
    (Asks 6 (type_of o ≡ 6 → octet 6 o ≡ 1)
    (Asks 19 (type_of o ≡ 6 → rates_clear o ≡ true)
    Rest)))))

-- 0 is no refusal
abbrev pub read_returned : AbrCell → Option ℕ
read_returned r = cond (eqb r.refusal 0) none (some r.refusal)
