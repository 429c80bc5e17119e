-- Reading refuses in this order.
use Prim.Native.Nat.{ℕ, ◌≤◌, ◌<◌, ◌/◌, ◌%◌}
use mathlib.Core.Path.{◌≡◌, refl, sym, ap, subst, ◌∙◌}
use mathlib.Core.Bool.{Bool, true, false, cond, true≢false}
use mathlib.Core.List.{List}
use mathlib.Core.Option.{Option, none, some}
use native.Mathlib.Omega.{arith}
use lib.Dec.{leb, eqb, lit<}
use lib.ListN.{length, take}
use borrow.Author.Tests.{leb-true, leb-false, eqb-true, eqb-false, ne_eqb}
use Rattle.cell_crc.specs.Checks.{header_check, payload_check}
use Rattle.cell.specs.Octets.{octet, pair, payload}
use Rattle.cell.specs.Header.{vpi_of, vci_of, type_of, header_right}
use Rattle.cell.specs.Fields.{fields_of, rates_clear, crc_right}
use Rattle.cell.specs.Reading.{reading}
use Rattle.cell.specs.Read.{Reading, Refused, DataCell, RmCell}
use Rattle.laws.specs.Require.{require}
use Rattle.model.specs.Orders.{Asks, refused, passed, Accepts, accepted}
use Rattle.abr_answers.specs.declared.cells.AbrCell.{AbrCell}
use Rattle.abr_answers.specs.Cells.{cell_of}
use Rattle.exports_orders.specs.ReadOrder.{ReadOrder, read_returned}

module _ (o : List ℕ) (After : Reading → Option ℕ → Type 0) (Rest : Option ℕ → Type 0) (r : Option ℕ) (unread : (n : ℕ) → 0 < n → After (Refused n) r → r ≡ some n)
    (data_cell : type_of o ≤ 3 → (e : Bool) → After (DataCell (vpi_of o) (vci_of o) e) r → Rest r) (rm : type_of o ≡ 6 → After (RmCell (fields_of o)) r → Rest r) where
  -- one refusal
  refuses : (n : ℕ) → 0 < n → {P : Type 0} {S : Option ℕ → Type 0} → (P → ⊥) → After (Refused n) r → Asks n P S r
  refuses n l {P} {S} x h = subst (Asks n P S) (sym (unread n l h)) (refused x)

  -- of an RM cell
  rates : (b : Bool) → rates_clear o ≡ b → type_of o ≡ 6 → After (require (Refused 19) b (RmCell (fields_of o))) r → Asks 19 (type_of o ≡ 6 → rates_clear o ≡ true) Rest r
  unfolding require
  rates true e t h = passed (λ _. e) (rm t h)
  rates false e t h = refuses 19 (lit< tt) (λ q. true≢false (sym (q t) ∙ e)) h

  protocol :
      (b : Bool) → eqb (octet 6 o) 1 ≡ b → type_of o ≡ 6 → After (require (Refused 6) b (require (Refused 19) (rates_clear o) (RmCell (fields_of o)))) r
      → Asks 6 (type_of o ≡ 6 → octet 6 o ≡ 1) (Asks 19 (type_of o ≡ 6 → rates_clear o ≡ true) Rest) r
  unfolding require
  protocol true e t h = passed (λ _. eqb-true _ _ e) (rates (rates_clear o) refl t h)
  protocol false e t h = refuses 6 (lit< tt) (λ q. eqb-false _ _ e (q t)) h

  crc :
      (b : Bool) → crc_right o ≡ b → type_of o ≡ 6
      → After (require (Refused 5) b (require (Refused 6) (eqb (octet 6 o) 1) (require (Refused 19) (rates_clear o) (RmCell (fields_of o))))) r
      → Asks 5 (type_of o ≡ 6 → pair 52 o % 1024 ≡ payload_check (payload o)) (Asks 6 (type_of o ≡ 6 → octet 6 o ≡ 1) (Asks 19 (type_of o ≡ 6 → rates_clear o ≡ true) Rest)) r
  unfolding require crc_right
  crc true e t h = passed (λ _. eqb-true _ _ e) (protocol (eqb (octet 6 o) 1) refl t h)
  crc false e t h = refuses 5 (lit< tt) (λ q. eqb-false _ _ e (q t)) h

  -- what is asked of a cell whose header is right
  abbrev TypeOrder : Option ℕ → Type 0
  TypeOrder =
      Asks 4 (4 ≤ type_of o → type_of o ≡ 6)
      (Asks 5 (type_of o ≡ 6 → pair 52 o % 1024 ≡ payload_check (payload o))
      (Asks 6 (type_of o ≡ 6 → octet 6 o ≡ 1)
      (Asks 19 (type_of o ≡ 6 → rates_clear o ≡ true)
      Rest)))

  -- 5, 6 and 19 ask nothing of a data cell
  data-cell : type_of o ≤ 3 → Rest r → TypeOrder r
  data-cell l h = passed (λ k. absurd (omega (arith, l, k))) (passed (λ k. absurd (omega (arith, l, k))) (passed (λ k. absurd (omega (arith, l, k))) (passed (λ k. absurd (omega (arith, l, k))) h)))

  abbrev of_type : (b : Bool) → Reading
  of_type b = require (Refused 4) b (require (Refused 5) (crc_right o) (require (Refused 6) (eqb (octet 6 o) 1) (require (Refused 19) (rates_clear o) (RmCell (fields_of o)))))

  others : (b : Bool) → eqb (type_of o) 6 ≡ b → 3 < type_of o → After (of_type b) r → TypeOrder r
  unfolding require
  others true e l h = let t : type_of o ≡ 6 = eqb-true _ _ e in passed (λ _. t) (crc (crc_right o) refl t h)
  others false e l h = refuses 4 (lit< tt) (λ q. eqb-false _ _ e (q l)) h

  abbrev of_header : (b : Bool) → Reading
  of_header b = cond b (DataCell (vpi_of o) (vci_of o) (eqb (type_of o / 2 % 2) 1)) (of_type (eqb (type_of o) 6))

  types : (b : Bool) → leb (type_of o) 3 ≡ b → After (of_header b) r → TypeOrder r
  types true e h = let l : type_of o ≤ 3 = leb-true _ _ e in data-cell l (data_cell l (eqb (type_of o / 2 % 2) 1) h)
  types false e h = others (eqb (type_of o) 6) refl (leb-false _ _ e) h

  header : (b : Bool) → header_right o ≡ b → After (require (Refused 2) b (of_header (leb (type_of o) 3))) r → Asks 2 (octet 5 o ≡ header_check (take 4 o)) TypeOrder r
  unfolding require header_right
  header true e h = passed (eqb-true _ _ e) (types (leb (type_of o) 3) refl h)
  header false e h = refuses 2 (lit< tt) (eqb-false _ _ e) h

  size : (b : Bool) → eqb (length o) 53 ≡ b → After (require (Refused 1) b (require (Refused 2) (header_right o) (of_header (leb (type_of o) 3)))) r → ReadOrder o Rest r
  unfolding require
  size true e h = passed (eqb-true _ _ e) (header (header_right o) refl h)
  size false e h = refuses 1 (lit< tt) (eqb-false _ _ e) h

  pub read-order : After (reading o) r → ReadOrder o Rest r
  unfolding reading
  read-order h = size (eqb (length o) 53) refl h

-- abr_read
pub reads-in-order : (o : List ℕ) (r : AbrCell) → r ≡ cell_of (reading o) → ReadOrder o Accepts (read_returned r)
reads-in-order o r e =
    read-order o (λ x q. q ≡ read_returned (cell_of x)) Accepts (read_returned r) (λ n l h. h ∙ some_number n l) (λ t b h. subst Accepts (sym h) accepted) (λ t h. subst Accepts (sym h) accepted)
    (ap read_returned e)
  where
    some_number : (n : ℕ) → 0 < n → cond (eqb n 0) none (some n) ≡ some n
    some_number n l = rw (ne_eqb n 0 (λ z. omega (arith, z, l))) refl
