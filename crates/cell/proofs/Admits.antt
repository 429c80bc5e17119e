-- Reading takes a cell exactly when the format admits it.
use mathlib.Core.Path.{◌≡◌, refl, sym, ◌∙◌, subst}
use mathlib.Core.Bool.{Bool, true, false, cond}
use mathlib.Core.List.{List}
use Prim.Native.Nat.{ℕ, ◌/◌, ◌%◌}
use native.Mathlib.Omega.{arith}
use borrow.Author.Tests.{eq-eqb, eqb-true, leb-true}
use lib.Dec.{eqb, leb}
use lib.ListN.{length, length-drop}
use lib.Seq.{get_or-drop}
use Rattle.cell_crc.specs.Checks.{payload_check}
use Rattle.cell_payload.specs.Payload.{payload_of}
use Rattle.cell_payload.specs.declared.payload.Payload.{Payload}
use Rattle.cell.specs.Octets.{octet, pair, payload, AreOctets}
use Rattle.cell.specs.Header.{vpi_of, vci_of, type_of, header_right}
use Rattle.cell.specs.Fields.{Fields, fields_of, rates_clear, crc_right, CrcMatches}
use Rattle.cell.specs.Reading.{Reading, DataCell, RmCell, reading, Refused}
use Rattle.cell.specs.Admitted.{Admissible, data_cell, rm_cell, Admitted, Taken}
use Rattle.cell.proofs.OctetLists.{octets-drop}
use Rattle.cell.proofs.Readings.{rest, words-checked, takes-data, takes-rest, takes-fields}
use Rattle.laws.specs.Require.{require}

require-test : (n : ℕ) (t : Bool) (r : Reading) → Taken (require (Refused n) t r) → t ≡ true
unfolding require
require-test n true r h = refl
require-test n false r h = absurd (h n refl)

require-rest : (n : ℕ) (t : Bool) (r : Reading) → Taken (require (Refused n) t r) → Taken r
unfolding require
require-rest n true r h = h
require-rest n false r h = absurd (h n refl)

module _ (o : List ℕ) where
  rm_rest : Reading
  rm_rest = require (Refused 4) (eqb (type_of o) 6) (rest o)

  admissible : (t : Bool) → leb (type_of o) 3 ≡ t → Taken (cond t (DataCell (vpi_of o) (vci_of o) (eqb (type_of o / 2 % 2) 1)) rm_rest) → Admissible o
  unfolding crc_right rm_rest
  admissible true e h = data_cell (leb-true _ _ e)
  admissible false e h =
      let h5 : Taken (rest o) = require-rest 4 (eqb (type_of o) 6) _ h in
      let h6 : Taken _ = require-rest 5 (crc_right o) _ h5 in
      rm_cell (eqb-true _ _ (require-test 4 (eqb (type_of o) 6) _ h)) (eqb-true _ _ (require-test 5 (crc_right o) _ h5))
      (eqb-true _ _ (require-test 6 (eqb (octet 6 o) 1) _ h6))
      (require-test 19 (rates_clear o) (RmCell (fields_of o)) (require-rest 6 (eqb (octet 6 o) 1) _ h6))

  pub taken-admitted : Taken (reading o) → Admitted o
  unfolding reading header_right rm_rest
  taken-admitted h =
      let h2 : Taken _ = require-rest 1 (eqb (length o) 53) _ h in
      let h3 : Taken _ = require-rest 2 (header_right o) _ h2 in
      record {
        size = eqb-true _ _ (require-test 1 (eqb (length o) 53) _ h);
        check = eqb-true _ _ (require-test 2 (header_right o) _ h2);
        kind = admissible (leb (type_of o) 3) refl h3;
      }

  -- what an admitted cell is read as
  data Outcome : Type 0 where
    data_read : DataCell (vpi_of o) (vci_of o) (eqb (type_of o / 2 % 2) 1) ≡ reading o → Outcome
    rm_read : pair 52 o % 1024 ≡ payload_check (payload o) → octet 6 o ≡ 1 → rates_clear o ≡ true → RmCell (fields_of o) ≡ reading o → Outcome

  outcome : Admitted o → Outcome
  unfolding header_right crc_right
  outcome h = of h.kind
    where
      check : header_right o ≡ true
      check = eq-eqb _ _ h.check

      of : Admissible o → Outcome
      of (data_cell t) = data_read (takes-data o h.size check t)
      of (rm_cell t w p r) = rm_read w p r (takes-fields o (eq-eqb _ _ w) p r ∙ takes-rest o h.size check t)

  pub admitted-taken : Admitted o → Taken (reading o)
  admitted-taken h n e = refuted (outcome h)
    where
      refuted : Outcome → ⊥
      refuted (data_read u) = let z : ◌≡◌ {A = ℕ} 0 1 = cc in omega arith
      refuted (rm_read w p r u) = let z : ◌≡◌ {A = ℕ} 0 1 = cc in omega arith

  -- A cell read as an RM cell is whole, has the right CRC-10 and protocol 1, and has bit 15 clear in its rate
  -- codes. The fields are its own.
  pub record Received (f : Fields) : Type 0 where
    pub size : length o ≡ 53
    pub check : pair 52 o % 1024 ≡ payload_check (payload o)
    pub protocol : octet 6 o ≡ 1
    pub clear : rates_clear o ≡ true
    pub fields : f ≡ fields_of o

  pub rm-received : (f : Fields) → reading o ≡ RmCell f → Received f
  rm-received f e = received (outcome admitted)
    where
      admitted : Admitted o
      admitted = taken-admitted (λ n r. let z : ◌≡◌ {A = ℕ} 0 1 = cc in omega arith)

      received : Outcome → Received f
      received (data_read u) = let z : ◌≡◌ {A = ℕ} 0 1 = cc in absurd (omega arith)
      received (rm_read w p r u) = record { size = admitted.size; check = w; protocol = p; clear = r; fields = cc }

  -- so the words of its payload have the right CRC-10, as turning them asks
  pub received-checked : (f : Fields) {p : Payload} → reading o ≡ RmCell f → AreOctets o → p ≡ payload_of (payload o) → CrcMatches p
  received-checked f e a q =
      let r : Received f = rm-received f e in
      let n : length o ≡ 53 = r.size in
      subst CrcMatches (sym q) (words-checked (payload o) (simp length-drop (omega arith)) (octets-drop 5 o a) (simp get_or-drop r.check))
