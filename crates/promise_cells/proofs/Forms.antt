-- Every cell that a call writes has the form of an RM cell.
use Prim.Native.Nat.{ℕ, ◌≤◌}
use mathlib.Core.Path.{◌≡◌, sym, subst}
use mathlib.Core.Bool.{Bool, true}
use mathlib.Core.List.{List}
use Rattle.cell_payload.specs.Payload.{payload_of}
use Rattle.cell.specs.Octets.{payload, AreOctets}
use Rattle.cell.specs.Fields.{fields_fit, rm_cell}
use Rattle.cell.specs.Reading.{reading}
use Rattle.cell.specs.Turning.{turned_payload, turned_cell}
use Rattle.cell.specs.declared.fields.Fields.{Fields}
use Rattle.cell.specs.Read.{RmCell}
use Rattle.cell.proofs.Admits.{rm-received}
use Rattle.cell.proofs.Turned.{turned-words, turned-framed, turned-top}
use Rattle.cell.proofs.Form.{written-form}
use Rattle.promise_cells.specs.Forms.{Formed, WrittenForms}
use Rattle.promise_cells.proofs.WrittenCells.{written_as}

fields-formed : (clp : ℕ) (f : Fields) → clp ≤ 1 → fields_fit f ≡ true → Formed clp (rm_cell clp f)
fields-formed clp f h e = let k = written-form clp f h in record { framed = k.0; blank = λ _. k.1 }

turned-formed : (level : ℕ) (b : Bool) (o : List ℕ) (f : Fields) → AreOctets o → reading o ≡ RmCell f → (vpi vci : ℕ) → Formed 0 (turned_cell vpi vci (payload_of (turned_payload level b (payload o))))
turned-formed level b o f a e vpi vci =
    let r = rm-received o f e in
    subst (Formed 0) (sym (turned-words level b vpi vci o r.size a)) (record {
      framed = turned-framed level b vpi vci o r.size r.protocol;
      blank = λ n. absurd (n (turned-top level b vpi vci o r.size));
    })

pub written-forms : WrittenForms
written-forms = written_as Formed fields-formed (λ level b o f a e vpi vci _ _. turned-formed level b o f a e vpi vci)
