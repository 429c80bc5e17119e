-- What was written may be limited.
use Prim.Native.Nat.{ℕ, ◌≤◌}
use mathlib.Core.Path.{◌≡◌, refl, sym, subst, ◌∙◌}
use mathlib.Core.Logic.{by_cases}
use mathlib.Core.Bool.{Bool, true}
use mathlib.Core.List.{List}
use native.Mathlib.Decide.{ℕ_discrete}
use native.Mathlib.Omega.{arith}
use Rattle.cell.specs.Octets.{payload, AreOctets}
use Rattle.cell.specs.Fields.{fields_fit, rm_cell}
use Rattle.cell.specs.Turning.{turned_payload, turned_cell}
use Rattle.cell.specs.Reading.{reading}
use Rattle.cell.specs.declared.fields.Fields.{Fields}
use Rattle.cell.specs.Read.{RmCell}
use Rattle.cell.proofs.Admits.{rm-received}
use Rattle.cell.proofs.Written.{read-written}
use Rattle.cell.proofs.Turned.{turned-read, turned-words}
use Rattle.cell_payload.specs.Payload.{payload_of}
use Rattle.port.specs.Limit.{Forwarded, passed, held_er, limit}
use Rattle.port.specs.Limited.{Limited}
use Rattle.port.proofs.Cases.{limit-forward}
use Rattle.port.proofs.Limited.{backward-limited}
use Rattle.promise_cells.specs.ReservedBit.{WrittenAs}
use Rattle.promise_cells.proofs.WrittenCells.{written_as}
use Rattle.exports.proofs.Transport.{each-call}
use Rattle.exports_cells.specs.Written.{clp_written}
use Rattle.exports_cells.specs.Limited.{AsksNoMore, LimitsWritten, WrittenLimited}
use Rattle.exports_cells.proofs.Written.{read-admitted, holds-seen}

-- octets that are read as an RM cell
record ReadAsRm (clp : ℕ) (octets : List ℕ) : Type 0 where
  fields : Fields
  reads : reading octets ≡ RmCell fields

made-read : (clp : ℕ) (f : Fields) → clp ≤ 1 → fields_fit f ≡ true → ReadAsRm clp (rm_cell clp f)
made-read clp f l e = record { fields = f; reads = read-written clp f l e }

turned-as-rm :
    (level : ℕ) (b : Bool) (o : List ℕ) (f : Fields) → AreOctets o → reading o ≡ RmCell f → (vpi vci : ℕ) → vpi ≤ 255 → vci ≤ 65535
    → ReadAsRm 0 (turned_cell vpi vci (payload_of (turned_payload level b (payload o))))
turned-as-rm level b o f a e vpi vci g l =
    let size = (rm-received o f e).size in
    subst (ReadAsRm 0) (sym (turned-words level b vpi vci o size a)) (record { fields = _; reads = turned-read level b vpi vci o size f e g l })

module _ (rate : ℕ) (o : List ℕ) (f : Fields) (e : reading o ≡ RmCell f) where
  backward : f.dir ≡ 1 → AsksNoMore rate o (limit rate o).refusal (limit rate o).cell
  backward d =
      let l : Limited rate o f = backward-limited rate o f e d in
      record {
        accepted = l.accepted;
        admitted = read-admitted _ _ l.fields;
        asked = f;
        asks = e;
        er = held_er rate f.er;
        reads = l.fields;
        octets = l.octets;
        lower = omega (arith, l.greatest.not_above);
        limited = λ _. omega (arith, l.greatest.not_above);
      }

  forward : (f.dir ≡ 1 → ⊥) → AsksNoMore rate o 0 o
  forward d =
      record {
        accepted = refl;
        admitted = read-admitted o f e;
        asked = f;
        asks = e;
        er = f.er;
        reads = e;
        octets = record { start = refl; middle = refl; reserved = refl };
        lower = omega arith;
        limited = λ b. absurd (d b);
      }

  asks-no-more : (n : ℕ) (after : List ℕ) → passed n after ≡ limit rate o → AsksNoMore rate o n after
  asks-no-more n after q =
      by_cases (ℕ_discrete f.dir 1)
      (λ d. subst (λ (p : Forwarded). AsksNoMore rate o p.refusal p.cell) (sym q) (backward d))
      (λ d. subst (λ (p : Forwarded). AsksNoMore rate o p.refusal p.cell) (limit-forward rate o e d ∙ sym q) (forward d))

pub written-limited : WrittenLimited
written-limited =
    each-call (λ c p. WrittenAs (ReadAsRm (clp_written c)) p.buffer) LimitsWritten (written_as ReadAsRm made-read turned-as-rm)
    (λ s c o z h. record {
      is = λ w rate n after q.
          let r = holds-seen z (ReadAsRm (clp_written c)) h w in
          asks-no-more rate o.new r.fields r.reads n after q;
    })
