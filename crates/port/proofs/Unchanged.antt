-- Cells that stay as they are, and that what is accepted leaves as a cell.
use mathlib.Core.Path.{◌≡◌, refl, sym, ap, ◌∙◌, subst}
use mathlib.Core.Logic.{by_cases}
use mathlib.Core.List.{List}
use Prim.Native.Nat.{ℕ, ◌<◌}
use native.Mathlib.Decide.{ℕ_discrete}
use native.Mathlib.Omega.{arith}
use Rattle.cell.specs.Reading.{reading}
use Rattle.cell.specs.Admitted.{Taken}
use Rattle.cell.specs.Read.{Reading, Refused, DataCell, RmCell}
use Rattle.cell.proofs.Admits.{taken-admitted}
use Rattle.cell.proofs.Readings.{refusal-number}
use Rattle.port_share.specs.Share.{Share, fair_share}
use Rattle.laws.specs.declared.refusals.Refusal.{Refusal}
use Rattle.laws.specs.Refusals.{number}
use Rattle.std.specs.Prelude.{Some, None, Ok, Err}
use Rattle.port_share.proofs.Greatest.{refusal-number as share-number}
use Rattle.port.specs.Limit.{passed, refusal_of, limit}
use Rattle.port.specs.Port.{port_by, port}
use Rattle.port.specs.Limited.{Limited}
use Rattle.port.specs.Unchanged.{Whole, OthersUnchanged}
use Rattle.port.proofs.Cases.{limit-refused, limit-data, limit-forward}
use Rattle.port.proofs.Limited.{backward-limited}

-- what is read and is no refusal is taken
no-refusal : {r : Reading} → refusal_of r ≡ 0 → ((n : ℕ) → r ≡ Refused n → 0 < n) → Taken r
no-refusal z positive n e = let q : refusal_of (Refused n) ≡ 0 = ap refusal_of (sym e) ∙ z in omega (arith, positive n e)

-- a cell that is read, and left
left : (o : List ℕ) → refusal_of (reading o) ≡ 0 → Whole o (passed 0 o)
left o z = record { refused = λ h. absurd (omega arith); admitted = λ _. taken-admitted o (no-refusal z (refusal-number o)) }

whole-limit : (rate : ℕ) (o : List ℕ) → Whole o (limit rate o)
whole-limit rate o = go (reading o) refl
  where
    go : (r : Reading) → reading o ≡ r → Whole o (limit rate o)
    go (Refused n) e =
        subst (Whole o) (limit-refused rate o e) (record { refused = λ _. refl; admitted = λ z. absurd (omega (arith, refusal-number o n e)) })
    go (DataCell vpi vci efci) e = subst (Whole o) (limit-data rate o e) (left o (ap refusal_of e))
    go (RmCell f) e =
        by_cases (ℕ_discrete f.dir 1)
        (λ d. let l : Limited rate o f = backward-limited rate o f e d in
        record {
          refused = λ h. absurd (omega (arith, l.accepted));
          admitted = λ _. taken-admitted (limit rate o).cell (no-refusal (ap refusal_of l.fields) (refusal-number (limit rate o).cell));
        })
        (λ d. subst (Whole o) (limit-forward rate o e d) (left o (ap refusal_of e)))

whole-port : (a : Share) (o : List ℕ) → ((r : Refusal) → a ≡ Err r → 0 < number r) → Whole o (port_by a o)
unfolding port_by
whole-port (Err r) o p = record { refused = λ _. refl; admitted = λ z. absurd (omega (arith, p r refl)) }
whole-port (Ok None) o p = record { refused = λ _. refl; admitted = λ z. taken-admitted o (no-refusal z (refusal-number o)) }
whole-port (Ok (Some s)) o p = whole-limit s o

unlimited : (capacity : ℕ) (ds o : List ℕ) → fair_share capacity ds ≡ Ok None → (port capacity ds o).cell ≡ o
unfolding port_by
unlimited capacity ds o e = ap (λ (a : Share). (port_by a o).cell) e

pub others-unchanged : OthersUnchanged
others-unchanged = record {
  data_on_path = λ rate o vpi vci efci e. sym (limit-data rate o e);
  forward = λ rate o f e d. sym (limit-forward rate o e d);
  unlimited = unlimited;
  held = whole-limit;
  ported = λ capacity ds o. whole-port (fair_share capacity ds) o (λ n. share-number capacity ds);
}
