use borrow.Author.Rules.{rules}
use Prim.Native.Nat.{ℕ, ◌<◌}
use Rattle.table_names.specs.Finding.{Located, FindsName}
use Rattle.connection.proofs.Ranged.{after-backward-cell-ranged, after-forward-cell-ranged}
use Rattle.cell.specs.Read.{RmCell}
use Rattle.cell.specs.Fields.{cell_name, CrcMatches}
use Rattle.connection.specs.Range.{InRange}
use Rattle.engine.proofs.Outcomes.{unfound, below, missing, entry-located, ranged}
use Rattle.engine_arrivals.proofs.ReceiveCases.{receive-refused, work-missing, answer-done, turn-done}
use native.Mathlib.Omega.{arith}
use mathlib.Core.Path.{◌≡◌, sym, subst}
use Rattle.model.specs.State.{State, capacity}
use Rattle.model.specs.Invariant.{WellFormed}
use Rattle.table.specs.Layout.{words}
use Rattle.engine_arrivals.proofs.receive.receive_rm.Goals as goal

pub returns-in_err-i : goal.returns-in_err-i
returns-in_err-i c =
    let finds : FindsName c.args.t.now (cell_name c.args.f) c.find.result = subst (λ (n : ℕ). FindsName c.args.t.now n c.find.result) c.address_name-name.ensures c.find.ensures in
    let f = c in
    let a = f.args in
    record { meets = λ s w e. rw (unfound c.from_residual.ensures.1 c.in_err-i.ensures.ok_part c.in_err-i.ensures.value) (receive-refused (RmCell a.f) s 11 e (work-missing s a.cell.now a.f (missing s w e _ (finds) c.in_err-i.ensures.ok_part))) }

pub overflow_cast-leaf : goal.overflow_cast-leaf
overflow_cast-leaf c =
    let finds : FindsName c.args.t.now (cell_name c.args.f) c.find.result = subst (λ (n : ℕ). FindsName c.args.t.now n c.find.result) c.address_name-name.ensures c.find.ensures in
    let entry : c.in_ok-i.i < capacity = below _ _ (finds) c.in_ok-i.ensures.ok_part in
    omega (arith, entry)

pub load-c-requires : goal.load-c-requires
load-c-requires c =
    let finds : FindsName c.args.t.now (cell_name c.args.f) c.find.result = subst (λ (n : ℕ). FindsName c.args.t.now n c.find.result) c.address_name-name.ensures c.find.ensures in
    let entry : c.in_ok-i.i < capacity = below _ _ (finds) c.in_ok-i.ensures.ok_part in
    entry

pub update_source-comparisons-requires : goal.update_source-comparisons-requires
update_source-comparisons-requires c =
    let finds : FindsName c.args.t.now (cell_name c.args.f) c.find.result = subst (λ (n : ℕ). FindsName c.args.t.now n c.find.result) c.address_name-name.ensures c.find.ensures in
    let entry : c.in_ok-i.i < capacity = below _ _ (finds) c.in_ok-i.ensures.ok_part in
    let in-range : InRange c.load-c.result = ranged c.args.t.now c.in_ok-i.i c.load-c.ensures in
    let o = c in
    let ld = o in
    let i = ld in
    (entry, subst InRange (sym o.after_backward_cell-next.ensures) (after-backward-cell-ranged ld.load-c.result (in-range) i.args.f))

pub returns-then-f-eq1 : goal.returns-then-f-eq1
returns-then-f-eq1 c =
    let finds : FindsName c.args.t.now (cell_name c.args.f) c.find.result = subst (λ (n : ℕ). FindsName c.args.t.now n c.find.result) c.address_name-name.ensures c.find.ensures in
    let entry : c.in_ok-i.i < capacity = below _ _ (finds) c.in_ok-i.ensures.ok_part in
    let located : (s : State) → WellFormed s → c.args.t.now ≡ words s → Located s.entries (cell_name c.args.f) c.in_ok-i.i = λ s w e. entry-located s w e _ (finds) c.in_ok-i.ensures.ok_part in
    let o = c in
    let ld = o in
    let i = ld in
    let a = i.args in
    record {
      meets = λ s w e.
          answer-done s w e a.cell.now a.f i.in_ok-i.i (entry) (located s w e) ld.load-c.result ld.load-c.ensures o.after_backward_cell-next.result o.if-f-eq1.true o.after_backward_cell-next.ensures c.update_source-comparisons.ensures i.address_name-name.result i.address_name-name.ensures;
    }

pub after_forward_payload-next-requires : goal.after_forward_payload-next-requires
after_forward_payload-next-requires c = subst CrcMatches (sym c.payload_at.ensures) c.requires

pub update_destination-comparisons-requires : goal.update_destination-comparisons-requires
update_destination-comparisons-requires c =
    let finds : FindsName c.args.t.now (cell_name c.args.f) c.find.result = subst (λ (n : ℕ). FindsName c.args.t.now n c.find.result) c.address_name-name.ensures c.find.ensures in
    let entry : c.in_ok-i.i < capacity = below _ _ (finds) c.in_ok-i.ensures.ok_part in
    let in-range : InRange c.load-c.result = ranged c.args.t.now c.in_ok-i.i c.load-c.ensures in
    let o = c in
    let ld = o in
    (entry, subst InRange (sym o.after_forward_payload-next.ensures) (after-forward-cell-ranged ld.load-c.result (in-range) _ _))

pub returns : goal.returns
returns c =
    let finds : FindsName c.args.t.now (cell_name c.args.f) c.find.result = subst (λ (n : ℕ). FindsName c.args.t.now n c.find.result) c.address_name-name.ensures c.find.ensures in
    let entry : c.in_ok-i.i < capacity = below _ _ (finds) c.in_ok-i.ensures.ok_part in
    let located : (s : State) → WellFormed s → c.args.t.now ≡ words s → Located s.entries (cell_name c.args.f) c.in_ok-i.i = λ s w e. entry-located s w e _ (finds) c.in_ok-i.ensures.ok_part in
    let o = c in
    let p = o in
    let ld = p in
    let i = ld in
    let f = i in
    let a = f.args in
    record {
      meets = λ s w e.
          turn-done s w e a.cell.now a.f i.in_ok-i.i (entry) (located s w e) ld.load-c.result ld.load-c.ensures o.after_forward_payload-next.result p.if-f-eq1.false (search rules)
          (λ j. search rules) p.payload_at.result p.payload_at.ensures o.after_forward_payload-next.ensures c.update_destination-comparisons.ensures f.address_name-name.result f.address_name-name.ensures;
    }
