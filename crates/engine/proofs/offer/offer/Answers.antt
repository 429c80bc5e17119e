use Prim.Native.Nat.{◌+◌, ◌<◌}
use mathlib.Core.Path.{◌≡◌, sym, subst}
use mathlib.Core.Bool.{false}
use native.Mathlib.Omega.{arith}
use Rattle.connection.specs.Range.{InRange}
use Rattle.connection.proofs.Ranged.{offered-ranged}
use Rattle.connection_members.specs.Path.{is_path}
use Rattle.model.specs.Invariant.{WellFormed}
use Rattle.model.specs.Step.{offer_step}
use Rattle.model.specs.Answers.{Refused}
use Rattle.table.specs.Layout.{words}
use Rattle.table_names.specs.Finding.{Located}
use Rattle.table_names.proofs.Found.{found_at}
use Rattle.engine.proofs.Outcomes.{unfound, refused-out, below, missing, entry-located, ranged}
use Rattle.engine.proofs.Members.{is-path, no-path}
use Rattle.engine.proofs.CallCases.{offer-missing, offer-path, offer-over, offer-done}
use Rattle.model.specs.State.{State, capacity}
use Rattle.engine.proofs.offer.offer.Goals as goal

pub returns-in_err-i : goal.returns-in_err-i
returns-in_err-i c =
    let f = c in
    let st = f in
    record {
      meets = λ s w e.
          rw (unfound c.from_residual.ensures.1 c.in_err-i.ensures.ok_part c.in_err-i.ensures.value) (refused-out s 11 e (offer-missing s st.args.name st.args.cells (missing s w e st.args.name f.find.ensures c.in_err-i.ensures.ok_part)));
    }

pub returns-then-name-eq-PATH_VCI : goal.returns-then-name-eq-PATH_VCI
returns-then-name-eq-PATH_VCI c =
    let located : (s : State) → WellFormed s → c.args.t.now ≡ words s → Located s.entries c.args.name c.in_ok-i.i = λ s w e. entry-located s w e c.args.name c.find.ensures c.in_ok-i.ensures.ok_part in
    let i = c in
    let a = i.args in
    record {
      meets = λ s w e.
          let p = located s w e in
          refused-out s 28 e (offer-path s a.name a.cells p.holder (found_at p) (is-path a.name c.if-name-eq-PATH_VCI.true));
    }

pub load-c-requires : goal.load-c-requires
load-c-requires c =
    let entry : c.in_ok-i.i < capacity = below c.args.t.now c.args.name c.find.ensures c.in_ok-i.ensures.ok_part in
    entry

pub returns-then-waiting-gt-MOST : goal.returns-then-waiting-gt-MOST
returns-then-waiting-gt-MOST c =
    let entry : c.in_ok-i.i < capacity = below c.args.t.now c.args.name c.find.ensures c.in_ok-i.ensures.ok_part in
    let located : (s : State) → WellFormed s → c.args.t.now ≡ words s → Located s.entries c.args.name c.in_ok-i.i = λ s w e. entry-located s w e c.args.name c.find.ensures c.in_ok-i.ensures.ok_part in
    let channel : is_path c.args.name ≡ false = no-path c.args.name c.if-name-eq-PATH_VCI.false in
    let over : let a = c.args in 65535 < c.load-c.result.queue.cells + a.cells → (s : State) → WellFormed s → a.t.now ≡ words s → (a.t.now ≡ words (offer_step s a.name a.cells).state) × (Refused 15 ≡ (offer_step s a.name a.cells).answer) = λ g s w e. let i = c in let a = i.args in offer-over s w e a.name a.cells i.in_ok-i.i (entry) (located s w e) c.load-c.result c.load-c.ensures (channel) g in
    record { meets = over (omega (arith, c.if-waiting-gt-MOST.true)) }

pub returns-then-waiting-cells : goal.returns-then-waiting-cells
returns-then-waiting-cells c =
    let entry : c.in_ok-i.i < capacity = below c.args.t.now c.args.name c.find.ensures c.in_ok-i.ensures.ok_part in
    let located : (s : State) → WellFormed s → c.args.t.now ≡ words s → Located s.entries c.args.name c.in_ok-i.i = λ s w e. entry-located s w e c.args.name c.find.ensures c.in_ok-i.ensures.ok_part in
    let channel : is_path c.args.name ≡ false = no-path c.args.name c.if-name-eq-PATH_VCI.false in
    let over : let a = c.args in 65535 < c.load-c.result.queue.cells + a.cells → (s : State) → WellFormed s → a.t.now ≡ words s → (a.t.now ≡ words (offer_step s a.name a.cells).state) × (Refused 15 ≡ (offer_step s a.name a.cells).answer) = λ g s w e. let i = c in let a = i.args in offer-over s w e a.name a.cells i.in_ok-i.i (entry) (located s w e) c.load-c.result c.load-c.ensures (channel) g in
    record { meets = over (omega (arith, c.if-waiting-cells.true, c.if-waiting-gt-MOST.false)) }

pub update_queue-comparisons-requires : goal.update_queue-comparisons-requires
update_queue-comparisons-requires c =
    let entry : c.in_ok-i.i < capacity = below c.args.t.now c.args.name c.find.ensures c.in_ok-i.ensures.ok_part in
    let ld = c in
    let i = ld in
    (entry, subst InRange (sym c.offered.ensures) (offered-ranged ld.load-c.result (ranged i.args.t.now i.in_ok-i.i ld.load-c.ensures) _))

pub returns : goal.returns
returns c =
    let entry : c.in_ok-i.i < capacity = below c.args.t.now c.args.name c.find.ensures c.in_ok-i.ensures.ok_part in
    let located : (s : State) → WellFormed s → c.args.t.now ≡ words s → Located s.entries c.args.name c.in_ok-i.i = λ s w e. entry-located s w e c.args.name c.find.ensures c.in_ok-i.ensures.ok_part in
    let channel : is_path c.args.name ≡ false = no-path c.args.name c.if-name-eq-PATH_VCI.false in
    let o = c in
    let e3 = o in
    let ld = e3 in
    let i = ld in
    let a = i.args in
    record {
      meets = λ s w e.
          offer-done s w e a.name a.cells i.in_ok-i.i (entry) (located s w e) ld.load-c.result ld.load-c.ensures (channel) o.offered.result o.offered.ensures c.update_queue-comparisons.ensures
          (omega (arith, e3.if-waiting-cells.false, e3.if-waiting-gt-MOST.false));
    }
