use Prim.Native.Nat.{ℕ, ◌+◌, ◌^◌, ◌<◌}
use mathlib.Core.Path.{◌≡◌, sym, subst}
use native.Mathlib.Omega.{arith}
use Rattle.cell.specs.Name.{address_name}
use Rattle.connection_members.specs.Members.{cells_of}
use Rattle.connection.specs.declared.parts.Connection.{Connection}
use Rattle.connection.specs.Range.{InRange}
use Rattle.connection.proofs.Ranged.{offered-ranged}
use Rattle.model.specs.State.{State, capacity}
use Rattle.model.specs.Invariant.{WellFormed}
use Rattle.model.specs.Step.{offer_member_step}
use Rattle.table.specs.Layout.{words}
use Rattle.table.proofs.Loaded.{load-queue}
use Rattle.std.specs.Prelude.{Some}
use Rattle.table_store.specs.Updates.{Updates, QueueMoved}
use Rattle.table_members.specs.Words.{SetsCells}
use Rattle.engine.proofs.Outcomes.{unfound, refused-out, below, ranged}
use Rattle.engine_paths.specs.Member.{AddressInRange, OnPath}
use Rattle.engine_paths.proofs.MemberCases.{no-path-open, not-added, member-found, member-inside}
use Rattle.engine_paths.proofs.Cases.{waiting-is, offer-over, offer-out}
use Rattle.engine_paths.proofs.offer.offer_member.Goals as goal

pub returns-in_err-i : goal.returns-in_err-i
unfolding offer_member_step
returns-in_err-i c =
    let f = c in
    record { meets = λ s w e. rw (unfound c.from_residual.ensures.1 c.in_err-i.ensures.ok_part c.in_err-i.ensures.value) (refused-out s 11 e (no-path-open _ _ f.address_name.ensures f.find.ensures c.in_err-i.ensures.ok_part s w e _)) }

pub returns-in_err-j : goal.returns-in_err-j
unfolding offer_member_step
returns-in_err-j c =
    let m = c in
    let i = m in
    let f = i in
    record { meets = λ s w e. rw (unfound c.from_residual-in_err-j.ensures.1 c.in_err-j.ensures.ok_part c.in_err-j.ensures.value) (refused-out s 28 e (not-added _ _ f.address_name.ensures f.find.ensures i.in_ok-i.ensures.ok_part m.member_at.ensures c.in_err-j.ensures.ok_part s w e _)) }

pub cells_at-waiting-requires : goal.cells_at-waiting-requires
cells_at-waiting-requires c =
    let inside : AddressInRange c.args.vpi c.args.vci (Some c.in_ok-j.j) = member-inside _ _ c.member_at.ensures c.in_ok-j.ensures.ok_part in
    (inside).0

pub returns-then-waiting-cells : goal.returns-then-waiting-cells
returns-then-waiting-cells c =
    let found : (s : State) → WellFormed s → c.args.t.now ≡ words s → OnPath s c.args.vpi c.args.vci c.in_ok-i.i c.in_ok-j.j = let i = c in let f = i in member-found _ _ f.address_name.ensures f.find.ensures i.in_ok-i.ensures.ok_part c.member_at.ensures c.in_ok-j.ensures.ok_part in
    let waits : (s : State) → WellFormed s → c.args.t.now ≡ words s → c.cells_at-waiting.result ≡ cells_of (address_name c.args.vpi c.args.vci) s.members = λ s w e. waiting-is s w e (found s w e).place c.cells_at-waiting.ensures in
    let ca = c in
    let a = ca.args in
    record {
      meets = λ s w e.
          refused-out s 15 e (offer-over s a.vpi a.vci (found s w e) a.cells (omega (arith, waits s w e, ca.cells_at-waiting.ensures.few, c.if-waiting-cells.true)));
    }

pub load-c-requires : goal.load-c-requires
load-c-requires c =
    let entry : c.in_ok-i.i < capacity = let f = c in below _ _ f.find.ensures c.in_ok-i.ensures.ok_part in
    entry

pub set_cells-requires : goal.set_cells-requires
set_cells-requires c =
    let inside : AddressInRange c.args.vpi c.args.vci (Some c.in_ok-j.j) = member-inside _ _ c.member_at.ensures c.in_ok-j.ensures.ok_part in
    let ld = c in ((inside).0, omega (arith, ld.cells_at-waiting.ensures.few, ld.if-waiting-cells.false))

pub offered-requires : goal.offered-requires
offered-requires c =
    let ld = c in
    let i = ld in
    omega (
      arith,
      subst (λ (x : Connection). x.queue.cells < 2 ^ 24) (sym ld.load-c.ensures) (load-queue i.args.t.now i.in_ok-i.i),
      ld.cells_at-waiting.ensures.few,
      ld.if-waiting-cells.false,
    )

pub update_queue-comparisons-requires : goal.update_queue-comparisons-requires
update_queue-comparisons-requires c =
    let entry : c.in_ok-i.i < capacity = let f = c in below _ _ f.find.ensures c.in_ok-i.ensures.ok_part in
    let ld = c in
    let i = ld in
    (entry, subst InRange (sym c.offered.ensures) (offered-ranged ld.load-c.result (ranged i.args.t.now i.in_ok-i.i ld.load-c.ensures) _))

pub returns : goal.returns
returns c =
    let entry : c.in_ok-i.i < capacity = let f = c in below _ _ f.find.ensures c.in_ok-i.ensures.ok_part in
    let found : (s : State) → WellFormed s → c.args.t.now ≡ words s → OnPath s c.args.vpi c.args.vci c.in_ok-i.i c.in_ok-j.j = let i = c in let f = i in member-found _ _ f.address_name.ensures f.find.ensures i.in_ok-i.ensures.ok_part c.member_at.ensures c.in_ok-j.ensures.ok_part in
    let waits : (s : State) → WellFormed s → c.args.t.now ≡ words s → c.cells_at-waiting.result ≡ cells_of (address_name c.args.vpi c.args.vci) s.members = λ s w e. waiting-is s w e (found s w e).place c.cells_at-waiting.ensures in
    let o = c in
    let sc = o in
    let ld = sc in
    let ca = ld in
    let j = ca in
    let i = j in
    let a = i.args in
    record {
      meets = λ s w e.
          let n = waits s w e in
          offer-out s w e a.vpi a.vci (found s w e) (entry) ld.load-c.ensures a.cells (omega (arith, n, ca.cells_at-waiting.ensures.few, ld.if-waiting-cells.false))
          (subst (λ (x : ℕ). SetsCells j.in_ok-j.j (x + a.cells) a.t.now sc.set_cells.new.t) n sc.set_cells.ensures)
          (subst (λ (x : Connection). Updates QueueMoved sc.set_cells.new.t c.update_queue-comparisons.new.t i.in_ok-i.i x c.update_queue-comparisons.result) o.offered.ensures c.update_queue-comparisons.ensures);
    }
