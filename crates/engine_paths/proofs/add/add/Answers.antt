use Prim.Native.Nat.{ℕ}
use mathlib.Core.Path.{sym, ap, subst, ◌∙◌}
use native.Mathlib.Omega.{arith}
use borrow.Author.Tests.{ltb-true}
use Rattle.cell.proofs.Names.{address-named}
use Rattle.connection_members.specs.Path.{path_of}
use Rattle.table_names.proofs.Found.{found_at}
use Rattle.table_members.specs.Words.{Adds}
use Rattle.engine.proofs.Outcomes.{unfound, refused-out}
use Rattle.engine.proofs.Members.{located_name, missing_name, closed_name, open_name, lone_name, member_name}
use Rattle.engine_paths.proofs.Cases.{path-coded, room-is, add_low, add-closed, add-channel, add-member, add-full, add_done, add-out}
use Rattle.engine_paths.proofs.add.add.Goals as goal

pub returns-then-vci-lt-FIRST_VCI : goal.returns-then-vci-lt-FIRST_VCI
returns-then-vci-lt-FIRST_VCI c = let a = c.args in record { meets = λ s w e. refused-out s 10 e (add_low s a.vpi a.vci c.if-vci-lt-FIRST_VCI.true) }

pub returns-in_err-ok_or : goal.returns-in_err-ok_or
returns-in_err-ok_or c =
    let a = c.args in
    record {
      meets = λ s w e.
          rw (unfound c.from_residual.ensures.1 c.in_err-ok_or.ensures.ok_part c.in_err-ok_or.ensures.value)
          (refused-out s 11 e
          (add-closed s a.vpi a.vci c.if-vci-lt-FIRST_VCI.false (missing_name s w e (c.path_of.ensures ∙ ap path_of c.address_name-name.ensures) c.find.ensures c.in_err-ok_or.ensures.ok_part)));
    }

pub returns-then-name-ge-NO_NAME : goal.returns-then-name-ge-NO_NAME
returns-then-name-ge-NO_NAME c = record {
  meets = λ s w e.
      let p = located_name s w e (c.path_of.ensures ∙ ap path_of c.address_name-name.ensures) c.find.ensures c.in_ok-ok_or.ensures.ok_part in
      absurd (omega (arith, path-coded s w _ p, c.address_name-name.ensures, c.if-name-ge-NO_NAME.true));
}

pub returns-then-is_some : goal.returns-then-is_some
returns-then-is_some c =
    let a = c.args in
    record {
      meets = λ s w e.
          let p = located_name s w e (c.path_of.ensures ∙ ap path_of c.address_name-name.ensures) c.find.ensures c.in_ok-ok_or.ensures.ok_part in
          let q = open_name s w e c.address_name-name.ensures c.is_some.ensures c.find-2.ensures c.if-is_some.true in
          refused-out s 12 e (add-channel s a.vpi a.vci c.if-vci-lt-FIRST_VCI.false p.holder (found_at p) q.0 q.1);
    }

pub returns-then-is_some-2 : goal.returns-then-is_some-2
returns-then-is_some-2 c =
    let a = c.args in
    record {
      meets = λ s w e.
          let p = located_name s w e (c.path_of.ensures ∙ ap path_of c.address_name-name.ensures) c.find.ensures c.in_ok-ok_or.ensures.ok_part in
          refused-out s 27 e
          (add-member s a.vpi a.vci c.if-vci-lt-FIRST_VCI.false p.holder (found_at p)
          (closed_name s w e c.address_name-name.ensures c.is_some.ensures c.find-2.ensures c.if-is_some.false)
          (member_name s w e c.address_name-name.ensures c.is_some-2.ensures c.find-3.ensures c.if-is_some-2.true));
    }

pub returns-then-not-has_room : goal.returns-then-not-has_room
returns-then-not-has_room c =
    let a = c.args in
    record {
      meets = λ s w e.
          let p = located_name s w e (c.path_of.ensures ∙ ap path_of c.address_name-name.ensures) c.find.ensures c.in_ok-ok_or.ensures.ok_part in
          refused-out s 26 e
          (add-full s a.vpi a.vci c.if-vci-lt-FIRST_VCI.false p.holder (found_at p)
          (closed_name s w e c.address_name-name.ensures c.is_some.ensures c.find-2.ensures c.if-is_some.false)
          (lone_name s w e c.address_name-name.ensures c.is_some-2.ensures c.find-3.ensures c.if-is_some-2.false) (sym (room-is s w e c.has_room.ensures) ∙ c.if-not-has_room.true));
    }

pub returns : goal.returns
returns c =
    let a = c.args in
    record {
      meets = λ s w e.
          let p = located_name s w e (c.path_of.ensures ∙ ap path_of c.address_name-name.ensures) c.find.ensures c.in_ok-ok_or.ensures.ok_part in
          let lone = (lone_name s w e c.address_name-name.ensures c.is_some-2.ensures c.find-3.ensures c.if-is_some-2.false) in
          let some = sym (room-is s w e c.has_room.ensures) ∙ c.if-not-has_room.false in
          let back = (address-named a.vpi a.vci (path-coded s w _ p)).vci_back in
          add-out s w e (omega (arith, c.if-vci-lt-FIRST_VCI.false, back)) lone (ltb-true _ _ some)
          (subst (λ (n : ℕ). Adds n a.t.now c.add.new.t) c.address_name-name.ensures c.add.ensures)
          (add_done s a.vpi a.vci c.if-vci-lt-FIRST_VCI.false p.holder (found_at p)
          (closed_name s w e c.address_name-name.ensures c.is_some.ensures c.find-2.ensures c.if-is_some.false) lone some);
    }
