use Prim.Native.Nat.{ℕ, ◌<◌}
use mathlib.Core.Path.{◌≡◌, sym, ap, subst, ◌∙◌}
use mathlib.Core.Bool.{false}
use native.Mathlib.Omega.{arith}
use Rattle.cell.specs.Name.{address_name}
use Rattle.cell.specs.Read.{DataCell}
use Rattle.connection_members.specs.Path.{is_path}
use Rattle.connection_members.specs.Members.{owner}
use Rattle.model.specs.State.{capacity}
use Rattle.table_names.specs.Finding.{FoundInRange, Names}
use Rattle.engine.proofs.Outcomes.{unfound}
use Rattle.engine.proofs.Members.{is-path, no-path}
use Rattle.engine_arrivals.specs.Owner.{FindsOwner}
use Rattle.engine_arrivals.proofs.ReceiveCases.{receive-refused, data-on-path, data-missing, data-done}
use Rattle.engine_arrivals.proofs.receive.receive_data.Goals as goal

pub returns-then-name-eq-PATH_VCI : goal.returns-then-name-eq-PATH_VCI
returns-then-name-eq-PATH_VCI c =
    let pn = c in
    let a = pn.args in
    record { meets = λ s w e. receive-refused (DataCell a.vpi a.vci a.efci) s 11 e (data-on-path s a.vpi a.vci a.efci (ap is_path (sym pn.address_name-name.ensures) ∙ is-path pn.address_name-name.result c.if-name-eq-PATH_VCI.true)) }

pub returns-in_err-i : goal.returns-in_err-i
returns-in_err-i c =
    let channel : is_path (address_name c.args.vpi c.args.vci) ≡ false = ap is_path (sym c.address_name-name.ensures) ∙ no-path c.address_name-name.result c.if-name-eq-PATH_VCI.false in
    let finds : let a = c.args in FindsOwner a.t.now (address_name a.vpi a.vci) c.find_owner.result = subst (λ (n : ℕ). FindsOwner c.args.t.now n c.find_owner.result) c.address_name-name.ensures c.find_owner.ensures in
    let f = c in
    let a = f.args in
    record {
      meets = λ s w e.
          rw (unfound c.from_residual.ensures.1 c.in_err-i.ensures.ok_part c.in_err-i.ensures.value)
          (receive-refused (DataCell a.vpi a.vci a.efci) s 11 e
          (data-missing s a.vpi a.vci a.efci (channel) (subst (Names (owner (address_name a.vpi a.vci) s.members) s.entries) c.in_err-i.ensures.ok_part ((finds).is s w e))));
    }

pub load-c-requires : goal.load-c-requires
load-c-requires c =
    let finds : let a = c.args in FindsOwner a.t.now (address_name a.vpi a.vci) c.find_owner.result = subst (λ (n : ℕ). FindsOwner c.args.t.now n c.find_owner.result) c.address_name-name.ensures c.find_owner.ensures in
    let entry : c.in_ok-i.i < capacity = subst FoundInRange c.in_ok-i.ensures.ok_part (finds).inside in
    entry

pub overflow_cast-leaf : goal.overflow_cast-leaf
overflow_cast-leaf c =
    let finds : let a = c.args in FindsOwner a.t.now (address_name a.vpi a.vci) c.find_owner.result = subst (λ (n : ℕ). FindsOwner c.args.t.now n c.find_owner.result) c.address_name-name.ensures c.find_owner.ensures in
    let entry : c.in_ok-i.i < capacity = subst FoundInRange c.in_ok-i.ensures.ok_part (finds).inside in
    omega (arith, entry)

pub levels_won-comparisons-requires : goal.levels_won-comparisons-requires
levels_won-comparisons-requires c =
    let finds : let a = c.args in FindsOwner a.t.now (address_name a.vpi a.vci) c.find_owner.result = subst (λ (n : ℕ). FindsOwner c.args.t.now n c.find_owner.result) c.address_name-name.ensures c.find_owner.ensures in
    let entry : c.in_ok-i.i < capacity = subst FoundInRange c.in_ok-i.ensures.ok_part (finds).inside in
    entry

pub update_efci-requires : goal.update_efci-requires
update_efci-requires c =
    let finds : let a = c.args in FindsOwner a.t.now (address_name a.vpi a.vci) c.find_owner.result = subst (λ (n : ℕ). FindsOwner c.args.t.now n c.find_owner.result) c.address_name-name.ensures c.find_owner.ensures in
    let entry : c.in_ok-i.i < capacity = subst FoundInRange c.in_ok-i.ensures.ok_part (finds).inside in
    entry

pub returns : goal.returns
returns c =
    let channel : is_path (address_name c.args.vpi c.args.vci) ≡ false = ap is_path (sym c.address_name-name.ensures) ∙ no-path c.address_name-name.result c.if-name-eq-PATH_VCI.false in
    let finds : let a = c.args in FindsOwner a.t.now (address_name a.vpi a.vci) c.find_owner.result = subst (λ (n : ℕ). FindsOwner c.args.t.now n c.find_owner.result) c.address_name-name.ensures c.find_owner.ensures in
    let entry : c.in_ok-i.i < capacity = subst FoundInRange c.in_ok-i.ensures.ok_part (finds).inside in
    let n = c in
    let o = n in
    let ld = o in
    let i = o in
    let f = i in
    let a = f.args in
    record {
      meets = λ s w e.
          data-done s w e a.vpi a.vci i.in_ok-i.i (entry) (subst (Names (owner (address_name a.vpi a.vci) s.members) s.entries) i.in_ok-i.ensures.ok_part ((finds).is s w e))
          ld.load-c.result ld.load-c.ensures o.after_data_cell-next.result (channel) c.update_efci.ensures n.levels_won-comparisons.ensures a.efci o.after_data_cell-next.ensures f.address_name-name.result f.address_name-name.ensures;
    }
