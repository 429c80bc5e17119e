use Prim.Native.Nat.{◌<◌}
use mathlib.Core.Path.{◌≡◌, sym, ap, subst, ◌∙◌}
use native.Mathlib.Omega.{arith}
use borrow.Author.Rules.{rules}
use lib.ListN.{length}
use Rattle.cell.specs.Name.{no_name}
use Rattle.connection.specs.declared.parts.Connection.{Connection}
use Rattle.connection.specs.Interval.{rested}
use Rattle.connection.specs.Source.{after_out_of_rate}
use Rattle.connection.specs.Range.{InRange}
use Rattle.connection.proofs.Ranged.{out-of-rate-ranged}
use Rattle.model.specs.State.{State}
use Rattle.model.specs.Invariant.{WellFormed}
use Rattle.table.specs.Layout.{words}
use Rattle.table.specs.Storing.{out_of_rate_updated}
use Rattle.table.proofs.Loaded.{load-named}
use Rattle.engine_slots.specs.Slots.{ForwardIn}
use Rattle.engine.specs.Timed.{TimedAt}
use Rattle.engine.proofs.Outcomes.{refused-with, ranged, loaded-is}
use Rattle.engine_slots.proofs.SlotCases.{refused-leaves}
use Rattle.engine_slots.proofs.OutOfRateCases.{out-of-rate-short, out-of-rate-timed, out-of-rate-soon, out-of-rate-done, out-of-rate-out}
use Rattle.engine_slots.proofs.out_of_rate.out_of_rate.Goals.{After-load-c}
use Rattle.engine_slots.proofs.out_of_rate.out_of_rate.Goals as goal

in-range : (c : After-load-c) → InRange c.load-c.result
in-range c = ranged c.args.t.now c.in_ok-i.i c.load-c.ensures

pub returns-in_default : goal.returns-in_default
returns-in_default c =
    let a = c.args in
    record { meets = λ s w e. refused-leaves a.t.now a.cell.now _ s 1 e (out-of-rate-short s a.name a.time (length a.cell.now) c.in_default.ensures.cases) }

pub returns-in_err-i : goal.returns-in_err-i
returns-in_err-i c =
    let fits : length c.in-Some.cell.now ≡ 53 = ap length c.in-Some.ensures.cases.same ∙ c.in-Some.ensures.cases.long in
    let a = c.args in
    record {
      meets = λ s w e.
          rw (sym c.in-Some.ensures.cases.same)
          (rw (refused-with c.from_residual.ensures.1)
          (refused-leaves a.t.now c.in-Some.cell.now _ s _ e (out-of-rate-timed s a.name a.time (length c.in-Some.cell.now) fits ∙ c.in_err-i.ensures s w e _)));
    }

pub load-c-requires : goal.load-c-requires
load-c-requires c = c.in_ok-i.ensures.inside

pub rested-requires : goal.rested-requires
rested-requires c = (in-range c).out_of_rate

pub returns-then-not-rested : goal.returns-then-not-rested
returns-then-not-rested c =
    let fits : length c.in-Some.cell.now ≡ 53 = ap length c.in-Some.ensures.cases.same ∙ c.in-Some.ensures.cases.long in
    let fits-there : length c.in-Some.cell.now ≡ 53 = fits in
    let found : (s : State) → WellFormed s → c.args.t.now ≡ words s → TimedAt s c.args.name c.args.time c.in_ok-i.i = c.in_ok-i.ensures.found in
    let loaded : (s : State) (w : WellFormed s) (e : c.args.t.now ≡ words s) → c.load-c.result ≡ (found s w e).located.holder = λ s w e. loaded-is s w (found s w e).located e c.in_ok-i.ensures.inside c.load-c.ensures in
    let rested-is : let ld = c in (s : State) (w : WellFormed s) (e : ld.args.t.now ≡ words s) → rested ld.args.time (found s w e).located.holder.out_of_rate ≡ c.rested.result = λ s w e. ap (λ (x : Connection). rested c.args.time x.out_of_rate) (sym (loaded s w e)) ∙ sym c.rested.ensures in
    let r = c in
    let k = r in
    let a = k.args in
    record {
      meets = λ s w e.
          rw (sym c.in-Some.ensures.cases.same)
          (refused-leaves a.t.now c.in-Some.cell.now _ s 18 e
          (out-of-rate-soon s a.name a.time (length c.in-Some.cell.now) (fits-there) (found s w e) (rested-is s w e ∙ c.if-not-rested.true)));
    }

pub put_forward-requires : goal.put_forward-requires
put_forward-requires c =
    let ld = c in
    let k = ld in
    (omega arith, subst (λ (x : Connection). x.name < no_name) (sym ld.load-c.ensures) (load-named k.args.t.now k.in_ok-i.i))

pub update_out_of_rate-requires : goal.update_out_of_rate-requires
update_out_of_rate-requires c =
    let in-range : InRange c.load-c.result = ranged c.args.t.now c.in_ok-i.i c.load-c.ensures in
    let after = c in
    let ld = after in
    let k = ld in (
      k.in_ok-i.ensures.inside,
      (subst InRange (sym after.after_out_of_rate-next.ensures)
          (out-of-rate-ranged ld.load-c.result (in-range) k.args.time (omega (arith, k.in_ok-i.ensures.timely)))).out_of_rate,
    )

pub returns : goal.returns
returns c =
    let fits : length c.in-Some.cell.now ≡ 53 = ap length c.in-Some.ensures.cases.same ∙ c.in-Some.ensures.cases.long in
    let fits-there : length c.in-Some.cell.now ≡ 53 = fits in
    let found : (s : State) → WellFormed s → c.args.t.now ≡ words s → TimedAt s c.args.name c.args.time c.in_ok-i.i = c.in_ok-i.ensures.found in
    let loaded : (s : State) (w : WellFormed s) (e : c.args.t.now ≡ words s) → c.load-c.result ≡ (found s w e).located.holder = λ s w e. loaded-is s w (found s w e).located e c.in_ok-i.ensures.inside c.load-c.ensures in
    let rested-is : let ld = c in (s : State) (w : WellFormed s) (e : ld.args.t.now ≡ words s) → rested ld.args.time (found s w e).located.holder.out_of_rate ≡ c.rested.result = λ s w e. ap (λ (x : Connection). rested c.args.time x.out_of_rate) (sym (loaded s w e)) ∙ sym c.rested.ensures in
    let after = c in
    let put = after in
    let e3 = put in
    let ld = after in
    let k = ld in
    let a = k.args in
    record {
      meets = λ s w e.
          rw (sym c.in-Some.ensures.cases.same)
          (let is = loaded s w e in
          out-of-rate-out s w e k.in_ok-i.ensures.inside (found s w e).located a.time (length c.in-Some.cell.now)
          (out-of-rate-done s a.name a.time (length c.in-Some.cell.now) (fits-there) (found s w e) (rested-is s w e ∙ e3.if-not-rested.false))
          (c.update_out_of_rate.ensures
          ∙ ap (λ (x : Connection). out_of_rate_updated a.t.now k.in_ok-i.i x.out_of_rate) (after.after_out_of_rate-next.ensures ∙ ap (after_out_of_rate a.time) is))
          c.in-Some.cell.now _ (subst (λ (x : Connection). ForwardIn 1 x.name x.rate put.put_forward.new.cell) is put.put_forward.ensures));
    }
