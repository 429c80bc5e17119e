use Prim.Native.Nat.{ℕ, ◌<◌}
use mathlib.Core.Path.{◌≡◌, sym, ap, subst, ◌∙◌}
use native.Mathlib.Omega.{arith}
use Rattle.connection.specs.declared.parts.Connection.{Connection}
use Rattle.connection.specs.Interval.{rested}
use Rattle.connection.specs.Destination.{with_made}
use Rattle.connection.specs.Range.{InRange}
use Rattle.connection.proofs.Ranged.{made-ranged}
use Rattle.model.specs.State.{State}
use Rattle.model.specs.Invariant.{WellFormed}
use Rattle.table.specs.Layout.{words}
use Rattle.table_store.specs.Updates.{Updates, DestinationMoved}
use Rattle.engine.specs.Timed.{TimedAt}
use Rattle.engine.proofs.Outcomes.{refused-with, refused-out, level-of, ranged, loaded-is}
use Rattle.engine.proofs.MakeCases.{make-timed, make-uncongested, make-soon, make-done, make-out}
use Rattle.engine.proofs.make.make.Goals as goal

pub returns-in_err-i : goal.returns-in_err-i
returns-in_err-i c =
    let a = c.args in
    record { meets = λ s w e. rw (refused-with c.from_residual.ensures.1) (refused-out s _ e (make-timed s a.name a.time ∙ c.in_err-i.ensures s w e _)) }

pub returns-then-level-eq0 : goal.returns-then-level-eq0
returns-then-level-eq0 c =
    let found : (s : State) → WellFormed s → c.args.t.now ≡ words s → TimedAt s c.args.name c.args.time c.in_ok-i.i = c.in_ok-i.ensures.found in
    let k = c in
    record { meets = λ s w e. refused-out s 16 e (make-uncongested s _ _ (found s w e) (omega (arith, level-of s w e, c.if-level-eq0.true))) }

pub load-c-requires : goal.load-c-requires
load-c-requires c = c.in_ok-i.ensures.inside

pub rested-requires : goal.rested-requires
rested-requires c =
    let in-range : InRange c.load-c.result = ranged c.args.t.now c.in_ok-i.i c.load-c.ensures in
    (in-range).made

pub returns-then-not-rested : goal.returns-then-not-rested
returns-then-not-rested c =
    let found : (s : State) → WellFormed s → c.args.t.now ≡ words s → TimedAt s c.args.name c.args.time c.in_ok-i.i = c.in_ok-i.ensures.found in
    let congested : (s : State) → WellFormed s → c.args.t.now ≡ words s → 0 < s.level = λ s w e. omega (arith, level-of s w e, c.if-level-eq0.false) in
    let loaded : (s : State) (w : WellFormed s) (e : c.args.t.now ≡ words s) → c.load-c.result ≡ (found s w e).located.holder = λ s w e. loaded-is s w (found s w e).located e c.in_ok-i.ensures.inside c.load-c.ensures in
    let rested-is : (s : State) (w : WellFormed s) (e : c.args.t.now ≡ words s) → rested c.args.time (found s w e).located.holder.destination.made.last ≡ c.rested.result = λ s w e. ap (λ (x : Connection). rested c.args.time x.destination.made.last) (sym (loaded s w e)) ∙ sym c.rested.ensures in
    let r = c in
    record { meets = λ s w e. refused-out s 17 e (make-soon s _ _ (found s w e) (congested s w e) (rested-is s w e ∙ c.if-not-rested.true)) }

pub update_destination-comparisons-requires : goal.update_destination-comparisons-requires
update_destination-comparisons-requires c =
    let in-range : InRange c.load-c.result = ranged c.args.t.now c.in_ok-i.i c.load-c.ensures in
    let ld = c in
    let k = ld in (
      k.in_ok-i.ensures.inside,
      subst InRange (sym c.with_made.ensures)
          (made-ranged ld.load-c.result (in-range) k.args.time _ (omega (arith, k.in_ok-i.ensures.timely))),
    )

pub returns : goal.returns
returns c =
    let found : (s : State) → WellFormed s → c.args.t.now ≡ words s → TimedAt s c.args.name c.args.time c.in_ok-i.i = c.in_ok-i.ensures.found in
    let congested : (s : State) → WellFormed s → c.args.t.now ≡ words s → 0 < s.level = λ s w e. omega (arith, level-of s w e, c.if-level-eq0.false) in
    let loaded : (s : State) (w : WellFormed s) (e : c.args.t.now ≡ words s) → c.load-c.result ≡ (found s w e).located.holder = λ s w e. loaded-is s w (found s w e).located e c.in_ok-i.ensures.inside c.load-c.ensures in
    let rested-is : (s : State) (w : WellFormed s) (e : c.args.t.now ≡ words s) → rested c.args.time (found s w e).located.holder.destination.made.last ≡ c.rested.result = λ s w e. ap (λ (x : Connection). rested c.args.time x.destination.made.last) (sym (loaded s w e)) ∙ sym c.rested.ensures in
    let made = c in
    let may = made in
    let ld = may in
    let k = ld in
    let a = k.args in
    record {
      meets = λ s w e.
          make-out s w e k.in_ok-i.ensures.inside (found s w e).located a.time
          (make-done s _ _ (found s w e) (congested s w e) (rested-is s w e ∙ may.if-not-rested.false))
          (subst (λ (x : Connection). Updates DestinationMoved a.t.now c.update_destination-comparisons.new.t k.in_ok-i.i x c.update_destination-comparisons.result)
          (made.with_made.ensures ∙ ap (λ (n : ℕ). with_made a.time n ld.load-c.result) (level-of s w e) ∙ ap (with_made a.time s.level) (loaded s w e))
          c.update_destination-comparisons.ensures);
    }
