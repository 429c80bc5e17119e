use Prim.Native.Nat.{ℕ, ◌≤◌, ◌<◌}
use mathlib.Core.Path.{◌≡◌, sym, ap, subst, ◌∙◌}
use native.Mathlib.Omega.{arith}
use borrow.Author.Rules.{rules}
use lib.ListN.{length}
use Rattle.model.specs.State.{State}
use Rattle.table.specs.Layout.{words}
use Rattle.table.proofs.Words.{last-at}
use Rattle.engine_slots.proofs.SlotCases.{slot-refused, slot-short, slot-late, slot-early, idle-leaves, send-leaves, entry-below}
use Rattle.engine_slots.proofs.slot.slot.Goals as goal

pub returns-in_default : goal.returns-in_default
returns-in_default c =
    let st = c in
    record { meets = λ s w e. slot-refused st.args.t.now st.args.cell.now _ s 1 e (slot-short s st.args.time (length st.args.cell.now) c.in_default.ensures.cases) }

pub returns-then-time-gt-LATEST_TIME : goal.returns-then-time-gt-LATEST_TIME
returns-then-time-gt-LATEST_TIME c =
    let fits : length c.in-Some.cell.now ≡ 53 = ap length c.in-Some.ensures.cases.same ∙ c.in-Some.ensures.cases.long in
    let e1 = c in
    let st = e1 in
    record { meets = λ s w e. rw (sym c.in-Some.ensures.cases.same) (slot-refused st.args.t.now c.in-Some.cell.now _ s 8 e (slot-late s st.args.time (length c.in-Some.cell.now) (fits) c.if-time-gt-LATEST_TIME.true)) }

pub returns-then-time-t : goal.returns-then-time-t
returns-then-time-t c =
    let fits : length c.in-Some.cell.now ≡ 53 = ap length c.in-Some.ensures.cases.same ∙ c.in-Some.ensures.cases.long in
    let e2 = c in
    let a = e2.args in
    record {
      meets = λ s w e.
          rw (sym c.in-Some.ensures.cases.same)
          (slot-refused a.t.now c.in-Some.cell.now _ s 14 e
          (slot-early s a.time (length c.in-Some.cell.now) (fits) e2.if-time-gt-LATEST_TIME.false (subst (λ (x : ℕ). a.time < x) (last-at s e) c.if-time-t.true)));
    }

pub send-requires : goal.send-requires
send-requires c =
    let i = c in
    let ch = i in
    (entry-below ch.slot_winner-found.result i.in-Some-found.i ch.slot_winner-found.ensures.inside i.in-Some-found.is, search rules)

pub returns-in-None : goal.returns-in-None
returns-in-None c =
    let fits : length c.in-Some.cell.now ≡ 53 = ap length c.in-Some.ensures.cases.same ∙ c.in-Some.ensures.cases.long in
    let later : (s : State) → c.args.t.now ≡ words s → s.last ≤ c.args.time = λ s e. subst (λ (x : ℕ). x ≤ c.args.time) (last-at s e) c.if-time-t.false in
    let ch = c in
    let e2 = ch in
    let a = e2.args in
    record {
      meets = λ s w e.
          rw (sym c.in-Some.ensures.cases.same)
          (idle-leaves s w a.t.now e a.time (length c.in-Some.cell.now) (fits) e2.if-time-gt-LATEST_TIME.false (later s e) ch.slot_winner-found.result ch.slot_winner-found.ensures.picks c.in-Some.cell.now c.in-None.is);
    }

pub returns-in-Some-found : goal.returns-in-Some-found
returns-in-Some-found c =
    let fits : length c.in-Some.cell.now ≡ 53 = ap length c.in-Some.ensures.cases.same ∙ c.in-Some.ensures.cases.long in
    let later : (s : State) → c.args.t.now ≡ words s → s.last ≤ c.args.time = λ s e. subst (λ (x : ℕ). x ≤ c.args.time) (last-at s e) c.if-time-t.false in
    let sd = c in
    let i = sd in
    let ch = i in
    let e2 = ch in
    let a = e2.args in
    record {
      meets = λ s w e.
          rw (sym c.in-Some.ensures.cases.same)
          (send-leaves s w a.t.now e a.time (length c.in-Some.cell.now) (fits) e2.if-time-gt-LATEST_TIME.false (later s e) ch.slot_winner-found.result ch.slot_winner-found.ensures.picks i.in-Some-found.i i.in-Some-found.is
          _ _ c.in-Some.cell.now _ sd.send.ensures);
    }
