-- The verdict on one cell more, where the judge has seen the cells that a pace tells of.
use Prim.Native.Nat.{ℕ, ◌+◌, ◌-◌, ◌≤◌, ◌<◌}
use mathlib.Core.Path.{◌≡◌, refl, sym, ap, ◌∙◌}
use mathlib.Core.Bool.{Bool, true, false, ◌&&◌, ◌||◌}
use mathlib.Core.List.{List, [], ◌∷◌}
use native.Mathlib.Nat.{le_trans, sub_self}
use native.Mathlib.Omega.{arith}
use lib.Dec.{leb, eqb}
use borrow.Author.Tests.{leb-true, leb-false, le-leb, lt-leb, le-ltb, ne_eqb}
use Rattle.std.specs.Prelude.{None}
use Rattle.rate.specs.Gap.{gap}
use Rattle.rate_params.specs.Forward.{forward_due}
use Rattle.trace_judge.specs.declared.cells.Cell.{Cell}
use Rattle.trace_judge.specs.declared.rules.Sent.{Sent}
use Rattle.trace_judge.specs.Rules.{Passes, nothing_sent, with_sent, is_forward_cell, too_soon, broken_rule, judged_from}
use Rattle.connection.specs.declared.parts.Pace.{Pace}
use Rattle.connection.specs.declared.parts.Pace.TheVariants.{Unsent, Running}
use Rattle.promise_traces.specs.InRate.{SentCell}
use Rattle.promise_traces.specs.Traces.{trace_cell, later_cells, trace_cells}

-- One cell.
module _ (nr trm : ℕ) (h : Sent) (c : Cell) where
  judged-next : (cs : List Cell) → broken_rule nr trm h c ≡ None → judged_from nr trm h (c ∷ cs) ≡ judged_from nr trm (with_sent h c) cs
  unfolding judged_from
  judged-next cs e = rw e

  rule-none :
      0 < h.cells → too_soon c ≡ false → (b : Bool) → forward_due nr trm h.k h.forward (h.time + c.since) ≡ b → is_forward_cell c ≡ b → broken_rule nr trm h c ≡ None
  unfolding broken_rule
  rule-none l e true f g = rw (ne_eqb h.cells 0 (λ z. omega arith), e, f, g)
  rule-none l e false f g = rw (ne_eqb h.cells 0 (λ z. omega arith), e, f, g)

not-soon : (c : Cell) → 0 < c.rate → gap c.rate ≤ c.since → too_soon c ≡ false
unfolding too_soon
not-soon c h l = rw (ne_eqb c.rate 0 (λ z. omega arith), le-ltb c.since (gap c.rate) l)

with-forward : (h : Sent) (c : Cell) → is_forward_cell c ≡ true → with_sent h c ≡ record { cells = h.cells + 1; time = h.time + c.since; forward = h.time + c.since; k = 0 }
unfolding with_sent
with-forward h c e = rw e

with-other : (h : Sent) (c : Cell) → is_forward_cell c ≡ false → with_sent h c ≡ record { cells = h.cells + 1; time = h.time + c.since; forward = h.forward; k = h.k + 1 }
unfolding with_sent
with-other h c e = rw e

-- The judge counts from the first cell's instant.
module _ (began forward sent t : ℕ) (early : began ≤ forward) (old : forward ≤ sent) (new : sent ≤ t) where
  span : sent - began + (t - sent) ≡ t - began
  span = omega (arith, early, old, new)

  leb-same : (trm : ℕ) → leb (forward - began + trm) (sent - began + (t - sent)) ≡ leb (forward + trm) t
  leb-same trm = go (leb (forward + trm) t) refl
    where
      go : (b : Bool) → leb (forward + trm) t ≡ b → leb (forward - began + trm) (sent - began + (t - sent)) ≡ b
      go true e = le-leb (forward - began + trm) (sent - began + (t - sent)) (omega (arith, leb-true (forward + trm) t e, early, old, new))
      go false e = lt-leb (forward - began + trm) (sent - began + (t - sent)) (omega (arith, leb-false (forward + trm) t e, early, old, new))

  due-same : (nr trm k : ℕ) → forward_due nr trm k (forward - began) (sent - began + (t - sent)) ≡ forward_due nr trm k forward t
  due-same nr trm k = ap (λ (b : Bool). eqb k (nr - 1) || (leb 2 k && b)) (leb-same trm)

-- what the judge keeps after this many cells of a connection with this pace
abbrev pub seen : (cells began sent forward k : ℕ) → Sent
seen cells began sent forward k = record { cells = cells; time = sent - began; forward = forward - began; k = k }

-- What is still to come passes, after as many cells as there were.
abbrev pub Passing : (nr trm : ℕ) → Pace → List SentCell → Type 0
Passing nr trm Unsent xs = judged_from nr trm nothing_sent (trace_cells xs) ≡ Passes
Passing nr trm (Running sent forward k turned) xs =
    (cells began : ℕ) → 0 < cells → began ≤ forward → judged_from nr trm (seen cells began sent forward k) (later_cells sent xs) ≡ Passes

pub none_passes : (nr trm : ℕ) (p : Pace) → Passing nr trm p []
unfolding judged_from trace_cells later_cells
none_passes nr trm Unsent = refl
none_passes nr trm (Running sent forward k turned) = λ cells began up early. refl

-- the first cell
pub first_passes : (nr trm t rate : ℕ) (xs : List SentCell) → Passing nr trm (Running t t 0 false) xs → Passing nr trm Unsent (record { time = t; kind = 1; rate = rate } ∷ xs)
unfolding judged_from broken_rule with_sent trace_cells
first_passes nr trm t rate xs h =
    ap (λ (z : ℕ). judged_from nr trm (record { cells = 1; time = z; forward = z; k = 0 }) (later_cells t xs)) (sym (sub_self t)) ∙ h 1 t (omega arith) (omega arith)

-- a later cell
module _
    (nr trm sent forward k t rate : ℕ) (turned : Bool) (xs : List SentCell) (old : forward ≤ sent) (new : sent ≤ t) (some : 0 < rate) (slow : gap rate ≤ t - sent) where
  pub later-forward :
      forward_due nr trm k forward t ≡ true → Passing nr trm (Running t t 0 false) xs
      → Passing nr trm (Running sent forward k turned) (record { time = t; kind = 1; rate = rate } ∷ xs)
  unfolding later_cells
  later-forward e h cells began up early =
      let c : Cell = trace_cell (t - sent) (record { time = t; kind = 1; rate = rate }) in
      let s : Sent = seen cells began sent forward k in
      judged-next nr trm s c (later_cells t xs) (rule-none nr trm s c up (not-soon c some slow) true (due-same began forward sent t early old new nr trm k ∙ e) refl)
      ∙ ap (λ (z : Sent). judged_from nr trm z (later_cells t xs)) (with-forward s c refl)
      ∙ ap (λ (z : ℕ). judged_from nr trm (record { cells = cells + 1; time = z; forward = z; k = 0 }) (later_cells t xs)) (span began forward sent t early old new)
      ∙ h (cells + 1) began (omega arith) (le_trans early (le_trans old new))

  pub later-other :
      (x : ℕ) (turns : Bool) → eqb x 1 ≡ false → forward_due nr trm k forward t ≡ false → Passing nr trm (Running t forward (k + 1) turns) xs
      → Passing nr trm (Running sent forward k turned) (record { time = t; kind = x; rate = rate } ∷ xs)
  unfolding later_cells
  later-other x turns f e h cells began up early =
      let c : Cell = trace_cell (t - sent) (record { time = t; kind = x; rate = rate }) in
      let s : Sent = seen cells began sent forward k in
      judged-next nr trm s c (later_cells t xs) (rule-none nr trm s c up (not-soon c some slow) false (due-same began forward sent t early old new nr trm k ∙ e) f)
      ∙ ap (λ (z : Sent). judged_from nr trm z (later_cells t xs)) (with-other s c f)
      ∙ ap (λ (z : ℕ). judged_from nr trm (record { cells = cells + 1; time = z; forward = forward - began; k = k + 1 }) (later_cells t xs)) (span began forward sent t early old new)
      ∙ h (cells + 1) began (omega arith) early
