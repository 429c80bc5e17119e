-- Cells that are not too soon are gaps apart, and so TBE of them take a round trip.
use Prim.Native.Nat.{ℕ, ◌+◌, ◌*◌, ◌≤◌, ◌<◌}
use mathlib.Core.Path.{◌≡◌, refl}
use mathlib.Core.Bool.{Bool, true, false, cond}
use mathlib.Core.List.{List, [], ◌∷◌, ◌++◌}
use mathlib.Mathlib.Data.Bool.Basic.{or-eq-false-eq-eq-false-and-eq-false}
use native.Mathlib.Nat.{le_trans, suc-mul}
use native.Mathlib.Omega.{arith}
use lib.Dec.{ltb, eqb}
use lib.ListN.{length}
use borrow.Author.Tests.{eqb-false, ne_eqb, ltb-false}
use Rattle.std.specs.Prelude.{Option, Some, None}
use Rattle.rate.specs.Gap.{gap}
use Rattle.rate.proofs.Gaps.{gap-antitone}
use Rattle.rate_params.specs.declared.params.Params.{Params}
use Rattle.rate_params.specs.Params.{initial_used}
use Rattle.rate_params.specs.Forward.{forward_due}
use Rattle.rate_params.specs.Setup.{cells_allowed}
use Rattle.rate_params.proofs.Setup.{initial-rate}
use Rattle.trace_judge.specs.Rules.{Cell, Sent, Rule, FirstForward, Spacing, ForwardDue, Verdict, Passes, broken_or, nothing_sent, is_forward_cell, with_sent, too_soon, broken_rule, judged_from}
use Rattle.trace_judge.specs.RoundTrip.{span, RatesUpTo, TripBounded}

-- One cell that passes.
record Slow (c : Cell) : Type 0 where
  pub some : 0 < c.rate
  pub slow : gap c.rate ≤ c.since

not-soon : (c : Cell) → too_soon c ≡ false → Slow c
unfolding too_soon
not-soon c e =
    let h = (or-eq-false-eq-eq-false-and-eq-false (eqb c.rate 0) (ltb c.since (gap c.rate))).0 e in
    let n = eqb-false c.rate 0 h.0 in
    record { some = omega (arith, n); slow = ltb-false c.since (gap c.rate) h.1 }

module _ (nr trm : ℕ) (h : Sent) (c : Cell) where
  slow-cell : 0 < h.cells → broken_rule nr trm h c ≡ None → Slow c
  unfolding broken_rule
  slow-cell l e = not-soon c (go (eqb h.cells 0) (too_soon c) (ne_eqb h.cells 0 (λ z. omega arith)) e)
    where
      first : Option Rule
      first = cond (is_forward_cell c) None (Some FirstForward)

      rest : Option Rule
      rest = cond (forward_due nr trm h.k h.forward (h.time + c.since)) (cond (is_forward_cell c) None (Some ForwardDue)) (cond (is_forward_cell c) (Some ForwardDue) None)

      go : (z b : Bool) → z ≡ false → cond z first (cond b (Some Spacing) rest) ≡ None → b ≡ false
      go true b q e = absurd cc
      go false true q e = absurd cc
      go false false q e = refl

  passed : (cs : List Cell) → judged_from nr trm h (c ∷ cs) ≡ Passes → (broken_rule nr trm h c ≡ None) × (judged_from nr trm (with_sent h c) cs ≡ Passes)
  unfolding judged_from
  passed cs e = go (broken_rule nr trm h c) (judged_from nr trm (with_sent h c) cs) e
    where
      go : (b : Option Rule) (v : Verdict) → broken_or (h.cells + 1) b v ≡ Passes → (b ≡ None) × (v ≡ Passes)
      go None v e = (refl, e)
      go (Some r) v e = absurd cc

  some-sent : 0 < (with_sent h c).cells
  unfolding with_sent
  some-sent = go (is_forward_cell c)
    where
      go : (b : Bool)
          → 0 < (cond {A = Sent} b (record { cells = h.cells + 1; time = h.time + c.since; forward = h.time + c.since; k = 0 }) (record { cells = h.cells + 1; time = h.time + c.since; forward = h.forward; k = h.k + 1 })).cells
      go true = omega arith
      go false = omega arith

-- The cells after the first, whatever comes behind them.
spaced :
    (nr trm a : ℕ) (h : Sent) (cs rest : List Cell) → 0 < h.cells → judged_from nr trm h (cs ++ rest) ≡ Passes → RatesUpTo a cs → length cs * gap a ≤ span cs
unfolding span
spaced nr trm a h [] rest l e r = omega arith
spaced nr trm a h (c ∷ cs) rest l e r =
    let p = passed nr trm h c (cs ++ rest) e in
    let s = slow-cell nr trm h c l p.0 in
    omega (arith, suc-mul (length cs) (gap a), gap-antitone s.some r.0, s.slow, spaced nr trm a (with_sent h c) cs rest (some-sent nr trm h c) p.1 r.1)

-- the first of them was sent at a rate above 0
few :
    (nr trm : ℕ) (h : Sent) (cs rest : List Cell) → 0 < h.cells → judged_from nr trm h (cs ++ rest) ≡ Passes
    → (p : Params) → 1 ≤ p.tbe → RatesUpTo (initial_used p) cs → span cs < 1000 * p.frtt → length cs < cells_allowed p
few nr trm h [] rest l e p t r s = omega (arith, t)
few nr trm h (c ∷ cs) rest l e p t r s =
    let some = le_trans (slow-cell nr trm h c l (passed nr trm h c (cs ++ rest) e).0).some r.0 in
    initial-rate.gaps p (length (c ∷ cs)) some (omega (arith, spaced nr trm (initial_used p) h (c ∷ cs) rest l e r))

-- Behind the cells before.
from-any :
    (nr trm : ℕ) (h : Sent) (before : List Cell) (c : Cell) (later rest : List Cell) → judged_from nr trm h (before ++ (c ∷ (later ++ rest))) ≡ Passes
    → (p : Params) → 1 ≤ p.tbe → RatesUpTo (initial_used p) later → span later < 1000 * p.frtt → length later < cells_allowed p
from-any nr trm h [] c later rest e = few nr trm (with_sent h c) later rest (some-sent nr trm h c) (passed nr trm h c (later ++ rest) e).1
from-any nr trm h (b ∷ before) c later rest e = from-any nr trm (with_sent h b) before c later rest (passed nr trm h b (before ++ (c ∷ (later ++ rest))) e).1

pub round_trip : TripBounded
round_trip n trm before c later rest e = from-any _ _ nothing_sent before c later rest e
