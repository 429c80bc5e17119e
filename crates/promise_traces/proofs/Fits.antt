-- The numbers of the engine's own cells are in range; so the octets of its trace pass.
use Prim.Native.Nat.{ℕ, ◌-◌, ◌≤◌}
use mathlib.Core.Path.{subst, ◌∙◌}
use mathlib.Core.Bool.{true, false}
use mathlib.Core.List.{List, [], ◌∷◌}
use native.Mathlib.Nat.{le_refl, le_trans}
use native.Mathlib.Omega.{arith}
use Rattle.rate.specs.Units.{largest_rate, latest_time}
use Rattle.rate.proofs.Codes.{rate-le}
use Rattle.rate_params.proofs.Ranges.{fits}
use Rattle.trace_judge.specs.Octets.{most_since}
use Rattle.connection.specs.declared.kind.Kind.{Kind}
use Rattle.connection.specs.declared.kind.Kind.TheVariants.{Forward, Turned, Data}
use Rattle.connection.specs.Parts.{fresh}
use Rattle.connection.specs.Kind.{kind_number, kind_at}
use Rattle.model.specs.State.{State, empty}
use Rattle.model.specs.Step.{step}
use Rattle.model.specs.Run.{final}
use Rattle.model.proofs.Reached.{step-well-formed, reached-well-formed}
use Rattle.promise_traces.specs.InRate.{SentCell, sent_from}
use Rattle.promise_traces.specs.Written.{CellsFit}
use Rattle.promise_traces.specs.Traces.{later_cells, trace_cells, own_cells, OwnTracePasses}
use Rattle.promise_traces.proofs.Walk.{CellByCell, each-cell}
use Rattle.promise_traces.proofs.Passing.{opened-at, own-cells-pass}
use Rattle.promise_traces.proofs.Reread.{written-is-judged}

-- no cell before the one before it, none after the latest time, no other kind, and no rate above the largest
abbrev SentFit : (last : ℕ) → List SentCell → Type 0
SentFit last [] = Unit {0}
SentFit last (x ∷ xs) = (last ≤ x.time) × (x.time ≤ latest_time) × ((1 ≤ x.kind) × (x.kind ≤ 3)) × (x.rate ≤ largest_rate) × SentFit x.time xs

fit-earlier : (a b : ℕ) → a ≤ b → (xs : List SentCell) → SentFit b xs → SentFit a xs
fit-earlier a b h [] f = tt
fit-earlier a b h (x ∷ xs) f = (le_trans h f.0, f.1, f.2, f.3, f.4)

kind-range : (k : Kind) → (1 ≤ kind_number k) × (kind_number k ≤ 3)
kind-range Forward = (omega arith, omega arith)
kind-range Turned = (omega arith, omega arith)
kind-range Data = (omega arith, omega arith)

-- the times after the first cell's come to what has passed since it began
later-fit : (began last : ℕ) (xs : List SentCell) → began ≤ last → SentFit last xs → CellsFit false (last - began) (later_cells last xs)
unfolding later_cells most_since
later-fit began last [] h f = tt
later-fit began last (x ∷ xs) h f = (
  omega (arith, f.0, f.1, h),
  f.2,
  f.3,
  subst (λ (z : ℕ). CellsFit false z (later_cells x.time xs)) (omega (arith, f.0, h)) (later-fit began x.time xs (le_trans h f.0) f.4),
)

cells_fit : (last : ℕ) (xs : List SentCell) → SentFit last xs → CellsFit true 0 (trace_cells xs)
unfolding trace_cells most_since
cells_fit last [] f = tt
cells_fit last (x ∷ xs) f = (
  le_refl 0,
  f.2,
  f.3,
  subst (λ (z : ℕ). CellsFit false z (later_cells x.time xs)) (omega arith) (later-fit x.time x.time xs (le_refl x.time) f.4),
)

fitting : CellByCell (λ now d xs. SentFit now xs)
fitting = record {
  none = λ now d. tt;
  waits = λ now later d e xs l y f. fit-earlier now later l xs f;
  sends = λ now t i d xs k l m r due f. (l, m, kind-range (kind_at t d), le_trans k.1.rates.below (rate-le d.rate.params.pcr), f);
}

pub own-trace-passes : OwnTracePasses
own-trace-passes before c v p after g a =
    let s : State = (step (final empty before) c).state in
    let o = opened-at before c v p g a in
    let r = fits p o.fits in
    let w = step-well-formed (reached-well-formed before) c in
    written-is-judged p.n p.trm (own_cells before c v after) r.n_least r.n_most r.trm_most
    (cells_fit s.last (sent_from v s after) (each-cell fitting v after s w (fresh v o.time p) o.found))
    ∙ own-cells-pass before c v p after g a
