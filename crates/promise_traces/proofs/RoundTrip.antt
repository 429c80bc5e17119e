-- Until feedback the engine's own cells go at the initial rate used or below. They pass the judge, and
-- passing cells are gaps apart.
use Prim.Native.Nat.{ℕ}
use mathlib.Core.Path.{◌≡◌, subst}
use mathlib.Core.List.{List, [], ◌∷◌, ◌++◌}
use Rattle.rate_params.specs.Params.{initial_used}
use Rattle.rate_params.proofs.Ranges.{setup-fits}
use Rattle.trace_judge.specs.declared.cells.Cell.{Cell}
use Rattle.trace_judge.specs.Rules.{Passes, judged_cells}
use Rattle.trace_judge.specs.RoundTrip.{RatesUpTo}
use Rattle.trace_judge.proofs.RoundTrip.{round_trip}
use Rattle.promise_traces.specs.RoundTrip.{OwnTripBounded}
use Rattle.promise_traces.proofs.Passing.{opened-at, own-cells-pass}
use Rattle.promise_traces.proofs.Unraised.{own-rates}

rates-within : (a : ℕ) (earlier later rest : List Cell) → RatesUpTo a (earlier ++ (later ++ rest)) → RatesUpTo a later
rates-within a [] [] rest h = tt
rates-within a [] (x ∷ later) rest h = (h.0, rates-within a [] later rest h.1)
rates-within a (e ∷ earlier) later rest h = rates-within a earlier later rest h.1

pub own-round-trip : OwnTripBounded
own-round-trip before c v p after g a n earlier x later rest e =
    let o = opened-at before c v p g a in
    round_trip p.n p.trm earlier x later rest
    (subst (λ (cs : List Cell). judged_cells p.n p.trm cs ≡ Passes) e (own-cells-pass before c v p after g a)) p (setup-fits p o.tbe o.frtt).tbe_least
    (rates-within (initial_used p) earlier (x ∷ later) rest (subst (RatesUpTo (initial_used p)) e (own-rates before c v p after g a n))).1
