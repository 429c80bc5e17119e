-- What a passing trace says of a source before feedback. At rates up to the initial rate used, no more cells go in
-- a round trip than TBE, or than the minimum allows. (Document 02, L14.)
use Rattle.std.specs.Prelude.{ℕ, ◌+◌, ◌*◌, ◌≤◌, ◌<◌, ◌≡◌, List, [], ◌∷◌, ◌++◌, length}
use Rattle.rate_params.specs.declared.params.Params.{Params}
use Rattle.rate_params.specs.Params.{initial_used}
use Rattle.rate_params.specs.Setup.{cells_allowed}
use Rattle.trace_judge.specs.Rules.{Cell, Passes, judged_cells}

-- the nanoseconds that these cells take after the one before them
unfoldable pub span : List Cell → ℕ
span [] = 0
span (c ∷ cs) = c.since + span cs

-- each was sent at this rate or a lower one
abbrev pub RatesUpTo : ℕ → List Cell → Type 0
RatesUpTo a [] = Unit {0}
RatesUpTo a (c ∷ cs) = (c.rate ≤ a) × RatesUpTo a cs

-- Any cells in a row, the last less than a round trip after the first. FRTT counts microseconds. Where it is 0, as
-- in the house set, this says nothing.
abbrev pub TripBounded : Type 0
TripBounded =
    (n trm : ℕ) (before : List Cell) (c : Cell) (later rest : List Cell) → judged_cells n trm (before ++ (c ∷ (later ++ rest))) ≡ Passes
    → (p : Params) → 1 ≤ p.tbe → RatesUpTo (initial_used p) later → span later < 1000 * p.frtt → length (c ∷ later) ≤ cells_allowed p
