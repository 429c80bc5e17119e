-- The engine's own cells before feedback. From the opening of a connection until its first backward cell comes, at
-- most TBE of its in-rate cells go in less than a round trip, unless the minimum by itself allows more. With FRTT
-- 0, as in the house set, this says nothing. (Document 02, L14.)
use Rattle.std.specs.Prelude.{ℕ, ◌*◌, ◌≤◌, ◌<◌, ◌≡◌, true, List, ◌∷◌, ◌++◌, length}
use Rattle.rate_params.specs.declared.params.Params.{Params}
use Rattle.rate_params.specs.Setup.{cells_allowed}
use Rattle.trace_judge.specs.declared.cells.Cell.{Cell}
use Rattle.trace_judge.specs.RoundTrip.{span}
use Rattle.model.specs.State.{empty}
use Rattle.model.specs.Call.{Call}
use Rattle.model.specs.Step.{step}
use Rattle.model.specs.Run.{final, is_accepted}
use Rattle.laws.specs.All.{All}
use Rattle.promise_cells.specs.Changes.{NotFedBack}
use Rattle.promise_traces.specs.Traces.{Opening, own_cells}

-- After any list of calls from the empty table an opening of a channel or a path is accepted. Then come any
-- calls, none of them a backward cell of that connection. Take any of its cells in a row, the last less than
-- a round trip after the first.
abbrev pub OwnTripBounded : Type 0
OwnTripBounded =
    (before : List Call) (c : Call) (v : ℕ) (p : Params) (after : List Call) → Opening c v p → is_accepted (step (final empty before) c).answer ≡ true
    → All (NotFedBack v) after → (earlier : List Cell) (x : Cell) (later rest : List Cell) → own_cells before c v after ≡ earlier ++ (x ∷ (later ++ rest))
    → span later < 1000 * p.frtt → length (x ∷ later) ≤ cells_allowed p
