-- The in-rate cells that the engine sends on one connection, from its opening on, make a trace that passes the
-- judge. (Document 02, L11 and L13.)
use Rattle.std.specs.Prelude.{ℕ, ◌-◌, ◌≡◌, true, List, [], ◌∷◌}
use Rattle.rate_params.specs.declared.params.Params.{Params}
use Rattle.cell.specs.Name.{address_name}
use Rattle.connection_members.specs.Path.{path_vci}
use Rattle.trace_judge.specs.declared.cells.Cell.{Cell}
use Rattle.trace_judge.specs.Rules.{Passes, judged_cells}
use Rattle.trace_judge.specs.Octets.{judged_octets}
use Rattle.model.specs.State.{empty}
use Rattle.model.specs.Call.{Call, opening, opening_path}
use Rattle.model.specs.Step.{step}
use Rattle.model.specs.Run.{final, is_accepted}
use Rattle.promise_traces.specs.InRate.{SentCell, sent_from}
use Rattle.promise_traces.specs.Written.{trace_octets}

abbrev pub trace_cell : (since : ℕ) → SentCell → Cell
trace_cell since x = record { since = since; kind = x.kind; rate = x.rate }

-- the cells after one at the instant `last`
unfoldable pub later_cells : (last : ℕ) → List SentCell → List Cell
later_cells last [] = []
later_cells last (x ∷ xs) = trace_cell (x.time - last) x ∷ later_cells x.time xs

-- the cells of a trace: the first one's time is 0, each later one's counts from the one before
unfoldable pub trace_cells : List SentCell → List Cell
trace_cells [] = []
trace_cells (x ∷ xs) = trace_cell 0 x ∷ later_cells x.time xs

-- a call that opens the connection v with these parameters, a channel or a path
pub data Opening : Call → (v : ℕ) → Params → Type 0 where
  channel : (vpi vci t : ℕ) (p : Params) → Opening (opening vpi vci t p) (address_name vpi vci) p
  path : (vpi t : ℕ) (p : Params) → Opening (opening_path vpi t p) (address_name vpi path_vci) p

-- the cells sent on v, which the call c opens after the calls `before`, by the calls `after`
abbrev pub own_cells : (before : List Call) → (c : Call) → (v : ℕ) → (after : List Call) → List Cell
own_cells before c v after = trace_cells (sent_from v (step (final empty before) c).state after)

-- after any list of calls from the empty table, an accepted opening, and any further list of
-- calls: the cells break no rule
abbrev pub OwnCellsPass : Type 0
OwnCellsPass =
    (before : List Call) (c : Call) (v : ℕ) (p : Params) (after : List Call) → Opening c v p → is_accepted (step (final empty before) c).answer ≡ true
    → judged_cells p.n p.trm (own_cells before c v after) ≡ Passes

-- and so their octets pass
abbrev pub OwnTracePasses : Type 0
OwnTracePasses =
    (before : List Call) (c : Call) (v : ℕ) (p : Params) (after : List Call) → Opening c v p → is_accepted (step (final empty before) c).answer ≡ true
    → judged_octets (trace_octets p.n p.trm (own_cells before c v after)) ≡ Passes
