-- Before feedback the allowed rate is at most the initial rate used. A connection starts at it (`opens` and
-- `opens_path` of Changes.antt), and only its own backward cells raise the rate above it. (Document 02, L14.)
use Rattle.std.specs.Prelude.{ℕ, ◌≤◌, ◌≡◌, List}
use Rattle.rate_params.specs.Params.{initial_used}
use Rattle.connection.specs.declared.parts.Connection.{Connection}
use Rattle.model.specs.State.{taken, empty, find}
use Rattle.model.specs.Call.{Call}
use Rattle.model.specs.Step.{step}
use Rattle.model.specs.Run.{final}
use Rattle.promise_cells.specs.Changes.{NotFedBack}

-- after any list of calls from the empty table, of a connection that is open before and after the next call
abbrev pub BeforeFeedback : Type 0
BeforeFeedback =
    (cs : List Call) (c : Call) (v : ℕ) (d e : Connection) → find v (final empty cs).entries ≡ taken d → find v (step (final empty cs) c).state.entries ≡ taken e
    → NotFedBack v c → d.rate.acr ≤ initial_used d.rate.params → e.rate.acr ≤ initial_used e.rate.params
