-- A refusal leaves table and buffer as they were. Its number is never 0, which says that a call was accepted.
-- (Document 01, "Refused because of the state".)
use Rattle.std.specs.Prelude.{ℕ, ◌<◌, ◌≡◌, List}
use Rattle.std.proofs.Math.Option.{some}
use Rattle.connection.specs.Slot.{untouched}
use Rattle.model.specs.State.{State, empty}
use Rattle.model.specs.Call.{Call, Outcome, refusal}
use Rattle.model.specs.Step.{step}
use Rattle.model.specs.Run.{final}

pub record Unchanged (s : State) (n : ℕ) (o : Outcome) : Type 0 where
  pub table : o.state ≡ s
  pub buffer : o.buffer ≡ untouched
  pub number : 0 < n

-- after any list of calls from the empty table
abbrev pub RefusedUnchanged : Type 0
RefusedUnchanged =
    (cs : List Call) (c : Call) (n : ℕ) → refusal (step (final empty cs) c).answer ≡ some n → Unchanged (final empty cs) n (step (final empty cs) c)
