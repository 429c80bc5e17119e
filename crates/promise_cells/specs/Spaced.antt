-- On one connection two made cells lie 100 ms or more apart, and so do two out-of-rate cells. (Document 02, L1 and L5.)
use Rattle.std.specs.Prelude.{ℕ, ◌+◌, ◌≤◌, ◌≡◌, ◌≢◌, true, List}
use Rattle.model.specs.State.{empty}
use Rattle.model.specs.Call.{Call, closing, making}
use Rattle.model.specs.Step.{step}
use Rattle.model.specs.Run.{final, is_accepted}
use Rattle.laws.specs.All.{All}

-- After any list of calls cs from the empty table one call is accepted, at t. After any calls ds that do not close
-- this pair another is accepted, at the later time.
abbrev pub Apart : (cs ds : List Call) (vpi vci : ℕ) (one two : Call) (t later : ℕ) → Type 0
Apart cs ds vpi vci one two t later =
    All (λ c. c ≢ closing vpi vci) ds
    → let o = step (final empty cs) one in
    is_accepted o.answer ≡ true → is_accepted (step (final o.state ds) two).answer ≡ true → t + 100_000_000 ≤ later

-- At most ten made cells a second on a connection.
abbrev pub MakingsSpaced : Type 0
MakingsSpaced = (cs ds : List Call) (vpi vci t later : ℕ) → Apart cs ds vpi vci (making vpi vci t) (making vpi vci later) t later
