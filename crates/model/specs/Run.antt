-- Lists of calls on one table, and what can be told of a connection from the calls and answers alone.
-- (Document 01, "The lists of demand 3".)
use Rattle.std.specs.Prelude.{ℕ, Bool, true, false, cond, List, [], ◌∷◌, eqb}
use Rattle.std.proofs.Math.Option.{Option, none, some}
use Rattle.rate_params.specs.declared.params.Params.{Params}
use Rattle.model.specs.State.{State, Entry, free, taken, empty, find}
use Rattle.model.specs.Call.{Call, Answer, Refused, Accepted, Closed, Idle, Sent, Outcome}
use Rattle.model.specs.Aspects.{Sort, opener, closer, arrival, slot_at, another, sort_of}
use Rattle.model.specs.Step.{step}

-- the outcome of each call, in order
abbrev pub run : State → List Call → List Outcome
run s [] = []
run s (c ∷ cs) = step s c ∷ run (step s c).state cs

-- the table after all of them
abbrev pub final : State → List Call → State
final s [] = s
final s (c ∷ cs) = final (step s c).state cs

unfoldable pub is_accepted : Answer → Bool
is_accepted (Refused n) = false
is_accepted (Accepted n) = true
is_accepted (Closed n k) = true
is_accepted Idle = true
is_accepted (Sent v x k a n) = true

-- the parameters under which a name is open: an accepted open gives them, an accepted close takes them away
abbrev pub params_by : ℕ → Sort → Option Params → Option Params
params_by v (opener u t p) before = cond (eqb u v) (some p) before
params_by v (closer u) before = cond (eqb u v) none before
params_by v (arrival o) before = before
params_by v (slot_at t) before = before
params_by v another before = before

unfoldable pub params_after : ℕ → Call → (accepted : Bool) → Option Params → Option Params
params_after v c a before = cond a (params_by v (sort_of c) before) before

abbrev pub given_from : ℕ → State → Option Params → List Call → Option Params
given_from v s before [] = before
given_from v s before (c ∷ cs) = given_from v (step s c).state (params_after v c (is_accepted (step s c).answer) before) cs

-- the parameters that the open of a name gave, after a list of calls from the empty table; none if the name is not open
abbrev pub params_given : ℕ → List Call → Option Params
params_given v cs = given_from v empty none cs

-- the allowed rate of the connection in an entry
unfoldable pub entry_rate : Entry → Option ℕ
entry_rate free = none
entry_rate (taken c) = some c.rate.acr

-- the allowed rate of a name, if it is open
abbrev pub allowed : ℕ → State → Option ℕ
allowed v s = entry_rate (find v s.entries)
