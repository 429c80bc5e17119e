-- How far behind its own time a slot is passed, where each connection's rate has one cap over the turns and the
-- caps of what is open fit the link. It is at most a slot for each connection that is open and for each open. So
-- with that lag, or a longer one, the lag never decides.
use Rattle.std.specs.Prelude.{ℕ, ◌+◌, ◌-◌, ◌*◌, ◌≤◌, List, [], ◌∷◌}
use Rattle.model.specs.State.{State, empty}
use Rattle.model.specs.Call.{Call}
use Rattle.model.specs.Run.{final}
use Rattle.promise_delivery.specs.Calls.{total, is_open}
use Rattle.promise_delivery.specs.Turns.{Turn, slot_of, TurnFits, AllOnTime, opens_in}

abbrev pub TurnsFit : (vs : List ℕ) (r : ℕ → ℕ) (S lag m : ℕ) → State → List Turn → Type 0
TurnsFit vs r S lag m s [] = Unit
TurnsFit vs r S lag m s (x ∷ xs) = TurnFits vs r S S m s x × TurnsFit vs r S lag x.now (slot_of lag s x).state xs

-- and what the clock was ahead before: the slot before was at m, which is the last accepted time if nothing is overdue
abbrev pub behind_at : (vs : List ℕ) (S m : ℕ) → State → List Turn → ℕ
behind_at vs S m s xs = (m - s.last) + total (λ v. is_open s v + opens_in v xs) vs * S

-- after any list of calls from the empty table
abbrev pub LagBounded : Type 0
LagBounded =
    (cs : List Call) (vs : List ℕ) (r : ℕ → ℕ) (S lag m : ℕ) (xs : List Turn) → let s = final empty cs in
    behind_at vs S m s xs ≤ lag → TurnsFit vs r S lag m s xs → AllOnTime (behind_at vs S m s xs) lag s xs
