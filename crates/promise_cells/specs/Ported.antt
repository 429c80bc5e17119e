-- A port that received cells pass on their way never raises an allowed rate. (Document 01, "The lists of
-- demand 3"; document 02, L10.)
use Rattle.std.specs.Prelude.{ℕ, List}
use Rattle.port.specs.Limit.{limit}
use Rattle.model.specs.State.{empty}
use Rattle.model.specs.Call.{Call, receiving}
use Rattle.model.specs.Run.{run}
use Rattle.promise_lists.specs.Demand3.{InPlace, SamePlace, Agree}

-- the same call; or a received cell, and what a port leaves of it that holds it to some rate
pub data Ported : Call → Call → Type 0 where
  same : {c : Call} → Ported c c
  held : (rate : ℕ) (o : List ℕ) → Ported (receiving o) (receiving (limit rate o).cell)

-- so of any list of calls and the same list behind ports, wherever their slots go to the same connections
abbrev pub PortsNeverRaise : Type 0
PortsNeverRaise =
    (xs ys : List Call) → InPlace Ported xs ys → InPlace SamePlace (run empty xs) (run empty ys) → InPlace Agree (run empty xs) (run empty ys)
