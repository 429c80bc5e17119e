-- Idle slots can be left out. Calls after one, with no time before its own, are answered as without it. Only the
-- last accepted time can differ. (Document 01, "Slots" and refusal 14; beyond the documents' demands.)
use Rattle.std.specs.Prelude.{ℕ, ◌≤◌, max, ◌≡◌, Bool, true, false, cond, List, [], ◌∷◌}
use Rattle.std.proofs.Math.Option.{Option, none, some}
use Rattle.model.specs.State.{State, empty, with_time}
use Rattle.model.specs.Answers.{Answer, Refused, Accepted, Closed, Idle, Sent}
use Rattle.model.specs.Call.{Call, slot, Outcome}
use Rattle.model.specs.Aspects.{time_of}
use Rattle.model.specs.Step.{step}
use Rattle.model.specs.Run.{run, final}
use Rattle.laws.specs.All.{All}
use Rattle.promise_lists.specs.Demand3.{InPlace}

-- the time of an open, slot, making or out-of-rate cell is not before t
abbrev pub NoneBefore : (t : ℕ) → Option ℕ → Type 0
NoneBefore t none = Unit
NoneBefore t (some u) = t ≤ u

abbrev pub NotBefore : (t : ℕ) → Call → Type 0
NotBefore t c = NoneBefore t (time_of c)

-- o came after an idle slot at t, p without it: the same answer and octets, and the same table except for the last
-- accepted time, which is at least t
pub record SameBehind (t : ℕ) (o p : Outcome) : Type 0 where
  pub answer : o.answer ≡ p.answer
  pub buffer : o.buffer ≡ p.buffer
  pub state : o.state ≡ with_time (max t p.state.last) p.state

-- the same except for the last accepted time
pub record SameButTime (o p : Outcome) : Type 0 where
  pub answer : o.answer ≡ p.answer
  pub buffer : o.buffer ≡ p.buffer
  pub state : o.state ≡ with_time o.state.last p.state

unfoldable pub is_idle : Answer → Bool
is_idle (Refused n) = false
is_idle (Accepted n) = false
is_idle (Closed n k) = false
is_idle Idle = true
is_idle (Sent v x k a n) = false

-- a list of calls without its idle slots, and the outcomes of the others
abbrev pub awake : State → List Call → List Call
awake s [] = []
awake s (c ∷ cs) = cond (is_idle (step s c).answer) (awake (step s c).state cs) (c ∷ awake (step s c).state cs)

abbrev pub not_idle : List Outcome → List Outcome
not_idle [] = []
not_idle (o ∷ os) = cond (is_idle o.answer) (not_idle os) (o ∷ not_idle os)

-- no time is before that of an idle slot in front of it: t is the latest of those so far
abbrev pub InOrder : (t : ℕ) → State → List Call → Type 0
InOrder t s [] = Unit
InOrder t s (c ∷ cs) = NotBefore t c × InOrder (cond (is_idle (step s c).answer) (step s c).state.last t) (step s c).state cs

-- after any calls cs from the empty table, in any calls ds behind them
pub record LeftOut : Type 0 where
  -- one idle slot in front of ds
  pub one :
      (cs ds : List Call) (t room : ℕ) → let s = final empty cs in
      (step s (slot t room)).answer ≡ Idle → All (NotBefore t) ds → InPlace (SameBehind t) (run (step s (slot t room)).state ds) (run s ds)
  -- every idle slot of ds
  pub all : (cs ds : List Call) → let s = final empty cs in InOrder 0 s ds → InPlace SameButTime (not_idle (run s ds)) (run s (awake s ds))
