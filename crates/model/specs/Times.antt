-- Whose time counts for refusal 14: that of every accepted open, slot, making and out-of-rate cell, also of an
-- idle slot, and of no other call. A refused call leaves it. Also which rate a slot answers: the one that is then
-- read. (Document 01, "Slots" and "Refused because of the state"; document 02, L1, L5 and L13.)
use Rattle.std.specs.Prelude.{ℕ, ◌≡◌, cond, List}
use Rattle.std.proofs.Math.Option.{some, Option, none}
use Rattle.model.specs.State.{State, empty}
use Rattle.model.specs.Call.{Call}
use Rattle.model.specs.Aspects.{time_of}
use Rattle.model.specs.Answers.{Answer, Refused, Accepted, Closed, Idle, Sent}
use Rattle.model.specs.Step.{step}
use Rattle.model.specs.Run.{final, is_accepted, allowed}

abbrev pub time_or : ℕ → Option ℕ → ℕ
time_or last none = last
time_or last (some t) = t

-- the time that counts after an accepted call, before which it was this one
abbrev pub time_after : Call → (last : ℕ) → ℕ
time_after c last = time_or last (time_of c)

-- after any list of calls from the empty table, whatever the next call is
abbrev pub TimesCount : Type 0
TimesCount =
    (cs : List Call) (c : Call)
    → let s = final empty cs in (step s c).state.last ≡ cond (is_accepted (step s c).answer) (time_after c s.last) s.last

-- the answer of a slot that sends has the allowed rate of its connection as it stands afterwards
abbrev pub RateStands : Answer → State → Type 0
RateStands (Refused n) s = Unit
RateStands (Accepted n) s = Unit
RateStands (Closed n k) s = Unit
RateStands Idle s = Unit
RateStands (Sent v x k a n) s = allowed v s ≡ some a

abbrev pub AnsweredRate : Type 0
AnsweredRate = (cs : List Call) (c : Call) → RateStands (step (final empty cs) c).answer (step (final empty cs) c).state
