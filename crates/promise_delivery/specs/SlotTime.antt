-- What holds of the time to pass to a slot (`slot_time`, model/Queries), for every table that calls made.
use Rattle.std.specs.Prelude.{ℕ, ◌+◌, ◌≤◌, ◌≡◌, List}
use Rattle.rate.specs.Units.{latest_time}
use Rattle.model.specs.State.{State, empty}
use Rattle.model.specs.Answers.{Idle}
use Rattle.model.specs.Call.{Call, slot}
use Rattle.model.specs.Step.{step}
use Rattle.model.specs.Queries.{next_ready, slot_time}
use Rattle.model.specs.Run.{final}
use Rattle.promise_service.specs.Liveness.{IsAccepted}

-- of a table s that calls made from the empty one, and a time now that is not before its last accepted one
pub record TimePassed (s : State) (now lag : ℕ) : Type 0 where
  -- the time passed is at or before now, by no more than lag, and the slot is accepted
  pub not_after : slot_time s now lag ≤ now
  pub within : now ≤ slot_time s now lag + lag
  pub since : s.last ≤ slot_time s now lag
  pub accepted : now ≤ latest_time → IsAccepted (step s (slot (slot_time s now lag) 53))
  -- it is not before the next ready instant, if that has come
  pub reached : next_ready s ≤ now → next_ready s ≤ slot_time s now lag
  -- a slot at it is idle exactly if one at now is, and then it is now
  pub idle : (step s (slot now 53)).answer ≡ Idle → (slot_time s now lag ≡ now) × ((step s (slot (slot_time s now lag) 53)).answer ≡ Idle)
  pub idle_now : (step s (slot (slot_time s now lag) 53)).answer ≡ Idle → (slot_time s now lag ≡ now) × ((step s (slot now 53)).answer ≡ Idle)

abbrev pub SlotTimes : Type 0
SlotTimes = (cs : List Call) (now lag : ℕ) → (final empty cs).last ≤ now → TimePassed (final empty cs) now lag
