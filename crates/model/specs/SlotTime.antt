-- Which time is passed to a slot: of any table, now and lag.
use Rattle.std.specs.Prelude.{ℕ, ◌+◌, ◌≤◌, ◌≡◌}
use Rattle.model.specs.State.{State}
use Rattle.model.specs.Queries.{next_ready, slot_time}

pub record SlotTimeOf (s : State) (now lag : ℕ) : Type 0 where
  -- from lag behind now up to now
  pub not_after : slot_time s now lag ≤ now
  pub within : now ≤ slot_time s now lag + lag
  -- not before the last accepted time, unless now is: then it is now, which a slot refuses
  pub since : s.last ≤ now → s.last ≤ slot_time s now lag
  pub early : now ≤ s.last → slot_time s now lag ≡ now
  -- the next ready instant, if that lies between; now, if nothing is ready before
  pub ready : next_ready s ≤ now → s.last ≤ next_ready s → now ≤ next_ready s + lag → slot_time s now lag ≡ next_ready s
  pub idle : now ≤ next_ready s → slot_time s now lag ≡ now

pub record SlotTime : Type 0 where
  pub each : (s : State) (now lag : ℕ) → SlotTimeOf s now lag
  -- without a lag it is the slot's own time
  pub no_lag : (s : State) (now : ℕ) → slot_time s now 0 ≡ now
