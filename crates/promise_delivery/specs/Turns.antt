-- A transmitter's turns: calls, and then a slot with the time of `slot_time`. Also what is asked of them, and what
-- it means that the lag does not decide.
use Rattle.std.specs.Prelude.{ℕ, ◌+◌, ◌-◌, ◌*◌, ◌≤◌, min, max, ◌≡◌, List, [], ◌∷◌}
use Rattle.rate.specs.Units.{latest_time}
use Rattle.model.specs.State.{State}
use Rattle.model.specs.Call.{Call, slot, Outcome}
use Rattle.model.specs.Step.{step}
use Rattle.model.specs.Aspects.{Sort, opener, closer, arrival, slot_at, another, sort_of}
use Rattle.model.specs.Queries.{next_ready, slot_time}
use Rattle.model.specs.Run.{final}
use Rattle.laws.specs.All.{All}
use Rattle.promise_delivery.specs.Calls.{opens_of, Held, open_rates, AllFit}

-- a turn of a transmitter: the calls since the last slot, and the slot's own time
pub record Turn : Type 0 where
  pub between : List Call
  pub now : ℕ

-- the table before the slot, the time passed to it, its outcome
abbrev pub table_at : State → Turn → State
table_at s x = final s x.between

abbrev pub time_passed : (lag : ℕ) → State → Turn → ℕ
time_passed lag s x = slot_time (table_at s x) x.now lag

abbrev pub slot_of : (lag : ℕ) → State → Turn → Outcome
slot_of lag s x = step (table_at s x) (slot (time_passed lag s x) 53)

-- the calls between slots: no slot
abbrev pub NoSlot : Sort → Type 0
NoSlot (opener u t p) = Unit
NoSlot (closer u) = Unit
NoSlot (arrival o) = Unit
NoSlot (slot_at t) = ⊥
NoSlot another = Unit

-- slots at most S apart or after a sleep, where m is the own time of the slot before, on a link with
-- a slot every G for the rates
pub record TurnFits (vs : List ℕ) (r : ℕ → ℕ) (S G m : ℕ) (s : State) (x : Turn) : Type 0 where
  pub others : All (λ c. NoSlot (sort_of c)) x.between
  -- no call was ahead of the clock
  pub timely : (table_at s x).last ≤ x.now
  pub in_range : x.now ≤ latest_time
  -- it comes at most S after the slot before, or at most S after the last instant before the next ready one
  pub soon : x.now ≤ max m (next_ready (table_at s x) - 1) + S
  pub held : Held vs r (table_at s x)
  -- the rates of what is open fit the link
  pub fits : open_rates vs r (table_at s x) * G ≤ 512_000_000_000
  pub fitted : AllFit vs r G s x.between

-- the lag does not decide, and the slot is passed no more than k behind its own time
pub record OnTime (k lag : ℕ) (s : State) (x : Turn) : Type 0 where
  pub undelayed : time_passed lag s x ≡ min x.now (max (next_ready (table_at s x)) (table_at s x).last)
  pub near : x.now ≤ time_passed lag s x + k

abbrev pub AllOnTime : (k lag : ℕ) → State → List Turn → Type 0
AllOnTime k lag s [] = Unit
AllOnTime k lag s (x ∷ xs) = OnTime k lag s x × AllOnTime k lag (slot_of lag s x).state xs

-- how many calls of these turns open v, accepted or not
abbrev pub opens_in : (v : ℕ) → List Turn → ℕ
opens_in v [] = 0
opens_in v (x ∷ xs) = opens_of v x.between + opens_in v xs
