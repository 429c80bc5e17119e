-- What a connection on which something waits at every slot is delivered, whatever the others do. Its cells are
-- passed at most a gap at its lowest rate apart, and exactly a gap if its rate stays. So on the clock it has its
-- cells, except for one gap and a slot for each connection.
use Rattle.std.specs.Prelude.{ℕ, ◌+◌, ◌*◌, ◌≤◌, ◌≡◌, true, cond, List, [], ◌∷◌, eqb}
use Rattle.std.proofs.Math.Option.{Option, none, some}
use Rattle.rate.specs.Gap.{gap}
use Rattle.rate.specs.Units.{latest_time}
use Rattle.rate_params.specs.Params.{peak, least}
use Rattle.connection.specs.declared.parts.Connection.{Connection}
use Rattle.connection.specs.Ready.{any_waits}
use Rattle.model.specs.State.{State, taken, empty, find}
use Rattle.model.specs.Call.{Call, goes_to}
use Rattle.model.specs.Run.{final}
use Rattle.laws.specs.All.{All}
use Rattle.promise_service.specs.Liveness.{latest_ready}
use Rattle.promise_service.specs.Progress.{NotCloser}
use Rattle.promise_delivery.specs.Turns.{Turn, table_at, time_passed, slot_of, NoSlot, AllOnTime}
use Rattle.model.specs.Aspects.{sort_of}

-- Before the slot of a turn v is open, as it was after the slot before, and something waits on it. No call since
-- the last slot has moved the last accepted time.
pub record WaitsAt (v : ℕ) (s : State) (x : Turn) : Type 0 where
  pub holder : Connection
  pub found : find v (table_at s x).entries ≡ taken holder
  pub waits : any_waits holder ≡ true
  pub kept : All (λ c. NotCloser v (sort_of c)) x.between
  pub still : (table_at s x).last ≡ s.last

abbrev pub AllWait : (v lag : ℕ) → State → List Turn → Type 0
AllWait v lag s [] = Unit
AllWait v lag s (x ∷ xs) = WaitsAt v s x × AllWait v lag (slot_of lag s x).state xs

-- and its allowed rate is from low to high
pub record RateAt (v low high : ℕ) (s : State) (x : Turn) : Type 0 where
  pub waiting : WaitsAt v s x
  pub above : low ≤ waiting.holder.rate.acr
  pub below : waiting.holder.rate.acr ≤ high

abbrev pub AllRated : (v low high lag : ℕ) → State → List Turn → Type 0
AllRated v low high lag s [] = Unit
AllRated v low high lag s (x ∷ xs) = RateAt v low high s x × AllRated v low high lag (slot_of lag s x).state xs

-- an instant for the next cell of v, after a slot that was passed t: a gap later, if that went to v
unfoldable pub moved_on : (v gap t instant : ℕ) → Option ℕ → ℕ
moved_on v g t i none = i
moved_on v g t i (some u) = cond (eqb u v) (t + g) i

-- No slot is passed a time after `by`. A slot that goes to v is passed no time before `from`. After a cell of v,
-- `by` is a gap at the lowest rate after it, and `from` a gap at the highest.
pub record ServedAt (v from by lag : ℕ) (s : State) (x : Turn) : Type 0 where
  pub not_late : time_passed lag s x ≤ by
  pub not_early : goes_to (slot_of lag s x).answer ≡ some v → from ≤ time_passed lag s x

abbrev pub AllServed : (v low high lag from by : ℕ) → State → List Turn → Type 0
AllServed v low high lag from by s [] = Unit
AllServed v low high lag from by s (x ∷ xs) =
    ServedAt v from by lag s x
    × AllServed v low high lag (moved_on v (gap high) (time_passed lag s x) from (goes_to (slot_of lag s x).answer))
    (moved_on v (gap low) (time_passed lag s x) by (goes_to (slot_of lag s x).answer)) (slot_of lag s x).state xs

-- each cell of v is passed exactly at `at`, a gap at the rate a after the one before
abbrev pub AllExactlyServed : (v a lag at : ℕ) → State → List Turn → Type 0
AllExactlyServed v a lag at s [] = Unit
AllExactlyServed v a lag at s (x ∷ xs) =
    (goes_to (slot_of lag s x).answer ≡ some v → time_passed lag s x ≡ at)
    × AllExactlyServed v a lag (moved_on v (gap a) (time_passed lag s x) at (goes_to (slot_of lag s x).answer)) (slot_of lag s x).state xs

-- The cells of v so far, counted at each slot's own time. That time is at most `start`, plus so many gaps, plus k.
unfoldable pub one_more : (v cells : ℕ) → Option ℕ → ℕ
one_more v n none = n
one_more v n (some u) = cond (eqb u v) (n + 1) n

abbrev pub AllDelivered : (v gap k lag start cells : ℕ) → State → List Turn → Type 0
AllDelivered v g k lag start n s [] = Unit
AllDelivered v g k lag start n s (x ∷ xs) =
    (x.now ≤ start + n * g + k) × AllDelivered v g k lag start (one_more v n (goes_to (slot_of lag s x).answer)) (slot_of lag s x).state xs

-- turns whatever the rates are
pub record TurnPlain (s : State) (x : Turn) : Type 0 where
  pub others : All (λ c. NoSlot (sort_of c)) x.between
  pub timely : (table_at s x).last ≤ x.now
  pub in_range : x.now ≤ latest_time

abbrev pub TurnsPlain : (lag : ℕ) → State → List Turn → Type 0
TurnsPlain lag s [] = Unit
TurnsPlain lag s (x ∷ xs) = TurnPlain s x × TurnsPlain lag (slot_of lag s x).state xs

pub record DeliveredIn (s : State) (k lag : ℕ) (xs : List Turn) (v : ℕ) (d : Connection) : Type 0 where
  pub spaced :
      (low high by : ℕ) → 1 ≤ low → AllRated v low high lag s xs → s.last ≤ by → latest_ready low d d.pace ≤ by
      → AllServed v low high lag (latest_ready high d d.pace) by s xs
  pub exact :
      (a : ℕ) → 1 ≤ a → AllRated v a a lag s xs → s.last ≤ latest_ready a d d.pace → AllExactlyServed v a lag (latest_ready a d d.pace) s xs
  pub on_clock :
      (low high by : ℕ) → 1 ≤ low → AllRated v low high lag s xs → s.last ≤ by → latest_ready low d d.pace ≤ by
      → AllDelivered v (gap low) k lag by 0 s xs
  -- whatever its rate is: the minimum and the peak of its contract
  pub by_contract :
      (by : ℕ) → 1 ≤ least d.rate.params → AllWait v lag s xs → s.last ≤ by → latest_ready (least d.rate.params) d d.pace ≤ by
      → AllServed v (least d.rate.params) (peak d.rate.params) lag (latest_ready (peak d.rate.params) d d.pace) by s xs
      × AllDelivered v (gap (least d.rate.params)) k lag by 0 s xs

-- after any list of calls from the empty table, and turns where the lag does not decide and
-- that are passed at most k behind
abbrev pub DeliveredBy : Type 0
DeliveredBy =
    (cs : List Call) (k lag : ℕ) (xs : List Turn) (v : ℕ) (d : Connection) → let s = final empty cs in
    TurnsPlain lag s xs → AllOnTime k lag s xs → find v s.entries ≡ taken d → DeliveredIn s k lag xs v d
