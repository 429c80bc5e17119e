-- A connection that is ready is not passed over for long, whatever else is called. Each other connection goes
-- before it at most once. (Beyond document 01's demands; "Slots" says who is ready when.)
use Rattle.std.specs.Prelude.{ℕ, ◌+◌, ◌≤◌, ◌<◌, ◌≡◌, ◌≢◌, Bool, true, cond, List, [], ◌∷◌, leb, Some}
use Rattle.std.proofs.Math.Option.{some, Option, none}
use Rattle.rate_params.specs.Params.{least}
use Rattle.connection.specs.declared.parts.Connection.{Connection}
use Rattle.connection.specs.Ready.{any_waits, ready_instant}
use Rattle.model.specs.State.{State, taken, empty, find}
use Rattle.model.specs.Call.{Call, goes_to}
use Rattle.model.specs.Aspects.{Sort, opener, closer, arrival, slot_at, another, sort_of, Lent, for_slot, for_out_of_rate, not_lent, lent_of, members_of, discards_from}
use Rattle.model.specs.Step.{step}
use Rattle.model.specs.Run.{run, final, is_accepted}
use Rattle.model.specs.Orders.{open_count}
use Rattle.model.specs.Conservation.{sum_over}
use Rattle.laws.specs.All.{All}
use Rattle.promise_service.specs.Liveness.{latest_ready, GoesTo, Somewhere}

-- how many connections are open
abbrev pub open_connections : State → ℕ
open_connections s = open_count s.entries

-- 1 for an open, of a channel or of a path, whose time passes the test
abbrev pub open_sort : (ℕ → Bool) → Sort → ℕ
open_sort h (opener v t p) = cond (h t) 1 0
open_sort h (closer v) = 0
open_sort h (arrival o) = 0
open_sort h (slot_at t) = 0
open_sort h another = 0

unfoldable pub open_call : (ℕ → Bool) → Call → ℕ
open_call h c = open_sort h (sort_of c)

-- 1 for a slot
abbrev pub slot_lent : Lent → ℕ
slot_lent (for_slot t) = 1
slot_lent (for_out_of_rate v) = 0
slot_lent not_lent = 0

unfoldable pub slot_call : Call → ℕ
slot_call c = slot_lent (lent_of c)

-- the accepted ones: an open at m or before
abbrev pub opens_by : (m : ℕ) → Call → (accepted : Bool) → ℕ
opens_by m c a = cond a (open_call (λ t. leb t m) c) 0

abbrev pub slot_taken : Call → (accepted : Bool) → ℕ
slot_taken c a = cond a (slot_call c) 0

-- in a list of calls
abbrev pub opens_until : (m : ℕ) → State → List Call → ℕ
opens_until m s cs = sum_over (λ c a. opens_by m c (is_accepted a)) s cs

abbrev pub slots_taken : State → List Call → ℕ
slots_taken s cs = sum_over (λ c a. slot_taken c (is_accepted a)) s cs

-- v is open, and ready at m or before
pub record ReadyBy (m v : ℕ) (s : State) : Type 0 where
  pub holder : Connection
  pub found : find v s.entries ≡ taken holder
  pub instant : ℕ
  pub ready_at : ready_instant holder ≡ Some instant
  pub by : instant ≤ m

-- an accepted slot of this time comes at m or later; no other call is asked for anything
abbrev pub SlotLentFrom : (m : ℕ) → Lent → Type 0
SlotLentFrom m (for_slot t) = m ≤ t
SlotLentFrom m (for_out_of_rate v) = Unit
SlotLentFrom m not_lent = Unit

abbrev pub SlotFrom : (m : ℕ) → Call → Type 0
SlotFrom m c = SlotLentFrom m (lent_of c)

-- Each accepted slot comes at m or later and finds v ready by m, until one goes to it. Its ready instant may move,
-- by feedback or what waits, but not after m.
abbrev pub FoundReady : (m v : ℕ) → State → List Call → Type 0
FoundReady m v s [] = Unit
FoundReady m v s (c ∷ cs) =
    (slot_taken c (is_accepted (step s c).answer) ≡ 1 → SlotFrom m c × ReadyBy m v s) × (goes_to (step s c).answer ≢ some v → FoundReady m v (step s c).state cs)

-- no close of v, and no removal of one of its members
abbrev pub NotFrom : (v : ℕ) → Option ℕ → Type 0
NotFrom v none = Unit
NotFrom v (some u) = u ≢ v

abbrev pub KeepsOpen : (v : ℕ) → Call → Type 0
KeepsOpen v c = NotFrom v (discards_from (members_of c))

-- After any calls cs from the empty table, in any calls ds behind them:
pub record NotPassedOver : Type 0 where
  -- if there are as many accepted slots as connections open at the start, plus those opened among them by the
  -- instant m, one slot goes to v
  pub served :
      (cs ds : List Call) (m v : ℕ) → let s = final empty cs in
      FoundReady m v s ds → 0 < slots_taken s ds → open_connections s + opens_until m s ds ≤ slots_taken s ds → Somewhere (GoesTo v) (run s ds)
  -- so for a connection with a minimum on which something waits, whatever moves its rate; m is a gap at the
  -- minimum after its last cell, or its opening
  pub guaranteed :
      (cs ds : List Call) (v : ℕ) (c : Connection) → let s = final empty cs in
      find v s.entries ≡ taken c → any_waits c ≡ true → 0 < least c.rate.params → (m : ℕ) → latest_ready (least c.rate.params) c c.pace ≤ m
      → All (KeepsOpen v) ds → All (SlotFrom m) ds → open_connections s + opens_until m s ds ≤ slots_taken s ds → Somewhere (GoesTo v) (run s ds)
