-- What a connection is delivered: with one cap for each name, and on a line whose own port makes the caps.
use Rattle.std.specs.Prelude.{ℕ, ◌+◌, ◌-◌, ◌*◌, ◌≤◌, ◌≡◌, List}
use Rattle.connection.specs.declared.parts.Connection.{Connection}
use Rattle.model.specs.State.{State, taken, empty, find}
use Rattle.model.specs.Call.{Call}
use Rattle.model.specs.Run.{final}
use Rattle.promise_delivery.specs.Turns.{Turn, AllOnTime}
use Rattle.promise_delivery.specs.Served.{DeliveredIn}
use Rattle.promise_caps.specs.Lag.{open_of, behind_count, AllInBucket}
use Rattle.promise_caps.specs.Fixed.{TurnsFit, behind_at}
use Rattle.promise_caps.specs.Own.{RatesUnder, own_turns, OwnTurnsFit}

-- on time, and what that delivers
pub record Delivers (s : State) (k lag : ℕ) (xs : List Turn) : Type 0 where
  pub on_time : AllOnTime k lag s xs
  pub delivers : (v : ℕ) (d : Connection) → find v s.entries ≡ taken d → DeliveredIn s k lag xs v d

pub record CapsDeliveredFrom (s : State) (vs : List ℕ) (S lag m : ℕ) (xs : List Turn) : Type 0 where
  pub fixed : (r : ℕ → ℕ) → behind_at vs S m s xs ≤ lag → TurnsFit vs r S lag m s xs → Delivers s (behind_at vs S m s xs) lag xs
  -- of the rates, only that they are under caps at the start
  pub counted :
      (q : ℕ → ℕ) → RatesUnder q s → OwnTurnsFit vs q S S lag m s xs → behind_count vs q S lag m s (own_turns lag q s xs) ≤ lag
      → Delivers s (behind_count vs q S lag m s (own_turns lag q s xs)) lag xs
  pub bucket :
      (q : ℕ → ℕ) (G N A : ℕ) → S ≤ G → RatesUnder q s → OwnTurnsFit vs q S G lag m s xs → open_of vs s ≤ N → AllInBucket vs q S G N A lag 0 s (own_turns lag q s xs)
      → (m - s.last) + N * G + A ≤ lag → Delivers s ((m - s.last) + N * G + A) lag xs

abbrev pub CapsDelivered : Type 0
CapsDelivered = (cs : List Call) (vs : List ℕ) (S lag m : ℕ) (xs : List Turn) → CapsDeliveredFrom (final empty cs) vs S lag m xs
