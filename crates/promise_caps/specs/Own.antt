-- The caps that the backward cells themselves make. An open connection's rate is at most what its last one
-- allowed, or its initial rate before the first. So a transmitter whose line is a port, which limits each backward
-- cell as it comes, knows the caps. They are those of the last cells, not the shares of the moment.
use Rattle.std.specs.Prelude.{ℕ, ◌+◌, ◌-◌, ◌*◌, ◌≤◌, max, ◌≡◌, List, [], ◌∷◌}
use Rattle.std.proofs.Math.Option.{Option, none, some}
use Rattle.rate.specs.Units.{latest_time}
use Rattle.rate_params.specs.declared.params.Params.{Params}
use Rattle.model.specs.State.{State, Entry, free, taken, empty, find}
use Rattle.model.specs.Invariant.{Each}
use Rattle.model.specs.Call.{Call}
use Rattle.model.specs.Step.{step}
use Rattle.model.specs.Queries.{next_ready}
use Rattle.model.specs.Run.{final}
use Rattle.laws.specs.All.{All}
use Rattle.model.specs.Aspects.{sort_of}
use Rattle.promise_delivery.specs.Calls.{OpenAmong, open_rates, AllFit}
use Rattle.promise_delivery.specs.Turns.{Turn, table_at, slot_of, NoSlot}
use Rattle.promise_caps.specs.Known.{cap_by}
use Rattle.promise_caps.specs.Lag.{CapTurn, turns_of, CapTurnsFit}

-- the parameters under which an entry is open
abbrev pub params_in : Entry → Option Params
params_in free = none
params_in (taken d) = some d.rate.params

-- the caps after calls, by those before
abbrev pub caps_by : (q : ℕ → ℕ) → State → List Call → ℕ → ℕ
caps_by q s [] v = q v
caps_by q s (c ∷ cs) v = caps_by (λ u. cap_by u (q u) (params_in (find u s.entries)) c) (step s c).state cs v

-- every open connection's rate is at most its cap
abbrev pub RatesUnder : (q : ℕ → ℕ) → State → Type 0
RatesUnder q s = Each (λ d. d.rate.acr ≤ q d.name) s.entries

-- turns with the caps that their own calls make
abbrev pub own_turns : (lag : ℕ) (q : ℕ → ℕ) → State → List Turn → List CapTurn
own_turns lag q s [] = []
own_turns lag q s (x ∷ xs) = record { turn = x; cap = caps_by q s x.between } ∷ own_turns lag (caps_by q s x.between) (slot_of lag s x).state xs

-- what is left to ask of a turn: nothing of the rates
pub record OwnTurnFits (vs : List ℕ) (r : ℕ → ℕ) (S G m : ℕ) (s : State) (x : Turn) : Type 0 where
  pub others : All (λ c. NoSlot (sort_of c)) x.between
  pub timely : (table_at s x).last ≤ x.now
  pub in_range : x.now ≤ latest_time
  pub soon : x.now ≤ max m (next_ready (table_at s x) - 1) + S
  pub among : OpenAmong vs (table_at s x)
  pub fits : open_rates vs r (table_at s x) * G ≤ 512_000_000_000
  pub fitted : AllFit vs r G s x.between

abbrev pub OwnTurnsFit : (vs : List ℕ) (q : ℕ → ℕ) (S G lag m : ℕ) → State → List Turn → Type 0
OwnTurnsFit vs q S G lag m s [] = Unit
OwnTurnsFit vs q S G lag m s (x ∷ xs) =
    OwnTurnFits vs (caps_by q s x.between) S G m s x × OwnTurnsFit vs (caps_by q s x.between) S G lag x.now (slot_of lag s x).state xs

-- after any list of calls from the empty table
pub record OwnCapsFrom (s : State) : Type 0 where
  pub kept : (q : ℕ → ℕ) (cs : List Call) → RatesUnder q s → RatesUnder (caps_by q s cs) (final s cs)
  -- so of the turns nothing is asked of the rates: what `caps-lag` says holds
  pub turns : (vs : List ℕ) (q : ℕ → ℕ) (S G lag m : ℕ) (xs : List Turn) → S ≤ G → RatesUnder q s → OwnTurnsFit vs q S G lag m s xs → CapTurnsFit vs S G lag m s (own_turns lag q s xs)
  pub same : (q : ℕ → ℕ) (lag : ℕ) (xs : List Turn) → turns_of (own_turns lag q s xs) ≡ xs

abbrev pub OwnCaps : Type 0
OwnCaps = (cs : List Call) → OwnCapsFrom (final empty cs)
