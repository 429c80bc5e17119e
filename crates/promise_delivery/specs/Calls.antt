-- Lists of calls as a transmitter sees them: what each call means to it, the cells that its slots send, and the
-- open connections with their rates.
use Rattle.std.specs.Prelude.{ℕ, ◌+◌, ◌*◌, ◌≤◌, ◌<◌, ◌≡◌, Bool, true, false, cond, ◌||◌, List, [], ◌∷◌, ◌++◌, eqb}
use Rattle.std.proofs.Math.Option.{Option, none, some}
use Rattle.model.specs.State.{State, Entry, free, taken, find}
use Rattle.model.specs.Invariant.{Each}
use Rattle.model.specs.Call.{Call, goes_to}
use Rattle.model.specs.Aspects.{Sort, opener, closer, arrival, slot_at, another, sort_of}
use Rattle.model.specs.Step.{step}
use Rattle.promise_traces.specs.InRate.{SentCell, sent_by}

-- how many calls of a list open v, accepted or not
unfoldable pub opens_name : (v : ℕ) → Sort → ℕ
opens_name v (opener u t p) = cond (eqb u v) 1 0
opens_name v (closer u) = 0
opens_name v (arrival o) = 0
opens_name v (slot_at t) = 0
opens_name v another = 0

abbrev pub opens_of : (v : ℕ) → List Call → ℕ
opens_of v [] = 0
opens_of v (c ∷ cs) = opens_name v (sort_of c) + opens_of v cs

-- the time of a slot that goes to a connection
abbrev pub time_sent : Sort → Option ℕ → List ℕ
time_sent (opener u t p) w = []
time_sent (closer u) w = []
time_sent (arrival o) w = []
time_sent (slot_at t) none = []
time_sent (slot_at t) (some v) = t ∷ []
time_sent another w = []

-- the times of the slots that send, in order
abbrev pub slots_sent : State → List Call → List ℕ
slots_sent s [] = []
slots_sent s (c ∷ cs) = time_sent (sort_of c) (goes_to (step s c).answer) ++ slots_sent (step s c).state cs

-- the cells that they send on v, also after it is closed and opened again
abbrev pub cells_from : (v : ℕ) → State → List Call → List SentCell
cells_from v s [] = []
cells_from v s (c ∷ cs) = sent_by v s c (step s c).answer ++ cells_from v (step s c).state cs

-- the sum of a number for each of these names
abbrev pub total : (ℕ → ℕ) → (names : List ℕ) → ℕ
total f [] = 0
total f (v ∷ vs) = f v + total f vs

unfoldable pub is_in : ℕ → (names : List ℕ) → Bool
is_in u [] = false
is_in u (v ∷ vs) = eqb v u || is_in u vs

-- every open connection has one of these names
abbrev pub OpenAmong : (names : List ℕ) → State → Type 0
OpenAmong vs s = Each (λ d. is_in d.name vs ≡ true) s.entries

-- before every slot of a list, each open connection has one of these names and an allowed
-- rate of at most r of its name
pub record Held (vs : List ℕ) (r : ℕ → ℕ) (s : State) : Type 0 where
  pub among : OpenAmong vs s
  pub rates : Each (λ d. d.rate.acr ≤ r d.name) s.entries

abbrev pub AtSlot : Sort → Type 0 → Type 0
AtSlot (opener u t p) P = Unit
AtSlot (closer u) P = Unit
AtSlot (arrival o) P = Unit
AtSlot (slot_at t) P = P
AtSlot another P = Unit

abbrev pub AllHeld : (vs : List ℕ) (r : ℕ → ℕ) → State → List Call → Type 0
AllHeld vs r s [] = Unit
AllHeld vs r s (c ∷ cs) = AtSlot (sort_of c) (Held vs r s) × AllHeld vs r (step s c).state cs

-- a number for an open connection, none for a free entry; from this, how many of these names are
-- open, and the sum of their rates
unfoldable pub if_open : Entry → ℕ → ℕ
if_open free n = 0
if_open (taken d) n = n

abbrev pub is_open : State → (name : ℕ) → ℕ
is_open s v = if_open (find v s.entries) 1

abbrev pub open_rates : (vs : List ℕ) (r : ℕ → ℕ) → State → ℕ
open_rates vs r s = total (λ v. if_open (find v s.entries) (r v)) vs

-- whenever a call moves the last accepted time, the rates of what is open fit a link with a slot every S nanoseconds
abbrev pub AllFit : (vs : List ℕ) (r : ℕ → ℕ) (S : ℕ) → State → List Call → Type 0
AllFit vs r S s [] = Unit
AllFit vs r S s (c ∷ cs) = (s.last < (step s c).state.last → open_rates vs r s * S ≤ 512_000_000_000) × AllFit vs r S (step s c).state cs
