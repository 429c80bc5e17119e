-- What a connection that waits can count on: it is ready in time, and slots reach it. (Beyond document 01's
-- demands; "Slots" says who is ready when.)
use Rattle.std.specs.Prelude.{ℕ, ◌+◌, ◌≤◌, ◌<◌, ◌≡◌, ◌≢◌, true, List, [], ◌∷◌, length, Some, None}
use Rattle.std.proofs.Math.Option.{some}
use Rattle.rate_params.specs.Params.{least}
use Rattle.rate.specs.Gap.{gap}
use Rattle.connection.specs.declared.parts.Connection.{Connection}
use Rattle.connection.specs.declared.parts.Pace.{Pace}
use Rattle.connection.specs.declared.parts.Pace.TheVariants.{Unsent, Running}
use Rattle.connection.specs.Ready.{any_waits, ready_instant}
use Rattle.model.specs.State.{State, taken, capacity, empty, find}
use Rattle.model.specs.Invariant.{Each}
use Rattle.model.specs.Winner.{Ahead}
use Rattle.model.specs.Call.{Call, slot, Outcome, goes_to}
use Rattle.model.specs.Step.{step}
use Rattle.model.specs.Run.{run, final, is_accepted}
use Rattle.laws.specs.All.{All}

-- before the first cell the opening time, afterwards a gap at this rate after the last cell
unfoldable pub latest_ready : (rate : ℕ) → Connection → Pace → ℕ
latest_ready a c Unsent = c.opened
latest_ready a c (Running sent forward k turned) = sent + gap a

pub record ReadySoon (rate : ℕ) (c : Connection) : Type 0 where
  pub instant : ℕ
  pub ready_at : ready_instant c ≡ Some instant
  pub soon : instant ≤ latest_ready rate c c.pace

-- the outcome is a cell of a connection of s that comes before instant i of name v, or is the same
pub record Precedes (s : State) (i v : ℕ) (o : Outcome) : Type 0 where
  pub instant : ℕ
  pub name : ℕ
  pub holder : Connection
  pub found : find name s.entries ≡ taken holder
  pub ready_at : ready_instant holder ≡ Some instant
  pub ahead : Ahead instant name i v
  pub goes : goes_to o.answer ≡ some name

abbrev pub GoesTo : ℕ → Outcome → Type 0
GoesTo v o = goes_to o.answer ≡ some v

abbrev pub IsAccepted : Outcome → Type 0
IsAccepted o = is_accepted o.answer ≡ true

pub data Somewhere {A : Type 0} (P : A → Type 0) : List A → Type 0 where
  here : {x : A} {xs : List A} → P x → Somewhere P (x ∷ xs)
  there : {x : A} {xs : List A} → Somewhere P xs → Somewhere P (x ∷ xs)

-- slots at these times, each with a buffer of 53 octets
abbrev pub slots : List ℕ → List Call
slots [] = []
slots (t ∷ ts) = slot t 53 ∷ slots ts

-- In every table s that calls make from the empty one, of a connection c with the name v:
pub record Live (s : State) (v : ℕ) (c : Connection) : Type 0 where
  -- if data, a turned or a made cell waits and the contract has a minimum, it is ready at most a gap at
  -- the minimum after its last cell
  pub guaranteed : any_waits c ≡ true → 0 < least c.rate.params → ReadySoon (least c.rate.params) c
  -- with a minimum or without, no later than a gap at the allowed rate, if that is above 0 (document 02, L5)
  pub ready : any_waits c ≡ true → 0 < c.rate.acr → ReadySoon c.rate.acr c
  -- at an allowed rate of 0 it is never ready, whatever waits, and no slot goes to it
  pub never : c.rate.acr ≡ 0 → ready_instant c ≡ None
  pub passed_over : (t room : ℕ) → c.rate.acr ≡ 0 → goes_to (step s (slot t room)).answer ≢ some v
  -- from its ready instant on, an accepted slot is not idle: it goes to one that does not come after it
  pub ahead : (i t room : ℕ) → ready_instant c ≡ Some i → i ≤ t → IsAccepted (step s (slot t room)) → Precedes s i v (step s (slot t room))
  -- and to itself, if no connection comes before it
  pub first :
      (i t room : ℕ) → ready_instant c ≡ Some i → i ≤ t → IsAccepted (step s (slot t room))
      → Each (λ d. (j : ℕ) → ready_instant d ≡ Some j → Ahead i v j d.name) s.entries → GoesTo v (step s (slot t room))
  -- of as many slots in a row as connections can be open, one is its own
  pub served :
      (i : ℕ) (ts : List ℕ) → ready_instant c ≡ Some i → length ts ≡ capacity → All (λ t. i ≤ t) ts → All IsAccepted (run s (slots ts))
      → Somewhere (GoesTo v) (run s (slots ts))

abbrev pub Liveness : Type 0
Liveness = (cs : List Call) (v : ℕ) (c : Connection) → find v (final empty cs).entries ≡ taken c → Live (final empty cs) v c
