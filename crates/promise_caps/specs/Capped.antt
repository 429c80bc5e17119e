-- How many cells slots send where each connection's rate has a cap that may change before every call. A fall of
-- a cap costs nothing. A rise of the cap of an open connection from a to b costs the part (b - a) / b of a
-- cell. Opening it costs one cell.
use Rattle.std.specs.Prelude.{ℕ, ◌+◌, ◌-◌, ◌*◌, ◌/◌, ◌≤◌, ◌<◌, cond, List, [], ◌∷◌, ltb, length}
use Rattle.model.specs.State.{State, empty, find}
use Rattle.model.specs.Call.{Call}
use Rattle.model.specs.Step.{step}
use Rattle.model.specs.Run.{final}
use Rattle.laws.specs.All.{All}
use Rattle.promise_traces.specs.InRate.{sent_by}
use Rattle.model.specs.Aspects.{sort_of}
use Rattle.promise_delivery.specs.Calls.{opens_of, slots_sent, cells_from, total, Held, AtSlot, if_open, is_open, open_rates}

-- a call, and the cap of each name from the call before it on until after it
pub record Capped : Type 0 where
  pub call : Call
  pub cap : ℕ → ℕ

abbrev pub calls_of : List Capped → List Call
calls_of [] = []
calls_of (x ∷ xs) = x.call ∷ calls_of xs

-- what a rise from a to b costs, of a unit u for a cell: the part (b - a) / b of it, rounded up; a fall nothing
unfoldable pub rise : (u a b : ℕ) → ℕ
rise u a b = cond (ltb a b) ((u * (b - a) + (b - 1)) / b) 0

-- no rise costs more than a cell
abbrev pub RiseMost : Type 0
RiseMost = (u a b : ℕ) → rise u a b ≤ u

-- the rises of the cap of v while it is open, q being the caps before the first call
abbrev pub rises_of : (v u : ℕ) (q : ℕ → ℕ) → State → List Capped → ℕ
rises_of v u q s [] = 0
rises_of v u q s (x ∷ xs) = if_open (find v s.entries) (rise u (q v) (x.cap v)) + rises_of v u x.cap (step s x.call).state xs

-- what the caps of v allow while it is open, 512,000,000,000 for a cell
abbrev pub carried : (v : ℕ) → State → List Capped → ℕ
carried v s [] = 0
carried v s (x ∷ xs) = if_open (find v s.entries) (((step s x.call).state.last - s.last) * x.cap v) + carried v (step s x.call).state xs

-- each cell of v is sent at a rate of at most the cap of that call
abbrev pub AllUnder : (v : ℕ) → State → List Capped → Type 0
AllUnder v s [] = Unit
AllUnder v s (x ∷ xs) = All (λ y. y.rate ≤ x.cap v) (sent_by v s x.call (step s x.call).answer) × AllUnder v (step s x.call).state xs

-- before every slot each open connection has one of these names, and an allowed rate of at most its cap
abbrev pub CapsHeld : (vs : List ℕ) → State → List Capped → Type 0
CapsHeld vs s [] = Unit
CapsHeld vs s (x ∷ xs) = AtSlot (sort_of x.call) (Held vs x.cap s) × CapsHeld vs (step s x.call).state xs

-- whenever a call moves the last accepted time, the caps of what is open fit a link with a slot every S nanoseconds
abbrev pub CapsFit : (vs : List ℕ) (S : ℕ) → State → List Capped → Type 0
CapsFit vs S s [] = Unit
CapsFit vs S s (x ∷ xs) =
    (s.last < (step s x.call).state.last → open_rates vs x.cap s * S ≤ 512_000_000_000) × CapsFit vs S (step s x.call).state xs

-- a unit if v is open at the start, one for each time that it is opened, and the rises of its cap while it is open
abbrev pub ahead : (v u : ℕ) (q : ℕ → ℕ) → State → List Capped → ℕ
ahead v u q s xs = (is_open s v + opens_of v (calls_of xs)) * u + rises_of v u q s xs

-- q may be any caps; with those of the first call that is none of the rises
pub record CapsCountedFrom (s : State) : Type 0 where
  -- the cells of one connection, also after it is closed and opened again
  pub one :
      (v u : ℕ) (q : ℕ → ℕ) (xs : List Capped) → AllUnder v s xs
      → length (cells_from v s (calls_of xs)) * u * 512_000_000_000 ≤ carried v s xs * u + ahead v u q s xs * 512_000_000_000
  -- all cells
  pub all :
      (vs : List ℕ) (q : ℕ → ℕ) (S : ℕ) (xs : List Capped) → CapsHeld vs s xs → CapsFit vs S s xs
      → length (slots_sent s (calls_of xs)) * S ≤ ((final s (calls_of xs)).last - s.last) + total (λ v. ahead v S q s xs) vs

abbrev pub CapsCounted : Type 0
CapsCounted = (cs : List Call) → CapsCountedFrom (final empty cs)
