-- Data and answers both make progress: which kinds of cell follow each other on one connection. (Document 01,
-- "Slots"; source rule 3; document 02, L1.)
use Rattle.std.specs.Prelude.{ℕ, ◌+◌, ◌≤◌, ◌<◌, ◌≡◌, ◌≢◌, Bool, true, false, cond, List, [], ◌∷◌, ◌++◌, eqb, length}
use Rattle.rate_params.specs.Params.{nrm}
use Rattle.connection.specs.declared.parts.Connection.{Connection}
use Rattle.connection.specs.declared.kind.Kind.{Kind}
use Rattle.connection.specs.declared.kind.Kind.TheVariants.{Forward, Turned, Data}
use Rattle.connection.specs.Ready.{backward_waits}
use Rattle.model.specs.State.{State, Entry, free, taken, empty, find, entry_cells}
use Rattle.model.specs.Answers.{Answer, Refused, Accepted, Closed, Idle, Sent}
use Rattle.model.specs.Call.{Call}
use Rattle.model.specs.Aspects.{Sort, opener, closer, arrival, slot_at, another, sort_of}
use Rattle.model.specs.Step.{step}
use Rattle.model.specs.Run.{final}
use Rattle.laws.specs.All.{All}
use Rattle.promise_service.specs.Liveness.{Somewhere}

-- a cell that a slot sends: its kind, and what waited before it, data cells and whether a turned or made cell
pub record OwnCell : Type 0 where
  pub kind : Kind
  pub waiting : ℕ
  pub answers : Bool

unfoldable pub entry_answers : Entry → Bool
entry_answers free = false
entry_answers (taken c) = backward_waits c.destination

-- the cell of v, whose entry this is before the call, if the answer goes to it
unfoldable pub own_cell : (v : ℕ) → Entry → Answer → List OwnCell
own_cell v x (Refused n) = []
own_cell v x (Accepted n) = []
own_cell v x (Closed n k) = []
own_cell v x Idle = []
own_cell v x (Sent u y k a n) = cond (eqb u v) (record { kind = k; waiting = entry_cells x; answers = entry_answers x } ∷ []) []

-- the cells that slots send on v in a list of calls, one after the other
abbrev pub cells_sent : (v : ℕ) → State → List Call → List OwnCell
cells_sent v s [] = []
cells_sent v s (c ∷ cs) = own_cell v (find v s.entries) (step s c).answer ++ cells_sent v (step s c).state cs

-- no close of v
abbrev pub NotCloser : (v : ℕ) → Sort → Type 0
NotCloser v (opener u t p) = Unit
NotCloser v (closer u) = u ≢ v
NotCloser v (arrival o) = Unit
NotCloser v (slot_at t) = Unit
NotCloser v another = Unit

abbrev pub NoClose : (v : ℕ) → Call → Type 0
NoClose v c = NotCloser v (sort_of c)

unfoldable pub turned_kind : Kind → ℕ
turned_kind Forward = 0
turned_kind Turned = 1
turned_kind Data = 0

unfoldable pub turned_among : List OwnCell → ℕ
turned_among [] = 0
turned_among (x ∷ xs) = turned_kind x.kind + turned_among xs

-- of the cells of one connection in a row
pub record Progress (c : Connection) (xs : List OwnCell) : Type 0 where
  -- between two forward cells at most one is turned, if data waits before each
  pub one_turned : All (λ x. 0 < x.waiting) xs → All (λ x. x.kind ≢ Forward) xs → turned_among xs ≤ 1
  -- from Nrm 4 on, if data waits before each of four cells, one is data; at Nrm 2 turned cells can take every
  -- other place, and forward ones the rest
  pub data_sent : 2 ≤ c.rate.params.n → All (λ x. 0 < x.waiting) xs → 4 ≤ length xs → Somewhere (λ x. x.kind ≡ Data) xs
  -- at any Nrm, of two before which no turned or made cell waits one is data
  pub data_alone : All (λ x. x.answers ≡ false) xs → 2 ≤ length xs → Somewhere (λ x. x.kind ≡ Data) xs
  -- if a turned or made cell waits before each of Nrm cells, one is turned
  pub answer_sent : All (λ x. x.answers ≡ true) xs → nrm c.rate.params ≤ length xs → Somewhere (λ x. x.kind ≡ Turned) xs

-- after any calls cs from the empty table, in any calls ds behind them
abbrev pub Progresses : Type 0
Progresses =
    (cs ds : List Call) (v : ℕ) (c : Connection) → find v (final empty cs).entries ≡ taken c → All (NoClose v) ds
    → Progress c (cells_sent v (final empty cs) ds)
