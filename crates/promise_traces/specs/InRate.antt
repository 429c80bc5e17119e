-- The cells that slots send on one connection, from its opening to its close. An out-of-rate cell is none of them,
-- since no slot sends it. (Document 02, L11 and L13.)
use Rattle.std.specs.Prelude.{ℕ, Bool, false, cond, ◌&&◌, List, [], ◌∷◌, ◌++◌, eqb}
use Rattle.connection.specs.Kind.{kind_number}
use Rattle.model.specs.State.{State}
use Rattle.model.specs.Answers.{Acr, NotOpen, Rate, Answer, Refused, Accepted, Closed, Idle, Sent}
use Rattle.model.specs.Call.{Call}
use Rattle.model.specs.Aspects.{Sort, opener, closer, arrival, slot_at, another, sort_of}
use Rattle.model.specs.Step.{step}
use Rattle.model.specs.Queries.{acr_of}
use Rattle.model.specs.Run.{is_accepted}

-- its instant, the number of its kind, and the allowed rate before it
pub record SentCell : Type 0 where
  pub time : ℕ
  pub kind : ℕ
  pub rate : ℕ

-- what reading a rate gives: 0 beside a refusal
unfoldable pub acr_in : Acr → ℕ
acr_in NotOpen = 0
acr_in (Rate a x) = a

-- the cell of v, at that time and rate, if the answer goes to it: of a path also a member's data cell
unfoldable pub cell_in : (v time rate : ℕ) → Answer → List SentCell
cell_in v t rate (Refused n) = []
cell_in v t rate (Accepted n) = []
cell_in v t rate (Closed n k) = []
cell_in v t rate Idle = []
cell_in v t rate (Sent u x k a n) = cond (eqb u v) (record { time = t; kind = kind_number k; rate = rate } ∷ []) []

-- a slot sends this, by its time; no other call sends at the rate
abbrev pub at_sort : Sort → ((time : ℕ) → List SentCell) → List SentCell
at_sort (opener v t p) f = []
at_sort (closer v) f = []
at_sort (arrival o) f = []
at_sort (slot_at t) f = f t
at_sort another f = []

unfoldable pub at_slot : Call → ((time : ℕ) → List SentCell) → List SentCell
at_slot c f = at_sort (sort_of c) f

-- what a call on the table s sends on v, the rate being the one that reading it just before gives
unfoldable pub sent_by : (v : ℕ) → State → Call → Answer → List SentCell
sent_by v s c a = at_slot c (λ t. cell_in v t (acr_in (acr_of s v)) a)

-- an accepted close of v
abbrev pub closes_sort : (v : ℕ) → Sort → Bool
closes_sort v (opener u t p) = false
closes_sort v (closer u) = eqb u v
closes_sort v (arrival o) = false
closes_sort v (slot_at t) = false
closes_sort v another = false

unfoldable pub closes_connection : (v : ℕ) → Call → (accepted : Bool) → Bool
closes_connection v c a = a && closes_sort v (sort_of c)

-- the cells that these calls send on v, until it is closed: a later opening begins another trace
unfoldable pub sent_from : (v : ℕ) → State → List Call → List SentCell
sent_from v s [] = []
sent_from v s (c ∷ cs) = cond (closes_connection v c (is_accepted (step s c).answer)) [] (sent_by v s c (step s c).answer ++ sent_from v (step s c).state cs)
