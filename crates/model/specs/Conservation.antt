-- No data cell is unaccounted. For each connection name, what was offered is what slots sent, plus what
-- waits, plus what waited at its closes. A name is a number, so one that was closed and opened again is
-- one name. The data of members is counted by path. The removal of a member is one of its path's
-- closes. (Document 02, L12 and L13.)
use Rattle.std.specs.Prelude.{ℕ, ◌+◌, ◌≤◌, ◌≡◌, Bool, cond, List, [], ◌∷◌, eqb}
use Rattle.std.proofs.Math.Option.{Option, none, some}
use Rattle.connection.specs.declared.kind.Kind.{Kind}
use Rattle.connection.specs.declared.kind.Kind.TheVariants.{Forward, Turned, Data}
use Rattle.model.specs.State.{State, empty, find, entry_cells}
use Rattle.model.specs.Call.{Call, Answer, Refused, Accepted, Closed, Idle, Sent, closed_cells}
use Rattle.model.specs.Aspects.{OfferedCells, offer_of, members_of, discards_from}
use Rattle.model.specs.Step.{step}
use Rattle.model.specs.Run.{final, is_accepted}

-- the cells that a call offered to the name v
abbrev pub cells_for : (v : ℕ) → Option OfferedCells → ℕ
cells_for v none = 0
cells_for v (some x) = cond (eqb x.connection v) x.cells 0

unfoldable pub offered_to : (v : ℕ) → Call → (accepted : Bool) → ℕ
offered_to v c a = cond a (cells_for v (offer_of c)) 0

-- the cells that a close of v, or the removal of one of its members, answered
abbrev pub cells_lost : (v answered : ℕ) → Option ℕ → ℕ
cells_lost v n none = 0
cells_lost v n (some u) = cond (eqb u v) n 0

unfoldable pub closed_on : (v : ℕ) → Call → (answered : ℕ) → ℕ
closed_on v c n = cells_lost v n (discards_from (members_of c))

-- the data cells of a cell that a slot sends
unfoldable pub data_in : Kind → ℕ
data_in Forward = 0
data_in Turned = 0
data_in Data = 1

-- 1 for a slot that sent a data cell of v
unfoldable pub data_slot_of : (v : ℕ) → Answer → ℕ
data_slot_of v (Refused n) = 0
data_slot_of v (Accepted n) = 0
data_slot_of v (Closed n k) = 0
data_slot_of v Idle = 0
data_slot_of v (Sent u x k a n) = cond (eqb u v) (data_in k) 0

-- a sum over the calls of a list and their answers
abbrev pub sum_over : (Call → Answer → ℕ) → State → List Call → ℕ
sum_over f s [] = 0
sum_over f s (c ∷ cs) = f c (step s c).answer + sum_over f (step s c).state cs

-- what the calls of a list from the empty table, and their answers, say of the name v: the cells in accepted
-- offers, the data slots, and the cells that its closes answered
abbrev pub cells_offered : (v : ℕ) → List Call → ℕ
cells_offered v cs = sum_over (λ c a. offered_to v c (is_accepted a)) empty cs

abbrev pub data_slots : (v : ℕ) → List Call → ℕ
data_slots v cs = sum_over (λ c a. data_slot_of v a) empty cs

abbrev pub cells_closed : (v : ℕ) → List Call → ℕ
cells_closed v cs = sum_over (λ c a. closed_on v c (closed_cells a)) empty cs

-- the cells that wait in the table
abbrev pub cells_waiting : (v : ℕ) → State → ℕ
cells_waiting v s = entry_cells (find v s.entries)

-- after every list of calls: so at every point of every list, which is the end of a list itself
pub record Conservation : Type 0 where
  pub balance : (cs : List Call) (v : ℕ) → cells_offered v cs ≡ data_slots v cs + cells_waiting v (final empty cs) + cells_closed v cs
  pub at_most_offered : (cs : List Call) (v : ℕ) → data_slots v cs ≤ cells_offered v cs
