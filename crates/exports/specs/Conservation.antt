-- No data cell is unaccounted, for exported calls. Offers, slots and closes are summed from the calls and what they
-- returned. (Document 02, L12 and L13.)
use Rattle.std.specs.Prelude.{ℕ, ◌+◌, ◌≤◌, ◌≡◌, Bool, cond, ◌&&◌, List, [], ◌∷◌, eqb}
use Rattle.cell.specs.Name.{address_name}
use Rattle.model.specs.State.{empty}
use Rattle.model.specs.Call.{Call}
use Rattle.model.specs.Step.{close_step}
use Rattle.model.specs.Run.{final}
use Rattle.model.specs.Conservation.{offered_to, closed_on, cells_waiting}
use Rattle.abr_answers.specs.declared.calls.AbrClosed.{AbrClosed}
use Rattle.abr.specs.Contract.{ReturnsClosed}
use Rattle.abr.specs.Exports.{Observation, Transcript, final_words, zeros}
use Rattle.exports.specs.Returned.{no_member, member_seen, connection_returned}
use Rattle.abr_answers.specs.Reply.{Reply}

-- 1 for a slot that returned kind 3, data, and a pair of the connection v
abbrev pub data_returned : (v : ℕ) → (member : ℕ → Bool) → Reply → ℕ
data_returned v f r = cond (eqb r.kind 3 && eqb (connection_returned f r) v) 1 0

-- a sum over the calls of a list and what was observed of them
abbrev pub sum_observed : (Call → Observation → ℕ) → List Call → List Observation → ℕ
sum_observed f [] os = 0
sum_observed f (c ∷ cs) [] = 0
sum_observed f (c ∷ cs) (o ∷ os) = f c o + sum_observed f cs os

-- for the name v: the cells in offers that returned no refusal, the data slots, and the cells that its closes and
-- the removals of its members returned
abbrev pub offers_observed : (v : ℕ) → List Call → List Observation → ℕ
offers_observed v = sum_observed (λ c o. offered_to v c (eqb o.returned.refusal 0))

abbrev pub slots_from : (v : ℕ) → (member : ℕ → Bool) → List Call → List Observation → ℕ
slots_from v f [] os = 0
slots_from v f (c ∷ cs) [] = 0
slots_from v f (c ∷ cs) (o ∷ os) = data_returned v f o.returned + slots_from v (member_seen c o f) cs os

abbrev pub slots_observed : (v : ℕ) → List Call → List Observation → ℕ
slots_observed v = slots_from v no_member

abbrev pub closes_observed : (v : ℕ) → List Call → List Observation → ℕ
closes_observed v = sum_observed (λ c o. closed_on v c o.cells)

-- after every list of exported calls from the zero table, which then holds the words of
-- `final empty cs` (abr/specs/Exports.antt)
pub record ExportsConservation : Type 0 where
  pub balance :
      (cs : List Call) (os : List Observation) → Transcript cs zeros os → (v : ℕ)
      → offers_observed v cs os ≡ slots_observed v cs os + cells_waiting v (final empty cs) + closes_observed v cs os
  pub at_most_offered : (cs : List Call) (os : List Observation) → Transcript cs zeros os → (v : ℕ) → slots_observed v cs os ≤ offers_observed v cs os
  -- the cells that wait are those that abr_close returns if it is called next: 0 if it refuses
  pub closed_next :
      (cs : List Call) (os : List Observation) → Transcript cs zeros os → (vpi vci : ℕ) (m : List ℕ) (r : AbrClosed)
      → ReturnsClosed (λ s. close_step s (address_name vpi vci)) (final_words zeros os) m r → r.cells ≡ cells_waiting (address_name vpi vci) (final empty cs)
