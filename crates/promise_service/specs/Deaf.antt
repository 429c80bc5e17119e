-- The rate of a source that hears nothing falls. Without answers it is cut before each forward cell from the one
-- after CRM on. (Document 01, "Four moves of the allowed rate"; source rule 6.)
use Rattle.std.specs.Prelude.{ℕ, zero, suc, ◌+◌, ◌≤◌, ◌<◌, min, max, ◌≡◌, ◌≢◌, cond, List, eqb}
use Rattle.rate_params.specs.Params.{least, initial_used, crm}
use Rattle.rate_moves.specs.Moves.{reduced_by, mark_level}
use Rattle.cell.specs.declared.fields.Fields.{Fields}
use Rattle.cell.specs.Read.{RmCell}
use Rattle.cell.specs.Fields.{cell_name}
use Rattle.cell.specs.Reading.{reading}
use Rattle.connection.specs.declared.parts.Connection.{Connection}
use Rattle.connection.specs.declared.kind.Kind.{Kind}
use Rattle.connection.specs.declared.kind.Kind.TheVariants.{Forward, Turned, Data}
use Rattle.model.specs.State.{State, taken, empty, find}
use Rattle.model.specs.Answers.{Answer, Refused, Accepted, Closed, Idle, Sent}
use Rattle.model.specs.Call.{Call}
use Rattle.model.specs.Aspects.{Sort, opener, closer, arrival, slot_at, another, sort_of}
use Rattle.model.specs.Run.{final}
use Rattle.model.specs.Conservation.{sum_over}
use Rattle.laws.specs.All.{All}

-- x less its part 1/2^k, j times
unfoldable pub cut_times : (j k x : ℕ) → ℕ
cut_times zero k x = x
cut_times (suc j) k x = reduced_by k (cut_times j k x)

unfoldable pub forward_cells : Kind → ℕ
forward_cells Forward = 1
forward_cells Turned = 0
forward_cells Data = 0

-- 1 for a slot that sent a forward cell of v
unfoldable pub forward_slot_of : (v : ℕ) → Answer → ℕ
forward_slot_of v (Refused n) = 0
forward_slot_of v (Accepted n) = 0
forward_slot_of v (Closed n k) = 0
forward_slot_of v Idle = 0
forward_slot_of v (Sent u x k a n) = cond (eqb u v) (forward_cells k) 0

abbrev pub forward_slots : (v : ℕ) → State → List Call → ℕ
forward_slots v s cs = sum_over (λ c a. forward_slot_of v a) s cs

-- no close of v, and no backward cell of it but such as these
abbrev pub HearsSort : (Fields → Type 0) → (v : ℕ) → Sort → Type 0
HearsSort P v (opener u t p) = Unit
HearsSort P v (closer u) = u ≢ v
HearsSort P v (arrival o) = (f : Fields) → reading o ≡ RmCell f → cell_name f ≡ v → f.dir ≡ 1 → P f
HearsSort P v (slot_at t) = Unit
HearsSort P v another = Unit

abbrev pub HearsOnly : (Fields → Type 0) → (v : ℕ) → Call → Type 0
HearsOnly P v c = HearsSort P v (sort_of c)

-- no answer: a backward cell has BN 1, so that Y stays, and CI or NI, so that it raises no rate
abbrev pub NoAnswer : Fields → Type 0
NoAnswer f = (f.bn ≢ 0) × (0 < mark_level (eqb f.ci 1) (eqb f.ni 1))

abbrev pub Unheard : (v : ℕ) → Call → Type 0
Unheard v c = HearsOnly NoAnswer v c

-- no backward cell at all
abbrev pub Silent : (v : ℕ) → Call → Type 0
Silent v c = HearsOnly (λ f. ⊥) v c

-- After any calls cs from the empty table, d is a connection with CDF above zero. Calls ds without an
-- answer make it e. Y and the forward cells of ds together pass CRM by j, which is no more than those
-- cells. So the rate was cut at j of them.
abbrev pub DeafFalls : Type 0
DeafFalls =
    (cs ds : List Call) (v j : ℕ) (d e : Connection) → let s = final empty cs in
    find v s.entries ≡ taken d → find v (final s ds).entries ≡ taken e → All (Unheard v) ds → d.rate.params.c ≢ 7
    → j ≤ forward_slots v s ds → crm d.rate.params + j ≤ d.unanswered + forward_slots v s ds
    → e.rate.acr ≤ max (least d.rate.params) (cut_times j d.rate.params.c d.rate.acr)

-- with CDF zero, and no backward cell, it falls to the initial rate used at most, by the first cell or idle
abbrev pub DeafStays : Type 0
DeafStays =
    (cs ds : List Call) (v : ℕ) (d e : Connection) → let s = final empty cs in
    find v s.entries ≡ taken d → find v (final s ds).entries ≡ taken e → All (Silent v) ds → d.rate.params.c ≡ 7
    → min d.rate.acr (initial_used d.rate.params) ≤ e.rate.acr
