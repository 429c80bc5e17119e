-- The members of a path are served in turn, in exported calls. Their data cells are counted by the
-- pairs that abr_slot returned. What waits on them is what offers that returned 0 brought, less
-- those cells. (Document 02, L13.)
use Rattle.std.specs.Prelude.{ℕ, ◌+◌, ◌-◌, ◌≤◌, ◌≡◌, cond, ◌&&◌, List, eqb}
use Rattle.cell.specs.Name.{name_from}
use Rattle.connection_members.specs.Path.{path_of}
use Rattle.model.specs.Call.{Call}
use Rattle.model.specs.Aspects.{OnMembers, of_closed, of_added, of_offered, of_removed, of_slot, of_none, members_of, sort_of}
use Rattle.promise_service.specs.Fairness.{GoOn}
use Rattle.abr.specs.Exports.{Observation, Transcript, final_words, zeros}
use Rattle.exports.specs.Conservation.{sum_observed}
use Rattle.exports.specs.Along.{kept, Along}
use Rattle.abr_answers.specs.Reply.{Reply}

-- 1 of a slot that returned kind 3, data, and the pair of the name x
abbrev pub told_returned : (x : ℕ) → Reply → ℕ
told_returned x r = cond (eqb r.kind 3 && eqb (name_from r.vpi r.vci) x) 1 0

-- what waits on each member after a call that was not refused and returned this, from what waited before it
abbrev pub cells_by : OnMembers → Reply → (before : ℕ → ℕ) → (x : ℕ) → ℕ
cells_by (of_closed v) r f x = cond (eqb (path_of x) v) 0 (f x)
cells_by (of_added y) r f x = f x
cells_by (of_offered y n) r f x = cond (eqb y x) (f x + n) (f x)
cells_by (of_removed y) r f x = cond (eqb x y) 0 (f x)
cells_by of_slot r f x = f x - told_returned x r
cells_by of_none r f x = f x

abbrev pub cells_after : Call → Reply → (before : ℕ → ℕ) → (ℕ → ℕ)
cells_after c r f x = cells_by (members_of c) r f x

abbrev pub cells_seen : Call → Observation → (ℕ → ℕ) → (ℕ → ℕ)
cells_seen c o f = cond (eqb o.returned.refusal 0) (cells_after c o.returned f) f

abbrev pub no_cells : ℕ → ℕ
no_cells x = 0

-- data waits on both members a and b of the path v at each slot, and no close of v returned 0; any other
-- call may come between the slots
abbrev pub BothGoOnSeen : (v a b : ℕ) → (waits : ℕ → ℕ) → Call → Observation → Type 0
BothGoOnSeen v a b f c o = GoOn v a b f (eqb o.returned.refusal 0) (sort_of c)

-- the data cells of the pair x among what slots returned
abbrev pub data_returned_of : (x : ℕ) → List Call → List Observation → ℕ
data_returned_of x = sum_observed (λ c o. told_returned x o.returned)

-- after any exported calls from the zero table, in any further ones: of two members of one path, neither is
-- more than one data cell ahead
abbrev pub ExportsFair : Type 0
ExportsFair =
    (cs ds : List Call) (os ps : List Observation) (a b : ℕ) → Transcript cs zeros os → Transcript ds (final_words zeros os) ps → path_of a ≡ path_of b
    → Along cells_seen (BothGoOnSeen (path_of a) a b) (kept cells_seen no_cells cs os) ds ps
    → (data_returned_of a ds ps ≤ data_returned_of b ds ps + 1) × (data_returned_of b ds ps ≤ data_returned_of a ds ps + 1)
