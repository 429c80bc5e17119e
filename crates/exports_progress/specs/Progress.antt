-- Data and answers both make progress in exported calls: which kinds of cell follow each other on one connection,
-- by what a caller knows to wait on it. (Document 01, "Slots"; source rule 3; document 02, L1.)
use Rattle.std.specs.Prelude.{ℕ, ◌+◌, ◌-◌, ◌≤◌, ◌<◌, ◌≡◌, ◌≢◌, Bool, true, false, cond, ◌&&◌, ◌||◌, not, List, [], ◌∷◌, ◌++◌, eqb, length}
use Rattle.std.proofs.Math.Option.{none, some}
use Rattle.rate_params.specs.declared.params.Params.{Params}
use Rattle.rate_params.specs.Params.{nrm}
use Rattle.cell.specs.Read.{Reading, Refused, DataCell, RmCell}
use Rattle.cell.specs.Fields.{cell_name}
use Rattle.cell.specs.Reading.{reading}
use Rattle.model.specs.Call.{Call}
use Rattle.model.specs.Aspects.{Sort, opener, closer, arrival, slot_at, another, sort_of, Asked, asks_made, asks_out_of_rate, asks_none, asked_of}
use Rattle.model.specs.Conservation.{offered_to, closed_on}
use Rattle.abr.specs.Exports.{Observation, Transcript, final_words, zeros}
use Rattle.laws.specs.All.{All}
use Rattle.promise_service.specs.Liveness.{Somewhere}
use Rattle.promise_service.specs.Progress.{NoClose}
use Rattle.exports.specs.Exports.{params_observed}
use Rattle.exports.specs.Returned.{no_member, member_seen, connection_returned}
use Rattle.exports.specs.Conservation.{data_returned}
use Rattle.exports.specs.Along.{kept}
use Rattle.abr_answers.specs.Reply.{Reply}

-- whether a turned cell waits, and whether a made one does
pub record BackwardKept : Type 0 where
  pub turned : Bool
  pub made : Bool

abbrev pub no_answers : BackwardKept
no_answers = record { turned = false; made = false }

-- a forward RM cell of v becomes its turned cell
abbrev pub turned_read : (v : ℕ) → Reading → BackwardKept → BackwardKept
turned_read v (Refused n) k = k
turned_read v (DataCell vpi vci e) k = k
turned_read v (RmCell g) k = cond (eqb (cell_name g) v) (cond (eqb g.dir 1) k (record { turned = true; made = k.made })) k

-- an open or a close, a received cell, a slot: kind 2 is a turned cell or, if none waited, a made one
abbrev pub answers_by : (v : ℕ) → (member : ℕ → Bool) → Reply → BackwardKept → Sort → BackwardKept
answers_by v f r k (opener u t p) = cond (eqb u v) no_answers k
answers_by v f r k (closer u) = cond (eqb u v) no_answers k
answers_by v f r k (arrival o) = turned_read v (reading o) k
answers_by v f r k (slot_at t) = cond (eqb r.kind 2 && eqb (connection_returned f r) v) (record { turned = false; made = k.turned && k.made }) k
answers_by v f r k another = k

-- a made cell of v
abbrev pub made_by : (v : ℕ) → BackwardKept → Asked → BackwardKept
made_by v k (asks_made u t) = cond (eqb u v) (record { turned = k.turned; made = true }) k
made_by v k (asks_out_of_rate u t) = k
made_by v k asks_none = k

-- after a call that returned 0
abbrev pub answers_after : (v : ℕ) → (member : ℕ → Bool) → Call → Reply → BackwardKept → BackwardKept
answers_after v f c r k = made_by v (answers_by v f r k (sort_of c)) (asked_of c)

-- What a caller keeps of v: the members, the data cells that wait, and its answers. The data cells that wait are
-- those offered less those that slots returned and closes gave back.
pub record WaitingKept : Type 0 where
  pub member : ℕ → Bool
  pub cells : ℕ
  pub answers : BackwardKept

abbrev pub nothing_kept : WaitingKept
nothing_kept = record { member = no_member; cells = 0; answers = no_answers }

abbrev pub kept_after : (v : ℕ) → Call → Observation → WaitingKept → WaitingKept
kept_after v c o k = record {
  member = member_seen c o k.member;
  cells = (k.cells + offered_to v c (eqb o.returned.refusal 0)) - (data_returned v k.member o.returned + closed_on v c o.cells);
  answers = cond (eqb o.returned.refusal 0) (answers_after v k.member c o.returned k.answers) k.answers;
}

-- a cell that a slot returned, by the number of its kind, with what waited before it
pub record SeenCell : Type 0 where
  pub kind : ℕ
  pub cells : ℕ
  pub answers : Bool

abbrev pub seen_cell : (v : ℕ) → WaitingKept → Reply → List SeenCell
seen_cell v k r =
    cond (not (eqb r.kind 0) && eqb (connection_returned k.member r) v)
    (record { kind = r.kind; cells = k.cells; answers = k.answers.turned || k.answers.made } ∷ []) []

-- the cells of v that slots returned, one after the other
abbrev pub seen_cells : (v : ℕ) → WaitingKept → List Call → List Observation → List SeenCell
seen_cells v k [] os = []
seen_cells v k (c ∷ cs) [] = []
seen_cells v k (c ∷ cs) (o ∷ os) = seen_cell v k o.returned ++ seen_cells v (kept_after v c o k) cs os

unfoldable pub turned_seen : List SeenCell → ℕ
turned_seen [] = 0
turned_seen (x ∷ xs) = cond (eqb x.kind 2) 1 0 + turned_seen xs

-- of the cells of one connection in a row: kinds 1 forward, 2 turned or made, 3 data
pub record ProgressSeen (p : Params) (xs : List SeenCell) : Type 0 where
  pub one_turned : All (λ x. 0 < x.cells) xs → All (λ x. x.kind ≢ 1) xs → turned_seen xs ≤ 1
  pub data_sent : 2 ≤ p.n → All (λ x. 0 < x.cells) xs → 4 ≤ length xs → Somewhere (λ x. x.kind ≡ 3) xs
  pub data_alone : All (λ x. x.answers ≡ false) xs → 2 ≤ length xs → Somewhere (λ x. x.kind ≡ 3) xs
  pub answer_sent : All (λ x. x.answers ≡ true) xs → nrm p ≤ length xs → Somewhere (λ x. x.kind ≡ 2) xs

-- after any exported calls from the zero table, of a name that is open, in any further ones without its close
abbrev pub ExportsProgress : Type 0
ExportsProgress =
    (cs : List Call) (os : List Observation) → Transcript cs zeros os → (v : ℕ) (p : Params) → params_observed v none cs os ≡ some p
    → (ds : List Call) (ps : List Observation) → Transcript ds (final_words zeros os) ps → All (NoClose v) ds
    → ProgressSeen p (seen_cells v (kept (kept_after v) nothing_kept cs os) ds ps)
