-- Before a connection's first accepted backward cell since its open, abr_acr returns no change and a rate not
-- above the ICR used. (Document 02, L9 and L14.)
use Rattle.std.specs.Prelude.{ℕ, ◌≤◌, ◌≡◌, Bool, false, cond, ◌||◌, ◌&&◌, List, eqb, pos}
use Rattle.std.proofs.Math.Option.{none, some}
use Rattle.rate_params.specs.declared.params.Params.{Params}
use Rattle.rate_params.specs.Params.{initial_used}
use Rattle.cell.specs.Read.{Reading, Refused, DataCell, RmCell}
use Rattle.cell.specs.Fields.{cell_name}
use Rattle.cell.specs.Reading.{reading}
use Rattle.model.specs.Call.{Call}
use Rattle.model.specs.Aspects.{Sort, opener, closer, arrival, slot_at, another, sort_of}
use Rattle.abr_answers.specs.declared.calls.AbrAllowed.{AbrAllowed}
use Rattle.abr.specs.Contract.{ReturnsAllowed}
use Rattle.abr.specs.Exports.{Observation, Transcript, final_words, zeros}
use Rattle.exports.specs.Along.{kept}
use Rattle.exports.specs.Exports.{params_observed}

-- whether a backward cell of v was accepted since its last open, from calls that returned 0
abbrev pub feeds : (v : ℕ) → Reading → Bool
feeds v (Refused n) = false
feeds v (DataCell vpi vci e) = false
feeds v (RmCell f) = eqb (cell_name f) v && eqb f.dir 1

abbrev pub fed_by : (v : ℕ) → Bool → Sort → Bool
fed_by v b (opener u t p) = cond (eqb u v) false b
fed_by v b (closer u) = b
fed_by v b (arrival o) = feeds v (reading o) || b
fed_by v b (slot_at t) = b
fed_by v b another = b

abbrev pub fed_after : (v : ℕ) → Call → Bool → Bool
fed_after v c b = fed_by v b (sort_of c)

abbrev pub fed_seen : (v : ℕ) → Call → Observation → Bool → Bool
fed_seen v c o b = cond (eqb o.returned.refusal 0) (fed_after v c b) b

pub record NotFed (p : Params) (a : AbrAllowed) : Type 0 where
  pub change : a.change ≡ pos 0
  pub rate : a.acr ≤ initial_used p

-- after any exported calls from the zero table, of a connection that is open under p
abbrev pub ExportsBeforeFeedback : Type 0
ExportsBeforeFeedback =
    (cs : List Call) (os : List Observation) → Transcript cs zeros os → (v : ℕ) (p : Params) → params_observed v none cs os ≡ some p → kept (fed_seen v) false cs os ≡ false
    → (a : AbrAllowed) → ReturnsAllowed v (final_words zeros os) a → NotFed p a
