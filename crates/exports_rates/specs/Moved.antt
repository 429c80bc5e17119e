-- The rate that abr_acr returns after a call, from the one that it returned before. Exactly four moves change it.
-- A connection's own forward cells from slots make the first three, its own backward cells the fourth. Every other
-- call leaves the rate. (Document 01, "Four moves of the allowed rate".)
use Rattle.std.specs.Prelude.{ℕ, ◌-◌, ◌≡◌, cond, ◌&&◌, List, eqb}
use Rattle.std.proofs.Math.Option.{none, some}
use Rattle.rate_params.specs.declared.params.Params.{Params}
use Rattle.rate_moves.specs.declared.moves.Rate.{Rate}
use Rattle.rate_moves.specs.Moves.{first_cell, idle, unanswered, feedback}
use Rattle.rate.specs.Code.{rate_of}
use Rattle.cell.specs.Read.{Reading, Refused, DataCell, RmCell}
use Rattle.cell.specs.Name.{name_from}
use Rattle.cell.specs.Fields.{cell_name}
use Rattle.cell.specs.Reading.{reading}
use Rattle.connection.specs.declared.parts.Pace.{Pace}
use Rattle.connection.specs.declared.parts.Pace.TheVariants.{Unsent, Running}
use Rattle.model.specs.Call.{Call}
use Rattle.model.specs.Aspects.{Sort, opener, closer, arrival, slot_at, another, sort_of}
use Rattle.abr_answers.specs.declared.calls.AbrAllowed.{AbrAllowed}
use Rattle.abr.specs.Contract.{ReturnsAllowed}
use Rattle.abr.specs.Exports.{Observation, Performs, Transcript, final_words, zeros}
use Rattle.exports.specs.Exports.{params_observed}
use Rattle.exports_rates.specs.Seen.{Seen, seen_of}
use Rattle.abr_answers.specs.Reply.{Reply}

-- a forward cell at t: the first cell's move; or idle, and then unanswered
abbrev pub rate_sent : (t unanswered : ℕ) → Pace → Rate → ℕ
rate_sent t y Unsent q = (first_cell q).acr
rate_sent t y (Running sent forward n turned) q = (unanswered y (idle (t - forward) q)).acr

-- a received cell: a backward one of v is feedback
abbrev pub rate_fed : (v : ℕ) → Reading → Rate → ℕ
rate_fed v (Refused n) q = q.acr
rate_fed v (DataCell vpi vci e) q = q.acr
rate_fed v (RmCell f) q = cond (eqb (cell_name f) v && eqb f.dir 1) (feedback (eqb f.ci 1) (eqb f.ni 1) (rate_of f.er) q).acr q.acr

-- after a call that returned this, the rate of v being q before it: kind 1 is a forward cell
abbrev pub rate_by : (v : ℕ) → Seen → Rate → Reply → Sort → ℕ
rate_by v k q r (opener u t p) = q.acr
rate_by v k q r (closer u) = q.acr
rate_by v k q r (arrival o) = cond (eqb r.refusal 0) (rate_fed v (reading o) q) q.acr
rate_by v k q r (slot_at t) = cond (eqb r.kind 1 && eqb (name_from r.vpi r.vci) v) (rate_sent t k.unanswered k.pace q) q.acr
rate_by v k q r another = q.acr

abbrev pub rate_after : (v : ℕ) → Seen → Rate → Call → Reply → ℕ
rate_after v k q c r = rate_by v k q r (sort_of c)

-- after any exported calls from the zero table and one call more, for a connection that is open before and after
-- that call, with the rates that abr_acr returns then
abbrev pub ExportsMoves : Type 0
ExportsMoves =
    (cs : List Call) (os : List Observation) → Transcript cs zeros os → (c : Call) (o : Observation) → Performs c (final_words zeros os) o → (v : ℕ) (p : Params)
    → params_observed v none cs os ≡ some p → (a b : AbrAllowed) → ReturnsAllowed v (final_words zeros os) a → ReturnsAllowed v o.table b → b.refusal ≡ 0
    → b.acr ≡ rate_after v (seen_of v cs os) (record { acr = a.acr; params = p }) c o.returned
