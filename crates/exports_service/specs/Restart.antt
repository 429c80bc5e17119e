-- A rate of 0 rises again, and the connection is ready again, in exported calls. A backward cell without marks
-- raises what abr_acr returns. (Document 02, L5.)
use Rattle.std.specs.Prelude.{ℕ, ◌-◌, ◌≤◌, ◌<◌, min, ◌≡◌, Bool, true, ◌||◌, List, leb, eqb, Some}
use Rattle.std.proofs.Math.Option.{none, some}
use Rattle.rate.specs.Code.{rate_of}
use Rattle.rate_params.specs.declared.params.Params.{Params}
use Rattle.rate_params.specs.Params.{nrm, least}
use Rattle.cell.specs.declared.fields.Fields.{Fields}
use Rattle.cell.specs.Fields.{cell_name}
use Rattle.connection.specs.declared.parts.Pace.{Pace}
use Rattle.connection.specs.declared.parts.Pace.TheVariants.{Unsent, Running}
use Rattle.model.specs.Call.{Call, receiving}
use Rattle.abr_answers.specs.declared.calls.AbrAllowed.{AbrAllowed}
use Rattle.abr.specs.Contract.{ReturnsAllowed}
use Rattle.abr.specs.Exports.{Observation, Performs, Transcript, final_words, zeros}
use Rattle.promise_service.specs.Restart.{increase, Raises}
use Rattle.exports.specs.Exports.{params_observed}
use Rattle.exports_rates.specs.Seen.{Seen, watch, watched, seen_of}
use Rattle.exports_service.specs.Ready.{waits_seen, ready_seen}
use Rattle.exports_service.specs.Served.{latest_seen, ReadyNotAfter}

-- it has a cell to send as soon as its rate, and from k = 2 on Trm, let it
abbrev pub has_next_from : Params → Seen → Pace → Bool
has_next_from p k Unsent = waits_seen k
has_next_from p k (Running sent forward n turned) = (waits_seen k || eqb n (nrm p - 1)) || leb 2 n

pub record ReadySometime (p : Params) (acr : ℕ) (k : Seen) : Type 0 where
  pub instant : ℕ
  pub ready_at : ready_seen p acr k ≡ Some instant

-- abr_acr after the cell, with what is kept of the connection before the cell and after it
pub record RestartedSeen (p : Params) (f : Fields) (before after : Seen) (b : AbrAllowed) : Type 0 where
  pub refusal : b.refusal ≡ 0
  -- at least the increase, or ER if that is less, and so above 0
  pub raised : min (rate_of f.er) (increase p) ≤ b.acr
  pub moving : 0 < b.acr
  -- if it has a cell to send it is ready; if anything waits, no later than a gap at the new rate after its last cell
  pub ready : has_next_from p before before.pace ≡ true → ReadySometime p b.acr after
  pub soon : waits_seen before ≡ true → ReadyNotAfter (ready_seen p b.acr after) (latest_seen b.acr after)

-- after any exported calls from the zero table, whatever the rate is, 0 too
pub record ExportsRestart : Type 0 where
  pub rises :
      (cs : List Call) (os : List Observation) → Transcript cs zeros os → (octets : List ℕ) (f : Fields) → Raises octets f → (p : Params) → params_observed (cell_name f) none cs os ≡ some p → 1 ≤ increase p
      → (o : Observation) → Performs (receiving octets) (final_words zeros os) o → (b : AbrAllowed) → ReturnsAllowed (cell_name f) o.table b
      → RestartedSeen p f (seen_of (cell_name f) cs os) (watch (cell_name f) (receiving octets) o (watched (cell_name f) cs os)).connection b
  -- The increase must be at least one unit: without it, and without a minimum, no call raises a rate of 0.
  pub stays_at_zero :
      (cs : List Call) (os : List Observation) → Transcript cs zeros os → (c : Call) (o : Observation) → Performs c (final_words zeros os) o → (v : ℕ) (p : Params) → params_observed v none cs os ≡ some p
      → least p ≡ 0 → increase p ≡ 0 → (a b : AbrAllowed) → ReturnsAllowed v (final_words zeros os) a → ReturnsAllowed v o.table b → a.acr ≡ 0 → b.acr ≡ 0
