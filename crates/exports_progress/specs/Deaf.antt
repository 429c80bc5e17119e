-- The rate of a source that hears nothing falls. This is stated for exported calls, by the forward cells
-- that slots returned and what abr_acr returns before and after them. (Document 01, "Four moves of the
-- allowed rate"; source rule 6.)
use Rattle.std.specs.Prelude.{ℕ, ◌+◌, ◌≤◌, min, max, ◌≡◌, ◌≢◌, cond, ◌&&◌, List, eqb}
use Rattle.std.proofs.Math.Option.{none, some}
use Rattle.rate_params.specs.declared.params.Params.{Params}
use Rattle.rate_params.specs.Params.{least, initial_used, crm}
use Rattle.cell.specs.Name.{name_from}
use Rattle.model.specs.Call.{Call}
use Rattle.abr_answers.specs.declared.calls.AbrAllowed.{AbrAllowed}
use Rattle.abr.specs.Contract.{ReturnsAllowed}
use Rattle.abr.specs.Exports.{Observation, Transcript, final_words, zeros}
use Rattle.laws.specs.All.{All}
use Rattle.promise_service.specs.Deaf.{cut_times, Unheard, Silent}
use Rattle.exports.specs.Exports.{params_observed}
use Rattle.exports.specs.Conservation.{sum_observed}
use Rattle.exports_rates.specs.Seen.{seen_of}
use Rattle.abr_answers.specs.Reply.{Reply}

-- 1 for a slot that returned kind 1, a forward cell, and the pair of v
abbrev pub forward_returned : (v : ℕ) → Reply → ℕ
forward_returned v r = cond (eqb r.kind 1 && eqb (name_from r.vpi r.vci) v) 1 0

abbrev pub forwards_returned : (v : ℕ) → List Call → List Observation → ℕ
forwards_returned v = sum_observed (λ c o. forward_returned v o.returned)

-- After any exported calls from the zero table a name is open with CDF above zero. Any further calls follow,
-- without its close or an answer to it. Then the forward cells since its last answer pass CRM by j, and at least j
-- of them are among the further calls. So the rate that abr_acr returns was cut j times.
abbrev pub ExportsDeafFalls : Type 0
ExportsDeafFalls =
    (cs : List Call) (os : List Observation) → Transcript cs zeros os → (v : ℕ) (p : Params) → params_observed v none cs os ≡ some p → p.c ≢ 7
    → (ds : List Call) (ps : List Observation) → Transcript ds (final_words zeros os) ps → All (Unheard v) ds
    → (j : ℕ) → j ≤ forwards_returned v ds ps → crm p + j ≤ (seen_of v cs os).unanswered + forwards_returned v ds ps
    → (a b : AbrAllowed) → ReturnsAllowed v (final_words zeros os) a → ReturnsAllowed v (final_words (final_words zeros os) ps) b
    → b.acr ≤ max (least p) (cut_times j p.c a.acr)

-- with CDF zero and no backward cell of it among the calls, the rate falls no lower than the initial rate
-- used, by the first cell or idle
abbrev pub ExportsDeafStays : Type 0
ExportsDeafStays =
    (cs : List Call) (os : List Observation) → Transcript cs zeros os → (v : ℕ) (p : Params) → params_observed v none cs os ≡ some p → p.c ≡ 7
    → (ds : List Call) (ps : List Observation) → Transcript ds (final_words zeros os) ps → All (Silent v) ds
    → (a b : AbrAllowed) → ReturnsAllowed v (final_words zeros os) a → ReturnsAllowed v (final_words (final_words zeros os) ps) b → b.refusal ≡ 0
    → min a.acr (initial_used p) ≤ b.acr
