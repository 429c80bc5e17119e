-- The explicit rate is obeyed. What abr_acr returns is at most max(MCR, min(PCR, ER)) of the connection's last
-- accepted backward cell. Before the first one it is at most the initial rate used. (Document 01, "Four moves of
-- the allowed rate"; document 02, L14.)
use Rattle.std.specs.Prelude.{ℕ, ◌≤◌, ◌≡◌, List, eqb}
use Rattle.std.proofs.Math.Option.{none, some}
use Rattle.rate_params.specs.declared.params.Params.{Params}
use Rattle.rate_params.specs.Params.{least}
use Rattle.model.specs.Call.{Call}
use Rattle.abr_answers.specs.declared.calls.AbrAllowed.{AbrAllowed}
use Rattle.abr.specs.Contract.{ReturnsAllowed}
use Rattle.abr.specs.Exports.{Observation, Transcript, final_words, zeros}
use Rattle.exports.specs.Along.{kept}
use Rattle.exports.specs.Exports.{params_observed}
use Rattle.promise_caps.specs.Known.{Known, unknown, known_by}

-- what a caller knows of a name, from a call and what it returned: 0 is no refusal
abbrev pub known_after : (v : ℕ) → Call → Observation → Known → Known
known_after v c o k = known_by v c (eqb o.returned.refusal 0) k

abbrev pub known_seen : (v : ℕ) → Known → List Call → List Observation → Known
known_seen v k cs os = kept (known_after v) k cs os

-- after calls from the zero table
abbrev pub known_from : List Call → List Observation → (v : ℕ) → Known
known_from cs os v = known_seen v unknown cs os

pub record ObeyedBy (cs : List Call) (os : List Observation) (v : ℕ) : Type 0 where
  -- it knows the parameters of an open connection
  pub given : (known_from cs os v).given ≡ params_observed v none cs os
  -- the rate of one is at most its cap, and at least its minimum
  pub rate : (p : Params) (a : AbrAllowed) → (known_from cs os v).given ≡ some p → ReturnsAllowed v (final_words zeros os) a → (least p ≤ a.acr) × (a.acr ≤ (known_from cs os v).cap)
  pub minimum : (p : Params) → (known_from cs os v).given ≡ some p → least p ≤ (known_from cs os v).cap

abbrev pub ExportsObeyed : Type 0
ExportsObeyed = (cs : List Call) (os : List Observation) → Transcript cs zeros os → (v : ℕ) → ObeyedBy cs os v
