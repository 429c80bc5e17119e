-- A policer finds nothing to drop. This is stated for what a caller records: the pairs and kinds that abr_slot
-- returned, the times passed, and the rates that abr_acr returned before.
use Rattle.std.specs.Prelude.{ℕ, ◌≡◌, List}
use Rattle.std.proofs.Math.Option.{none, some}
use Rattle.rate.specs.Gap.{gap}
use Rattle.rate_params.specs.declared.params.Params.{Params}
use Rattle.rate_params.specs.Params.{peak}
use Rattle.model.specs.Call.{Call}
use Rattle.abr_answers.specs.declared.calls.AbrAllowed.{AbrAllowed}
use Rattle.abr.specs.Exports.{Observation, Transcript, final_words, zeros}
use Rattle.exports.specs.Exports.{params_observed}
use Rattle.exports.specs.Recorded.{recorded, RatesRead}
use Rattle.exports.specs.Returned.{no_member, members_seen}
use Rattle.promise_delivery.specs.Policed.{PolicedCells}

-- After any exported calls a connection is open with the parameters p. Any further
-- calls follow, until it is closed.
abbrev pub ExportsPoliced : Type 0
ExportsPoliced =
    (cs ds : List Call) (os ps : List Observation) (v : ℕ) (p : Params) (rs : List AbrAllowed) → Transcript cs zeros os → Transcript ds (final_words zeros os) ps → params_observed v none cs os ≡ some p
    → RatesRead v (final_words zeros os) ps rs → PolicedCells (gap (peak p)) (recorded v (members_seen no_member cs os) ds ps rs)
