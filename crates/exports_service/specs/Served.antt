-- A connection on which something waits is ready in time, and slots reach it. This is stated by what a
-- caller knows from the calls and what they returned. (Beyond document 01's demands; "Slots" says who is
-- ready when. Document 02, L5.)
use Rattle.std.specs.Prelude.{ℕ, ◌+◌, ◌≤◌, ◌<◌, ◌≡◌, true, List, length, Some}
use Rattle.std.proofs.Math.Option.{none, some}
use Rattle.rate.specs.Gap.{gap}
use Rattle.rate_params.specs.declared.params.Params.{Params}
use Rattle.rate_params.specs.Params.{least}
use Rattle.connection.specs.declared.parts.Pace.{Pace}
use Rattle.connection.specs.declared.parts.Pace.TheVariants.{Unsent, Running}
use Rattle.connection.specs.Parts.{Instant}
use Rattle.model.specs.State.{capacity}
use Rattle.model.specs.Call.{Call}
use Rattle.abr_answers.specs.declared.calls.AbrAllowed.{AbrAllowed}
use Rattle.abr.specs.Contract.{ReturnsAllowed}
use Rattle.abr.specs.Exports.{Observation, Transcript, final_words, zeros}
use Rattle.laws.specs.All.{All}
use Rattle.promise_service.specs.Liveness.{Somewhere, slots}
use Rattle.exports.specs.Exports.{params_observed}
use Rattle.exports.specs.Returned.{no_member, members_seen, places_seen}
use Rattle.exports_rates.specs.Seen.{Seen, seen_of}
use Rattle.exports_service.specs.Ready.{waits_seen, ready_seen}

-- before the first cell the opening time, afterwards a gap at this rate after the last cell
abbrev pub latest_from : (rate : ℕ) → Seen → Pace → ℕ
latest_from a k Unsent = k.opened
latest_from a k (Running sent forward n turned) = sent + gap a

abbrev pub latest_seen : (rate : ℕ) → Seen → ℕ
latest_seen a k = latest_from a k k.pace

pub record ReadyNotAfter (r : Instant) (latest : ℕ) : Type 0 where
  pub instant : ℕ
  pub ready_at : r ≡ Some instant
  pub soon : instant ≤ latest

-- one of these slots is v's
abbrev pub Reaches : List Call → List Observation → (v : ℕ) → (ts : List ℕ) → List Observation → Type 0
Reaches cs os v ts ps = Somewhere (λ x. x ≡ some v) (places_seen (members_seen no_member cs os) (slots ts) ps)

-- of a name that is open under p
pub record ServedSeen (cs : List Call) (os : List Observation) (v : ℕ) (p : Params) : Type 0 where
  -- if anything waits and the contract has a minimum, it is ready at most a gap at the minimum after its last cell
  pub guaranteed :
      waits_seen (seen_of v cs os) ≡ true → 0 < least p → (a : AbrAllowed) → ReturnsAllowed v (final_words zeros os) a
      → ReadyNotAfter (ready_seen p a.acr (seen_of v cs os)) (latest_seen (least p) (seen_of v cs os))
  -- with a minimum or without, no later than a gap at its rate, if that is above 0 (L5)
  pub ready :
      waits_seen (seen_of v cs os) ≡ true → (a : AbrAllowed) → ReturnsAllowed v (final_words zeros os) a → 0 < a.acr
      → ReadyNotAfter (ready_seen p a.acr (seen_of v cs os)) (latest_seen a.acr (seen_of v cs os))
  -- of as many slots in a row as connections can be open, none refused, all from its ready instant on, one is its own
  pub served :
      (a : AbrAllowed) → ReturnsAllowed v (final_words zeros os) a → (i : ℕ) → ready_seen p a.acr (seen_of v cs os) ≡ Some i
      → (ts : List ℕ) → length ts ≡ capacity → All (λ t. i ≤ t) ts → (ps : List Observation) → Transcript (slots ts) (final_words zeros os) ps → All (λ o. o.returned.refusal ≡ 0) ps
      → Reaches cs os v ts ps
  -- so, where anything waits and there is a minimum, of as many from a gap at the minimum after its last cell on
  pub in_time :
      waits_seen (seen_of v cs os) ≡ true → 0 < least p
      → (ts : List ℕ) → length ts ≡ capacity → All (λ t. latest_seen (least p) (seen_of v cs os) ≤ t) ts
      → (ps : List Observation) → Transcript (slots ts) (final_words zeros os) ps → All (λ o. o.returned.refusal ≡ 0) ps → Reaches cs os v ts ps

-- after any exported calls from the zero table
abbrev pub ExportsServed : Type 0
ExportsServed = (cs : List Call) (os : List Observation) → Transcript cs zeros os → (v : ℕ) (p : Params) → params_observed v none cs os ≡ some p → ServedSeen cs os v p
