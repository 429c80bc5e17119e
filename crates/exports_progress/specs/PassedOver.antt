-- A connection that is ready is not passed over for long, whatever else is called. This is stated by what a caller
-- knows from the calls and what they returned. (Beyond document 01's demands; "Slots" says who is ready when.)
use Rattle.std.specs.Prelude.{ℕ, ◌+◌, ◌-◌, ◌≤◌, ◌<◌, ◌≡◌, ◌≢◌, true, cond, List, [], ◌∷◌, eqb}
use Rattle.std.proofs.Math.Option.{none, some}
use Rattle.rate_params.specs.declared.params.Params.{Params}
use Rattle.rate_params.specs.Params.{least}
use Rattle.model.specs.Call.{Call}
use Rattle.model.specs.Aspects.{Sort, opener, closer, arrival, slot_at, another, sort_of}
use Rattle.abr_answers.specs.declared.calls.AbrAllowed.{AbrAllowed}
use Rattle.abr.specs.Contract.{ReturnsAllowed}
use Rattle.abr.specs.Exports.{Observation, Transcript, final_words, zeros}
use Rattle.laws.specs.All.{All}
use Rattle.promise_service.specs.Liveness.{Somewhere}
use Rattle.promise_service.specs.PassedOver.{opens_by, slot_taken, SlotFrom, KeepsOpen}
use Rattle.exports.specs.Exports.{params_observed}
use Rattle.exports.specs.Returned.{no_member, members_seen, went_to, places_seen}
use Rattle.exports.specs.Conservation.{sum_observed}
use Rattle.exports.specs.Along.{kept}
use Rattle.exports_rates.specs.Seen.{Watched, watch, watched, seen_of}
use Rattle.exports_service.specs.Ready.{waits_seen}
use Rattle.exports_service.specs.Served.{latest_seen}

-- how many connections are open: one more after an open that returned 0, one less after such a close
abbrev pub open_by : ℕ → Sort → ℕ
open_by k (opener v t p) = k + 1
open_by k (closer v) = k - 1
open_by k (arrival o) = k
open_by k (slot_at t) = k
open_by k another = k

abbrev pub open_after : Call → ℕ → ℕ
open_after c k = open_by k (sort_of c)

abbrev pub counts_open : Call → Observation → ℕ → ℕ
counts_open c o k = cond (eqb o.returned.refusal 0) (open_after c k) k

-- the opens at m or before, and the slots, that returned 0
abbrev pub opens_returned : (m : ℕ) → List Call → List Observation → ℕ
opens_returned m = sum_observed (λ c o. opens_by m c (eqb o.returned.refusal 0))

abbrev pub slots_returned : List Call → List Observation → ℕ
slots_returned = sum_observed (λ c o. slot_taken c (eqb o.returned.refusal 0))

-- v is ready at m or before, by what is kept and by the rate that abr_acr returns of these words
pub record ReadySeen (m v : ℕ) (k : Watched) (l : List ℕ) : Type 0 where
  pub waits : waits_seen k.connection ≡ true
  pub rate : AbrAllowed
  pub read : ReturnsAllowed v l rate
  pub moving : 0 < rate.acr
  pub by : latest_seen rate.acr k.connection ≤ m

-- each slot that returned 0 came at m or later, when v was ready by m, until one returned a cell of it
abbrev pub FoundReadySeen : (m v : ℕ) → Watched → (before : List ℕ) → List Call → List Observation → Type 0
FoundReadySeen m v k l [] os = Unit
FoundReadySeen m v k l (c ∷ cs) [] = Unit
FoundReadySeen m v k l (c ∷ cs) (o ∷ os) =
    (slot_taken c (eqb o.returned.refusal 0) ≡ 1 → SlotFrom m c × ReadySeen m v k l)
    × (went_to k.member o.returned ≢ some v → FoundReadySeen m v (watch v c o k) o.table cs os)

-- After any exported calls from the zero table, any further calls follow. Count the slots among them
-- that returned 0. If these are as many as the connections that are open, plus those opened among
-- them by m, one slot is v's own.
pub record ExportsNotPassedOver : Type 0 where
  pub served :
      (cs : List Call) (os : List Observation) → Transcript cs zeros os → (v m : ℕ)
      → (ds : List Call) (ps : List Observation) → Transcript ds (final_words zeros os) ps → FoundReadySeen m v (watched v cs os) (final_words zeros os) ds ps
      → 0 < slots_returned ds ps → kept counts_open 0 cs os + opens_returned m ds ps ≤ slots_returned ds ps
      → Somewhere (λ x. x ≡ some v) (places_seen (members_seen no_member cs os) ds ps)
  -- So it is if v is open with a minimum above 0 and something waits on it. No further call closes v or removes
  -- one of its members. All slots come at m or later, and m is at least a gap at the minimum after its last cell.
  pub guaranteed :
      (cs : List Call) (os : List Observation) → Transcript cs zeros os → (v : ℕ) (p : Params) → params_observed v none cs os ≡ some p → 0 < least p
      → waits_seen (seen_of v cs os) ≡ true → (m : ℕ) → latest_seen (least p) (seen_of v cs os) ≤ m
      → (ds : List Call) (ps : List Observation) → Transcript ds (final_words zeros os) ps → All (KeepsOpen v) ds → All (SlotFrom m) ds
      → kept counts_open 0 cs os + opens_returned m ds ps ≤ slots_returned ds ps
      → Somewhere (λ x. x ≡ some v) (places_seen (members_seen no_member cs os) ds ps)
