-- Where slots go and what they send, in exported calls. A scan of all names picks the connection by the ready
-- instants. The slot rules give the kind of cell. A slot sends only what waits, and nothing early. All this
-- is stated by the calls, what they returned, and the rates that abr_acr returns. (Document 01, "Slots";
-- document 02, L4, L5 and L6.)
use Rattle.std.specs.Prelude.{ℕ, ◌+◌, ◌≤◌, ◌<◌, ◌≡◌, ◌≢◌, true, List, Some}
use Rattle.std.proofs.Math.Option.{none, some}
use Rattle.rate.specs.Gap.{gap}
use Rattle.rate_params.specs.declared.params.Params.{Params}
use Rattle.cell.specs.Name.{no_name}
use Rattle.connection.specs.declared.parts.Pace.{Pace}
use Rattle.connection.specs.declared.parts.Pace.TheVariants.{Unsent, Running}
use Rattle.connection.specs.Parts.{Instant}
use Rattle.model.specs.Winner.{Ahead}
use Rattle.model.specs.Call.{Call, slot}
use Rattle.abr_answers.specs.declared.calls.AbrAllowed.{AbrAllowed}
use Rattle.abr.specs.Contract.{ReturnsAllowed}
use Rattle.abr.specs.Exports.{Observation, Performs, Transcript, final_words, zeros}
use Rattle.exports.specs.Exports.{params_observed}
use Rattle.exports.specs.Returned.{no_member, members_seen, went_to}
use Rattle.exports_rates.specs.Seen.{Seen, seen_of}
use Rattle.exports_service.specs.Ready.{backward_seen, ready_under, kind_seen}

-- what abr_acr returns of every name of 24 bits, and the ready instants that follow
abbrev pub RatesOf : List ℕ → (ℕ → AbrAllowed) → Type 0
RatesOf l a = (u : ℕ) → u < no_name → ReturnsAllowed u l (a u)

abbrev pub ready_of : List Call → List Observation → (ℕ → AbrAllowed) → (u : ℕ) → Instant
ready_of cs os a u = ready_under (params_observed u none cs os) (a u).acr (seen_of u cs os)

-- v is ready, not after t, and comes before every other that is ever ready: earlier, or in a tie with the lower name
pub record Picked (ready : ℕ → Instant) (t v : ℕ) : Type 0 where
  pub instant : ℕ
  pub ready_at : ready v ≡ Some instant
  pub due : instant ≤ t
  pub first : (u j : ℕ) → ready u ≡ Some j → Ahead instant v j u

-- before the first cell not before the open, afterwards not before a gap at this rate after the last
abbrev pub NotEarlySeen : (t acr : ℕ) → Seen → Pace → Type 0
NotEarlySeen t a k Unsent = k.opened ≤ t
NotEarlySeen t a k (Running sent forward n turned) = sent + gap a ≤ t

-- what waited for a cell of this kind
pub record WaitedSeen (kind : ℕ) (k : Seen) : Type 0 where
  pub backward : kind ≡ 2 → backward_seen k ≡ true
  pub cells : kind ≡ 3 → 0 < k.waiting

-- a slot at t that returned no refusal
pub record SlotOf (cs : List Call) (os : List Observation) (a : ℕ → AbrAllowed) (t : ℕ) (o : Observation) : Type 0 where
  -- kind 0, idle: no connection is ready by then
  pub idle : o.returned.kind ≡ 0 → (u i : ℕ) → ready_of cs os a u ≡ Some i → t < i
  -- else it goes to the one that a scan of all names picks
  pub picks : (v : ℕ) → went_to (members_seen no_member cs os) o.returned ≡ some v → Picked (ready_of cs os a) t v
  -- whose rate is not 0, and whose last cell went a gap or more before
  pub moving : (v : ℕ) → went_to (members_seen no_member cs os) o.returned ≡ some v → (a v).acr ≢ 0
  pub spaced : (v : ℕ) → went_to (members_seen no_member cs os) o.returned ≡ some v → NotEarlySeen t (a v).acr (seen_of v cs os) (seen_of v cs os).pace
  -- it sends a cell of the kind that the rules give, and only what waits
  pub kind :
      (v : ℕ) (p : Params) → went_to (members_seen no_member cs os) o.returned ≡ some v → params_observed v none cs os ≡ some p
      → o.returned.kind ≡ kind_seen p t (seen_of v cs os)
  pub waited : (v : ℕ) → went_to (members_seen no_member cs os) o.returned ≡ some v → WaitedSeen o.returned.kind (seen_of v cs os)
  -- idle or with a data cell it leaves the lent buffer
  pub unwritten : o.returned.kind ≢ 1 → o.returned.kind ≢ 2 → o.new ≡ o.old
  -- it returns the rate that abr_acr returns after it
  pub acr : (v : ℕ) → went_to (members_seen no_member cs os) o.returned ≡ some v → (b : AbrAllowed) → ReturnsAllowed v o.table b → o.returned.acr ≡ b.acr

-- after any exported calls from the zero table
abbrev pub ExportsSlots : Type 0
ExportsSlots =
    (cs : List Call) (os : List Observation) → Transcript cs zeros os → (a : ℕ → AbrAllowed) → RatesOf (final_words zeros os) a
    → (t room : ℕ) (o : Observation) → Performs (slot t room) (final_words zeros os) o → o.returned.refusal ≡ 0 → SlotOf cs os a t o
