-- The rounds of a transmitter that passes each slot the time that abr_slot_time returns. They are
-- stated by the numbers that exported calls return. Also what they deliver where no slot is passed
-- more than k behind its own time.
use Rattle.std.specs.Prelude.{ℕ, ◌+◌, ◌-◌, ◌*◌, ◌≤◌, min, max, ◌≡◌, Bool, true, cond, List, [], ◌∷◌, eqb}
use Rattle.std.proofs.Math.Option.{Option, none, some}
use Rattle.rate.specs.Units.{latest_time}
use Rattle.rate.specs.Gap.{gap}
use Rattle.rate_params.specs.declared.params.Params.{Params}
use Rattle.rate_params.specs.Params.{least}
use Rattle.model.specs.Call.{Call, slot}
use Rattle.table_tournament.specs.Next.{GivesNext, GivesSlotTime}
use Rattle.abr_answers.specs.declared.calls.AbrAllowed.{AbrAllowed}
use Rattle.abr.specs.Contract.{ReturnsAllowed}
use Rattle.abr.specs.Exports.{Observation, Performs, Transcript, final_words}
use Rattle.laws.specs.All.{All}
use Rattle.exports.specs.Exports.{params_observed}
use Rattle.exports.specs.Returned.{no_member, members_seen, went_to}
use Rattle.exports_rates.specs.Seen.{Watched, watch, watched_from, watched}
use Rattle.exports_service.specs.Ready.{waits_seen}
use Rattle.exports.specs.LastTime.{time_noted}
use Rattle.exports.specs.Along.{kept}
use Rattle.model.specs.Aspects.{sort_of}
use Rattle.promise_delivery.specs.Turns.{Turn, NoSlot}
use Rattle.promise_service.specs.Progress.{NotCloser}
use Rattle.promise_delivery.specs.Served.{moved_on, one_more}

-- One round: the calls since the last slot, with what they returned; the slot's own time; what abr_next_ready and
-- abr_slot_time return at it; what abr_slot did; and what abr_acr returns for each name before it.
pub record Round : Type 0 where
  pub between : List Call
  pub seen : List Observation
  pub now : ℕ
  pub next : ℕ
  pub passed : ℕ
  pub sent : Observation
  pub acrs : ℕ → AbrAllowed

-- the last accepted time, from the calls and the numbers that they returned
abbrev pub last_seen : (last : ℕ) → List Call → List Observation → ℕ
last_seen l cs os = kept time_noted l cs os

abbrev pub words_at : List ℕ → Round → List ℕ
words_at t x = final_words t x.seen

-- on a table with these words, the last accepted time being `last` and the slot before at m by the clock
pub record RoundRuns (S lag m last : ℕ) (t : List ℕ) (x : Round) : Type 0 where
  pub done : Transcript x.between t x.seen
  pub asked : GivesNext (words_at t x) x.next
  pub timed : GivesSlotTime (words_at t x) x.now lag x.passed
  pub slotted : Performs (slot x.passed 53) (words_at t x) x.sent
  pub read : (v : ℕ) → ReturnsAllowed v (words_at t x) (x.acrs v)
  pub others : All (λ c. NoSlot (sort_of c)) x.between
  -- Opens, made and out-of-rate cells take the last passed time, so only slots move the last accepted one.
  -- The clock is not behind that.
  pub still : last_seen last x.between x.seen ≡ last
  pub timely : last ≤ x.now
  pub in_range : x.now ≤ latest_time
  -- The slot comes at most S after the one before, or at most S after the last instant before the next ready one.
  -- A transmitter may sleep until then.
  pub soon : x.now ≤ max m (x.next - 1) + S

abbrev pub RoundsRun : (S lag m last : ℕ) → List ℕ → List Round → Type 0
RoundsRun S lag m last t [] = Unit
RoundsRun S lag m last t (x ∷ xs) = RoundRuns S lag m last t x × RoundsRun S lag x.now x.passed x.sent.table xs

abbrev pub turns_in : List Round → List Turn
turns_in [] = []
turns_in (x ∷ xs) = record { between = x.between; now = x.now } ∷ turns_in xs

-- the lag does not decide, and the slot is passed no more than k behind its own time
pub record PassedNear (k last : ℕ) (x : Round) : Type 0 where
  pub undelayed : x.passed ≡ min x.now (max x.next last)
  pub near : x.now ≤ x.passed + k

abbrev pub AllPassedNear : (k last : ℕ) → List Round → Type 0
AllPassedNear k last [] = Unit
AllPassedNear k last (x ∷ xs) = PassedNear k last x × AllPassedNear k x.passed xs

-- what a caller keeps of v before the slot of a round, by what it kept after the slot before, and after it
abbrev pub watched_at : (v : ℕ) → Watched → Round → Watched
watched_at v k x = watched_from v k x.between x.seen

abbrev pub watched_after : (v : ℕ) → Watched → Round → Watched
watched_after v k x = watch v (slot x.passed 53) x.sent (watched_at v k x)

-- something waits on v before the slot, data, a turned or a made cell; and v was not closed since the last slot
pub record WaitsBefore (v : ℕ) (k : Watched) (x : Round) : Type 0 where
  pub some : waits_seen (watched_at v k x).connection ≡ true
  pub kept : All (λ c. NotCloser v (sort_of c)) x.between

abbrev pub AllWaiting : (v : ℕ) → Watched → List Round → Type 0
AllWaiting v k [] = Unit
AllWaiting v k (x ∷ xs) = WaitsBefore v k x × AllWaiting v (watched_after v k x) xs

-- each slot's own time is at most `start`, plus a gap for each cell of v before it, plus k; f
-- says which pairs are members
abbrev pub AllSent : (v gap k start cells : ℕ) → (ℕ → Bool) → List Round → Type 0
AllSent v g k start n f [] = Unit
AllSent v g k start n f (x ∷ xs) =
    let h = members_seen f x.between x.seen in
    (x.now ≤ start + n * g + k) × AllSent v g k start (one_more v n (went_to h x.sent.returned)) h xs

-- the rate that abr_acr returns for v before each slot is from low to high
abbrev pub AllRatesIn : (v low high : ℕ) → List Round → Type 0
AllRatesIn v low high [] = Unit
AllRatesIn v low high (x ∷ xs) = ((low ≤ (x.acrs v).acr) × ((x.acrs v).acr ≤ high)) × AllRatesIn v low high xs

-- No slot is passed a time after `by`. A slot that returns a cell of v is passed no time before `from`. After a
-- cell of v, `by` is a gap at low after it, and `from` a gap at high.
abbrev pub AllSpaced : (v low high from by : ℕ) → (ℕ → Bool) → List Round → Type 0
AllSpaced v low high from by f [] = Unit
AllSpaced v low high from by f (x ∷ xs) =
    let h = members_seen f x.between x.seen in
    let w = went_to h x.sent.returned in
    ((x.passed ≤ by) × (w ≡ some v → from ≤ x.passed)) × AllSpaced v low high (moved_on v (gap high) x.passed from w) (moved_on v (gap low) x.passed by w) h xs

-- each cell of v is passed exactly a gap g after the one before, which was passed `last`: the first has none before it
abbrev pub ExactlyAfter : (g : ℕ) → (last : Option ℕ) → (passed : ℕ) → Type 0
ExactlyAfter g none t = Unit
ExactlyAfter g (some l) t = t ≡ l + g

unfoldable pub last_cell : (v passed : ℕ) → (last : Option ℕ) → Option ℕ → Option ℕ
last_cell v t l none = l
last_cell v t l (some u) = cond (eqb u v) (some t) l

abbrev pub AllExact : (v g : ℕ) → (last : Option ℕ) → (ℕ → Bool) → List Round → Type 0
AllExact v g l f [] = Unit
AllExact v g l f (x ∷ xs) =
    let h = members_seen f x.between x.seen in
    let w = went_to h x.sent.returned in
    (w ≡ some v → ExactlyAfter g l x.passed) × AllExact v g (last_cell v x.passed l w) h xs

-- after exported calls from the zero table
pub record RoundsDelivered (cs : List Call) (os : List Observation) (k : ℕ) (xs : List Round) : Type 0 where
  pub near : AllPassedNear k (last_seen 0 cs os) xs
  -- a connection with a minimum on which something waits at every slot has a cell for each gap at its
  -- minimum, except for one gap and k
  pub minimum :
      (v : ℕ) (p : Params) → params_observed v none cs os ≡ some p → 1 ≤ least p → AllWaiting v (watched v cs os) xs
      → AllSent v (gap (least p)) k (last_seen 0 cs os + gap (least p)) 0 (members_seen no_member cs os) xs
  -- at any rates its cells are passed at most a gap at the lowest rate, and at least a
  -- gap at the highest rate, apart
  pub spaced :
      (v low high : ℕ) (p : Params) → params_observed v none cs os ≡ some p → 1 ≤ low → AllWaiting v (watched v cs os) xs → AllRatesIn v low high xs
      → AllSpaced v low high 0 (last_seen 0 cs os + gap low) (members_seen no_member cs os) xs
  -- at a constant rate, from the second cell on, exactly a gap apart
  pub exact :
      (v a : ℕ) (p : Params) → params_observed v none cs os ≡ some p → 1 ≤ a → AllWaiting v (watched v cs os) xs → AllRatesIn v a a xs
      → AllExact v (gap a) none (members_seen no_member cs os) xs
