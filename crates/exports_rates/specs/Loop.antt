-- A source and a port that all its backward cells pass, in exported calls. The rate that abr_acr returns is never
-- above the settled one, settles there, and follows a change of the share. This holds for channels and paths.
-- (Document 01, "Four moves of the allowed rate"; document 02, L10.)
use Rattle.std.specs.Prelude.{ℕ, suc, ◌+◌, ◌-◌, ◌*◌, ◌≤◌, ◌<◌, min, ◌≡◌, ◌≢◌, Bool, List, [], ◌∷◌}
use Rattle.std.proofs.Math.Option.{none, some}
use Rattle.rate_params.specs.declared.params.Params.{Params}
use Rattle.rate_params.specs.Params.{crm, adtf_time}
use Rattle.cell.specs.Name.{name_from, address_name}
use Rattle.port_share.specs.Share.{Share}
use Rattle.connection.specs.declared.parts.Pace.TheVariants.{Running}
use Rattle.model.specs.Call.{Call, closing, receiving, slot}
use Rattle.abr_answers.specs.declared.calls.AbrAllowed.{AbrAllowed}
use Rattle.abr.specs.Contract.{ReturnsAllowed}
use Rattle.abr.specs.Exports.{Observation, Transcript, final_words, zeros}
use Rattle.promise_lists.specs.Demand3.{NotAbove}
use Rattle.promise_service.specs.Restart.{increase}
use Rattle.promise_cells.specs.Changes.{NotFedBack}
use Rattle.promise_loop.specs.Settled.{feedback_bound}
use Rattle.promise_loop.specs.Share.{settled}
use Rattle.promise_loop.specs.Loop.{FromPort, Unmarked}
use Rattle.exports.specs.Exports.{params_observed, rate_returned}
use Rattle.exports_rates.specs.Seen.{Seen, Watched, watch, watched_from, watched}

-- n of these calls are backward cells of v, each of them a `Cell`. The first call met these words. For each other
-- call `Other` holds, by what is kept of v before it.
pub data FeedbacksSeen (v : ℕ) (Cell : List ℕ → Type 0) (Other : Watched → List ℕ → Call → Observation → Type 0) : Watched → (words : List ℕ) → ℕ → List Call → List Observation → Type 0 where
  ended : {k : Watched} {l : List ℕ} → FeedbacksSeen v Cell Other k l 0 [] []
  fed_back :
      {k : Watched} {l : List ℕ} {n : ℕ} {octets : List ℕ} {cs : List Call} {o : Observation} {os : List Observation} → Cell octets
      → FeedbacksSeen v Cell Other (watch v (receiving octets) o k) o.table n cs os → FeedbacksSeen v Cell Other k l (suc n) (receiving octets ∷ cs) (o ∷ os)
  other_call :
      {k : Watched} {l : List ℕ} {n : ℕ} {c : Call} {cs : List Call} {o : Observation} {os : List Observation} → NotFedBack v c → Other k l c o
      → FeedbacksSeen v Cell Other (watch v c o k) o.table n cs os → FeedbacksSeen v Cell Other k l n (c ∷ cs) (o ∷ os)

-- the call does not close v
pub record NotClosedSeen (v : ℕ) (k : Watched) (l : List ℕ) (c : Call) (o : Observation) : Type 0 where
  pub other_name : (vpi vci : ℕ) → c ≡ closing vpi vci → address_name vpi vci ≢ v

-- abr_acr was called before the call and after it, and gave the same rate
pub record RateKeptSeen (v : ℕ) (k : Watched) (l : List ℕ) (c : Call) (o : Observation) : Type 0 where
  pub before : AbrAllowed
  pub after : AbrAllowed
  pub answers_before : ReturnsAllowed v l before
  pub answers_after : ReturnsAllowed v o.table after
  pub same : rate_returned after ≡ rate_returned before

-- enough for the moves before a forward cell at t to leave the rate: it is not the first, at most ADTF has passed
-- since the last, and fewer than CRM are unanswered or CDF is zero
pub record UnmovedSeen (p : Params) (t : ℕ) (k : Seen) : Type 0 where
  pub sent : ℕ
  pub forward : ℕ
  pub n : ℕ
  pub turned : Bool
  pub later : k.pace ≡ Running sent forward n turned
  pub recent : t - forward ≤ adtf_time p
  pub answered : p.c ≢ 7 → k.unanswered < crm p

-- the call does not close v; if it is a slot that returned a forward cell of v (kind 1),
-- the cell's moves leave the rate
pub record NotLoweredSeen (v : ℕ) (p : Params) (k : Watched) (l : List ℕ) (c : Call) (o : Observation) : Type 0 where
  pub not_closed : NotClosedSeen v k l c o
  pub forward_cell : (t room : ℕ) → c ≡ slot t room → o.returned.kind ≡ 1 → name_from o.returned.vpi o.returned.vci ≡ v → UnmovedSeen p t k.connection

-- the rate stays over the call: as it was read, or because no forward cell lowers it
pub data RateLeft (v : ℕ) (p : Params) (k : Watched) (l : List ℕ) (c : Call) (o : Observation) : Type 0 where
  read_same : RateKeptSeen v k l c o → RateLeft v p k l c o
  not_lowered : NotLoweredSeen v p k l c o → RateLeft v p k l c o

-- whatever abr_acr returns before the call and after it, the rate is the same
pub record SameRate (v : ℕ) (k : Watched) (l : List ℕ) (c : Call) (o : Observation) : Type 0 where
  pub same : (a b : AbrAllowed) → ReturnsAllowed v l a → ReturnsAllowed v o.table b → rate_returned b ≡ rate_returned a

-- After any exported calls cs from the zero table v is open under p. After further calls abr_acr is called. Where
-- a move of its own lowered the rate, the count starts again after that move.
pub record LoopSeen (cs : List Call) (os : List Observation) (v : ℕ) (p : Params) (share : Share) : Type 0 where
  -- once one backward cell came from the port, the rate is never above the settled one, whatever marks the cells
  -- carry and whatever else moves the rate
  pub never_above :
      (n : ℕ) (ds : List Call) (ps : List Observation) → Transcript ds (final_words zeros os) ps
      → FeedbacksSeen v (FromPort v share) (NotClosedSeen v) (watched v cs os) (final_words zeros os) (suc n) ds ps
      → (b : AbrAllowed) → ReturnsAllowed v (final_words (final_words zeros os) ps) b → NotAbove (some (settled p share)) (rate_returned b)
  -- n + 1 backward cells without marks add as many increases, up to the settled rate, if nothing else moves the rate
  pub rises :
      (n : ℕ) (ds : List Call) (ps : List Observation) → Transcript ds (final_words zeros os) ps
      → FeedbacksSeen v (Unmarked v p share) (RateLeft v p) (watched v cs os) (final_words zeros os) (suc n) ds ps
      → (a b : AbrAllowed) → ReturnsAllowed v (final_words zeros os) a → ReturnsAllowed v (final_words (final_words zeros os) ps) b
      → rate_returned b ≡ some (min (settled p share) (a.acr + suc n * increase p))
  -- so `feedback_bound` of them bring it there from any rate, and more leave it there, if the
  -- increase is at least one unit
  pub reached :
      (n : ℕ) (ds : List Call) (ps : List Observation) → 1 ≤ increase p → feedback_bound p ≤ n → Transcript ds (final_words zeros os) ps
      → FeedbacksSeen v (Unmarked v p share) (RateLeft v p) (watched v cs os) (final_words zeros os) n ds ps
      → (b : AbrAllowed) → ReturnsAllowed v (final_words (final_words zeros os) ps) b → rate_returned b ≡ some (settled p share)
  pub stays :
      (n : ℕ) (ds : List Call) (ps : List Observation) → Transcript ds (final_words zeros os) ps
      → FeedbacksSeen v (Unmarked v p share) (RateLeft v p) (watched v cs os) (final_words zeros os) n ds ps
      → (a b : AbrAllowed) → ReturnsAllowed v (final_words zeros os) a → a.acr ≡ settled p share → ReturnsAllowed v (final_words (final_words zeros os) ps) b → rate_returned b ≡ some (settled p share)
  -- another share from some call on is reached likewise, wherever the rate was then
  pub followed :
      (other : Share) (m n : ℕ) (ds es : List Call) (ps qs : List Observation) → 1 ≤ increase p → feedback_bound p ≤ n → Transcript ds (final_words zeros os) ps
      → FeedbacksSeen v (FromPort v share) (NotClosedSeen v) (watched v cs os) (final_words zeros os) m ds ps
      → Transcript es (final_words (final_words zeros os) ps) qs
      → FeedbacksSeen v (Unmarked v p other) (RateLeft v p) (watched_from v (watched v cs os) ds ps) (final_words (final_words zeros os) ps) n es qs
      → (b : AbrAllowed) → ReturnsAllowed v (final_words (final_words (final_words zeros os) ps) qs) b → rate_returned b ≡ some (settled p other)
  -- Nothing else moves the rate where no forward cell of v lowers it. A caller knows that from the slots that
  -- returned one, and from the cells that it received.
  pub kept :
      (n : ℕ) (ds : List Call) (ps : List Observation) → Transcript ds (final_words zeros os) ps
      → FeedbacksSeen v (Unmarked v p share) (NotLoweredSeen v p) (watched v cs os) (final_words zeros os) n ds ps
      → FeedbacksSeen v (Unmarked v p share) (SameRate v) (watched v cs os) (final_words zeros os) n ds ps

abbrev pub ExportsLoop : Type 0
ExportsLoop = (cs : List Call) (os : List Observation) → Transcript cs zeros os → (v : ℕ) (p : Params) → params_observed v none cs os ≡ some p → (share : Share) → LoopSeen cs os v p share
