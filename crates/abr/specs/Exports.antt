-- What lists of exported calls do to one lent table, as C sees it: numbers, structs, octets and words.
-- (Document 01, "What the library commits to", 1, and "The lists of demand 3"; document 02, L6, L12 and L13.)
use Rattle.std.specs.Prelude.{ℕ, ◌≡◌, List, [], ◌∷◌, length, replicate}
use Rattle.rate_params.specs.declared.params.Params.{Params}
use Rattle.cell.specs.Octets.{AreOctets}
use Rattle.cell.specs.Name.{address_name}
use Rattle.model.specs.State.{State, empty}
use Rattle.model.specs.Invariant.{WellFormed}
use Rattle.model.specs.Call.{Call, opening, closing, receiving, offering, levelling, slot, making, out_of_rate, opening_path, adding, offering_member, removing, Outcome, closed_cells}
use Rattle.model.specs.Step.{open_step, close_step, receive_step, offer_step, level_step, slot_step, make_step, out_of_rate_step, open_path_step, add_step, offer_member_step, remove_step, step}
use Rattle.model.specs.Queries.{acr_of, contract_of, next_ready, slot_time}
use Rattle.model.specs.Run.{run, final}
use Rattle.table.specs.Layout.{words, size}
use Rattle.table_tournament.specs.Next.{GivesNext, GivesSlotTime}
use Rattle.engine.specs.Contract.{buffer_content}
use Rattle.abr_answers.specs.declared.calls.AbrAllowed.{AbrAllowed}
use Rattle.abr_answers.specs.declared.calls.AbrAnswer.{AbrAnswer}
use Rattle.abr_answers.specs.declared.calls.AbrClosed.{AbrClosed}
use Rattle.abr_answers.specs.Calls.{refusal_alone, allowed_of}
use Rattle.abr_answers.specs.Reply.{Reply, no_cell, reply_of, reply_in}
use Rattle.rate_doubles.specs.declared.export.Exported.{Exported}
use Rattle.abr_answers.specs.Planning.{ExportedAs}
use Rattle.cell.specs.Reading.{reading}
use Rattle.model.specs.Aspects.{Sort, opener, closer, arrival, slot_at, another, sort_of}
use Rattle.model.specs.Details.{open_answer, receive_answer, slot_answer}
use Rattle.model.specs.Status.{status_of, status_at, member_status_at, totals}
use Rattle.abr_answers.specs.declared.details.AbrOpened.{AbrOpened}
use Rattle.abr_answers.specs.declared.details.AbrReceived.{AbrReceived}
use Rattle.abr_answers.specs.declared.details.AbrSent.{AbrSent}
use Rattle.abr_answers.specs.declared.status.AbrConnection.{AbrConnection}
use Rattle.abr_answers.specs.declared.status.AbrMember.{AbrMember}
use Rattle.abr_answers.specs.declared.status.AbrTotals.{AbrTotals}
use Rattle.abr_answers.specs.Details.{opened_of, received_of, sent_of}
use Rattle.abr_answers.specs.Status.{connection_shown, member_shown, totals_shown}
use Rattle.abr.specs.Contract.{ReturnsOpened, ReturnsAnswer, ReturnsClosed, ReturnsReceived, ReturnsRefusal, ReturnsRefusalWriting, ReturnsSent, ReturnsAllowed, ReturnsContract, ReturnsStatus, ReturnsAt, ReturnsMember, ReturnsTotals}

-- What a call returns besides what the documents ask for: the leaf of the connection; of a received cell its kind, its
-- pair and the allowed rate afterwards; of a slot the allowed rate before it, and whether the cell was a made one.
pub record Besides : Type 0 where
  pub leaf : ℕ
  pub kind : ℕ
  pub vpi : ℕ
  pub vci : ℕ
  pub acr : ℕ
  pub before : ℕ
  pub made : ℕ

abbrev pub nothing_besides : Besides
nothing_besides = record { leaf = 0; kind = 0; vpi = 0; vci = 0; acr = 0; before = 0; made = 0 }

abbrev pub besides_open : AbrOpened → Besides
besides_open r = record { leaf = r.leaf; kind = 0; vpi = 0; vci = 0; acr = 0; before = 0; made = 0 }

abbrev pub besides_receive : AbrReceived → Besides
besides_receive r = record { leaf = r.leaf; kind = r.kind; vpi = r.vpi; vci = r.vci; acr = r.acr; before = 0; made = 0 }

abbrev pub besides_slot : AbrSent → Besides
besides_slot r = record { leaf = r.leaf; kind = 0; vpi = 0; vci = 0; acr = 0; before = r.acr_before; made = r.made }

-- as the definitions have it, of this sort of call on this table with this outcome
abbrev pub besides_by : State → Outcome → Sort → Besides
besides_by s p (opener v t q) = besides_open (opened_of (open_answer s p))
besides_by s p (closer v) = nothing_besides
besides_by s p (arrival octets) = besides_receive (received_of (receive_answer (reading octets) s p))
besides_by s p (slot_at t) = besides_slot (sent_of (slot_answer s p))
besides_by s p another = nothing_besides

-- What a caller sees of one call: the words of the table after it, what it returned, besides that and as the data
-- cells of a close or a removal too, and the lent buffer before and after it.
pub record Observation : Type 0 where
  pub table : List ℕ
  pub returned : Reply
  pub besides : Besides
  pub cells : ℕ
  pub old : List ℕ
  pub new : List ℕ

-- a call that is lent no buffer to write
abbrev pub no_slot : (table : List ℕ) → AbrAnswer → Observation
no_slot l r = record { table = l; returned = no_cell r.refusal r.comparisons; besides = nothing_besides; cells = 0; old = []; new = [] }

abbrev pub after_open : (table : List ℕ) → AbrOpened → Observation
after_open l r = record { table = l; returned = no_cell r.refusal r.comparisons; besides = besides_open r; cells = 0; old = []; new = [] }

abbrev pub after_receive : (table : List ℕ) → AbrReceived → Observation
after_receive l r = record { table = l; returned = no_cell r.refusal r.comparisons; besides = besides_receive r; cells = 0; old = []; new = [] }

abbrev pub after_close : (table : List ℕ) → AbrClosed → Observation
after_close l r = record { table = l; returned = no_cell r.refusal r.comparisons; besides = nothing_besides; cells = r.cells; old = []; new = [] }

-- One exported call on these words. Each case holds the ensures of one export: abr_open, abr_close, abr_receive,
-- abr_offer, abr_set_level, abr_make, abr_out_of_rate, abr_slot, abr_open_path, abr_add_member, abr_offer_member or
-- abr_remove_member. So every such call makes one of these.
pub data Performs : Call → (before : List ℕ) → Observation → Type 0 where
  abr_open : {vpi vci t : ℕ} {p : Params} {l m : List ℕ} {r : AbrOpened} → ReturnsOpened (λ s. open_step s vpi vci t p) l m r → Performs (opening vpi vci t p) l (after_open m r)
  abr_close : {vpi vci : ℕ} {l m : List ℕ} {r : AbrClosed} → ReturnsClosed (λ s. close_step s (address_name vpi vci)) l m r → Performs (closing vpi vci) l (after_close m r)
  -- the octets of a received cell are below 256, by C's type
  abr_receive : {o : List ℕ} {l m : List ℕ} {r : AbrReceived} → AreOctets o → ReturnsReceived o (λ s. receive_step s o) l m r → Performs (receiving o) l (after_receive m r)
  abr_offer : {vpi vci n : ℕ} {l m : List ℕ} {r : AbrAnswer} → ReturnsAnswer (λ s. offer_step s (address_name vpi vci) n) l m r → Performs (offering vpi vci n) l (no_slot m r)
  abr_set_level : {k : ℕ} {l m : List ℕ} {r : ℕ} → ReturnsRefusal (λ s. level_step s k) l m r → Performs (levelling k) l (no_slot m (refusal_alone r))
  abr_make : {vpi vci t : ℕ} {l m : List ℕ} {r : AbrAnswer} → ReturnsAnswer (λ s. make_step s (address_name vpi vci) t) l m r → Performs (making vpi vci t) l (no_slot m r)
  abr_out_of_rate :
      {vpi vci t : ℕ} {l m old new : List ℕ} {r : ℕ} → ReturnsRefusalWriting (λ s. out_of_rate_step s (address_name vpi vci) t (length old)) l m r old new
      → Performs (out_of_rate vpi vci t (length old)) l (record { table = m; returned = no_cell r 0; besides = nothing_besides; cells = 0; old = old; new = new })
  abr_slot :
      {t : ℕ} {l m old new : List ℕ} {r : AbrSent} → ReturnsSent (λ s. slot_step s t (length old)) l m r old new
      → Performs (slot t (length old)) l (record { table = m; returned = reply_in r; besides = besides_slot r; cells = 0; old = old; new = new })
  abr_open_path : {vpi t : ℕ} {p : Params} {l m : List ℕ} {r : AbrOpened} → ReturnsOpened (λ s. open_path_step s vpi t p) l m r → Performs (opening_path vpi t p) l (after_open m r)
  abr_add_member : {vpi vci : ℕ} {l m : List ℕ} {r : AbrAnswer} → ReturnsAnswer (λ s. add_step s vpi vci) l m r → Performs (adding vpi vci) l (no_slot m r)
  abr_offer_member :
      {vpi vci n : ℕ} {l m : List ℕ} {r : AbrAnswer} → ReturnsAnswer (λ s. offer_member_step s vpi vci n) l m r → Performs (offering_member vpi vci n) l (no_slot m r)
  abr_remove_member : {vpi vci : ℕ} {l m : List ℕ} {r : AbrClosed} → ReturnsClosed (λ s. remove_step s vpi vci) l m r → Performs (removing vpi vci) l (after_close m r)

-- calls in a row, each on the words that the call before it left
pub data Transcript : List Call → (first : List ℕ) → List Observation → Type 0 where
  ended : {l : List ℕ} → Transcript [] l []
  then : {c : Call} {cs : List Call} {l : List ℕ} {o : Observation} {os : List Observation} → Performs c l o → Transcript cs o.table os → Transcript (c ∷ cs) l (o ∷ os)

-- the words after all of them
abbrev pub final_words : (first : List ℕ) → List Observation → List ℕ
final_words l [] = l
final_words l (o ∷ os) = final_words o.table os

-- the zero table, as a caller first lends it
abbrev pub zeros : List ℕ
zeros = replicate size 0

-- a call did what the definitions say: table, answer and buffer
pub record Matches (p : Outcome) (o : Observation) : Type 0 where
  pub table : o.table ≡ words p.state
  pub returned : o.returned ≡ reply_of p.answer
  pub cells : o.cells ≡ closed_cells p.answer
  pub buffer : o.new ≡ buffer_content p.buffer o.old

-- each of them in its place, and as many of the one as of the other
pub data AllMatch : List Outcome → List Observation → Type 0 where
  neither : AllMatch [] []
  both : {p : Outcome} {ps : List Outcome} {o : Observation} {os : List Observation} → Matches p o → AllMatch ps os → AllMatch (p ∷ ps) (o ∷ os)

-- Exported calls do what `run` says.
pub record ExportsAreRun : Type 0 where
  -- from the words of any well-formed table
  pub onward :
      (s : State) → WellFormed s → (cs : List Call) (l : List ℕ) (os : List Observation) → Transcript cs l os → l ≡ words s
      → AllMatch (run s cs) os × (final_words l os ≡ words (final s cs))
  -- from the zero table: every call of the list, and the words that are left
  pub each : (cs : List Call) (os : List Observation) → Transcript cs zeros os → AllMatch (run empty cs) os
  pub last : (cs : List Call) (os : List Observation) → Transcript cs zeros os → final_words zeros os ≡ words (final empty cs)
  -- what a call after them returns besides
  pub besides :
      (cs : List Call) (os : List Observation) → Transcript cs zeros os → (c : Call) (o : Observation) → Performs c (final_words zeros os) o
      → o.besides ≡ besides_by (final empty cs) (step (final empty cs) c) (sort_of c)
  -- and reading an ACR after them
  pub acr :
      (cs : List Call) (os : List Observation) → Transcript cs zeros os → (v : ℕ) (r : AbrAllowed) → ReturnsAllowed v (final_words zeros os) r
      → r ≡ allowed_of (acr_of (final empty cs) v)
  -- or exporting a contract
  pub contract :
      (cs : List Call) (os : List Observation) → Transcript cs zeros os → (v n : ℕ) (r : Exported) → ReturnsContract v (final_words zeros os) n r
      → ExportedAs (contract_of (final empty cs) v) n r
  -- or asking for the next ready instant, which is the ensures of abr_next_ready
  pub next : (cs : List Call) (os : List Observation) → Transcript cs zeros os → (r : ℕ) → GivesNext (final_words zeros os) r → r ≡ next_ready (final empty cs)
  -- or for the time to pass to a slot, which is the ensures of abr_slot_time
  pub slot_timed :
      (cs : List Call) (os : List Observation) → Transcript cs zeros os → (now lag r : ℕ) → GivesSlotTime (final_words zeros os) now lag r
      → r ≡ slot_time (final empty cs) now lag
  -- or everything of a name, of a leaf, of a member by its number, and of the link
  pub status :
      (cs : List Call) (os : List Observation) → Transcript cs zeros os → (v : ℕ) (r : AbrConnection) → ReturnsStatus v (final_words zeros os) r
      → r ≡ connection_shown (status_of (final empty cs) v)
  pub leaf :
      (cs : List Call) (os : List Observation) → Transcript cs zeros os → (i : ℕ) (r : AbrConnection) → ReturnsAt i (final_words zeros os) r
      → r ≡ connection_shown (status_at (final empty cs) i)
  pub member :
      (cs : List Call) (os : List Observation) → Transcript cs zeros os → (i : ℕ) (r : AbrMember) → ReturnsMember i (final_words zeros os) r
      → r ≡ member_shown (member_status_at (final empty cs) i)
  pub link : (cs : List Call) (os : List Observation) → Transcript cs zeros os → (r : AbrTotals) → ReturnsTotals (final_words zeros os) r → r ≡ totals_shown (totals (final empty cs))
