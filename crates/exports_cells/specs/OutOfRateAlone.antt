-- An out-of-rate cell changes neither k, Y, ACR nor the last forward and send instants. Stated for exported calls:
-- it can be left out. Later calls return and write the same with it and without it, and so do abr_acr, abr_next_ready
-- and abr_member_at between them. Only its own instant counts: abr_status and abr_at show it of its connection, and
-- abr_link may show it as the last accepted time. Later times are not before it, abr_slot_time looks back no further
-- than it, and the next such cell of its connection comes 100 ms later. (Document 02, L5 and L13; source rule 11.)
use Rattle.std.specs.Prelude.{ℕ, ◌+◌, ◌≤◌, ◌≡◌, ◌≢◌, List}
use Rattle.std.proofs.Math.Option.{Option}
use Rattle.cell.specs.Name.{name_from, address_name}
use Rattle.connection_members.specs.Path.{path_of}
use Rattle.model.specs.Call.{Call, out_of_rate}
use Rattle.model.specs.Aspects.{Asked, asks_made, asks_out_of_rate, asks_none, asked_of, time_of}
use Rattle.table_tournament.specs.Next.{GivesNext, GivesSlotTime}
use Rattle.abr_answers.specs.declared.calls.AbrAllowed.{AbrAllowed}
use Rattle.abr_answers.specs.declared.status.AbrConnection.{AbrConnection}
use Rattle.abr_answers.specs.declared.status.AbrMember.{AbrMember}
use Rattle.abr_answers.specs.declared.status.AbrTotals.{AbrTotals}
use Rattle.abr.specs.Contract.{ReturnsAllowed, ReturnsStatus, ReturnsAt, ReturnsMember, ReturnsTotals}
use Rattle.abr.specs.Exports.{Observation, Performs, Transcript, final_words, zeros}
use Rattle.laws.specs.All.{All}
use Rattle.promise_lists.specs.Demand3.{InPlace}
use Rattle.promise_service.specs.LeftOut.{NoneBefore}

-- a call whose time, if it has one, is not before t; one more out-of-rate cell of v comes 100 ms or more after t
abbrev pub LaterFor : (v t : ℕ) → (time : Option ℕ) → Asked → Type 0
LaterFor v t x (asks_made w u) = NoneBefore t x
LaterFor v t x (asks_out_of_rate w u) = NoneBefore t x × (w ≡ v → t + 100_000_000 ≤ u)
LaterFor v t x asks_none = NoneBefore t x

abbrev pub Later : (v t : ℕ) → Call → Type 0
Later v t c = LaterFor v t (time_of c) (asked_of c)

-- what abr_status or abr_at returns, with another instant of the last out-of-rate cell
abbrev pub with_last_out_of_rate : (last : ℕ) → AbrConnection → AbrConnection
with_last_out_of_rate n r = record {
  refusal = r.refusal;
  kind = r.kind;
  vpi = r.vpi;
  vci = r.vci;
  leaf = r.leaf;
  waiting = r.waiting;
  params = r.params;
  crm = r.crm;
  icr_used = r.icr_used;
  acr = r.acr;
  change = r.change;
  opened = r.opened;
  last_sent = r.last_sent;
  last_forward = r.last_forward;
  ready = r.ready;
  last_made = r.last_made;
  last_out_of_rate = n;
  k = r.k;
  unanswered = r.unanswered;
  backward_sent = r.backward_sent;
  efci = r.efci;
  turned = r.turned;
  made_level = r.made_level;
  served = r.served;
  reserved = r.reserved;
}

-- all but that instant is the same, and all of another connection
pub record SameShown (Another : Type 0) (a b : AbrConnection) : Type 0 where
  pub but_instant : a ≡ with_last_out_of_rate a.last_out_of_rate b
  pub another : Another → a ≡ b

-- abr_acr, abr_next_ready and abr_member_at return the same on both lists of words. So does abr_slot_time where it
-- looks back no further than t. abr_status and abr_at return all but that instant the same, and that instant too for
-- a name that is neither v nor a member (kind 3) of the path v, and for a leaf that is not v's. abr_link returns the
-- same number of connections and members, and the same level.
pub record SameRead (v t : ℕ) (l m : List ℕ) : Type 0 where
  pub acr : (u : ℕ) (a b : AbrAllowed) → ReturnsAllowed u l a → ReturnsAllowed u m b → a ≡ b
  pub next : (i j : ℕ) → GivesNext l i → GivesNext m j → i ≡ j
  pub times : (now lag i j : ℕ) → t + lag ≤ now → GivesSlotTime l now lag i → GivesSlotTime m now lag j → i ≡ j
  pub status : (u : ℕ) (a b : AbrConnection) → ReturnsStatus u l a → ReturnsStatus u m b → SameShown ((u ≢ v) × (a.kind ≡ 3 → path_of u ≢ v)) a b
  pub leaves : (i : ℕ) (a b : AbrConnection) → ReturnsAt i l a → ReturnsAt i m b → SameShown (name_from a.vpi a.vci ≢ v) a b
  pub members : (i : ℕ) (a b : AbrMember) → ReturnsMember i l a → ReturnsMember i m b → a ≡ b
  pub link : (a b : AbrTotals) → ReturnsTotals l a → ReturnsTotals m b → (a.connections ≡ b.connections) × (a.members ≡ b.members) × (a.level ≡ b.level)

-- the same returned, with what the documents do not ask for, the same written into equal buffers, and the same read
-- after it
pub record SameWithoutCell (v t : ℕ) (o p : Observation) : Type 0 where
  pub returned : o.returned ≡ p.returned
  pub besides : o.besides ≡ p.besides
  pub cells : o.cells ≡ p.cells
  pub new : o.old ≡ p.old → o.new ≡ p.new
  pub read : SameRead v t o.table p.table

-- After any exported calls abr_out_of_rate returns 0. Any further calls follow, once with it and once without it.
pub record ExportsOutOfRateAlone : Type 0 where
  pub read :
      (cs : List Call) (os : List Observation) (vpi vci t room : ℕ) (o : Observation) → Transcript cs zeros os → Performs (out_of_rate vpi vci t room) (final_words zeros os) o
      → SameRead (address_name vpi vci) t o.table (final_words zeros os)
  pub later :
      (cs ds : List Call) (os ps qs : List Observation) (vpi vci t room : ℕ) (o : Observation) → Transcript cs zeros os → Performs (out_of_rate vpi vci t room) (final_words zeros os) o
      → o.returned.refusal ≡ 0 → Transcript ds o.table ps → Transcript ds (final_words zeros os) qs → All (Later (address_name vpi vci) t) ds → InPlace (SameWithoutCell (address_name vpi vci) t) ps qs
