-- Idle slots can be left out of exported calls. Calls after one, with no time before its own, return and write the
-- same without it, and so do abr_acr, abr_next_ready, abr_status, abr_at and abr_member_at. An idle slot leaves its
-- time as the last accepted one. abr_link returns that, and all else the same; abr_slot_time passes no time before
-- that, so it returns the same for times that are not before the slot's.
-- (Beyond the documents' demands; document 01, "Slots" and refusal 14.)
use Rattle.std.specs.Prelude.{ℕ, ◌+◌, ◌≤◌, ◌≡◌, Bool, cond, ◌&&◌, List, [], ◌∷◌, eqb}
use Rattle.model.specs.Call.{Call, slot}
use Rattle.model.specs.Aspects.{Lent, for_slot, for_out_of_rate, not_lent, lent_of}
use Rattle.table_tournament.specs.Next.{GivesNext, GivesSlotTime}
use Rattle.abr_answers.specs.declared.calls.AbrAllowed.{AbrAllowed}
use Rattle.abr_answers.specs.declared.status.AbrConnection.{AbrConnection}
use Rattle.abr_answers.specs.declared.status.AbrMember.{AbrMember}
use Rattle.abr_answers.specs.declared.status.AbrTotals.{AbrTotals}
use Rattle.abr.specs.Contract.{ReturnsAllowed, ReturnsStatus, ReturnsAt, ReturnsMember, ReturnsTotals}
use Rattle.abr.specs.Exports.{Observation, Performs, Transcript, final_words, zeros}
use Rattle.laws.specs.All.{All}
use Rattle.promise_lists.specs.Demand3.{InPlace}
use Rattle.promise_service.specs.PassedOver.{slot_taken}
use Rattle.promise_service.specs.LeftOut.{NotBefore}
use Rattle.abr_answers.specs.Reply.{Reply}

-- what abr_link returns, with another last accepted time
abbrev pub with_last : (last : ℕ) → AbrTotals → AbrTotals
with_last n r = record { connections = r.connections; connections_max = r.connections_max; members = r.members; level = r.level; last = n }

-- A caller sees no difference where slots up to t were left out. This holds for what was returned, with what the
-- documents do not ask for, for the octets of a buffer that was the same before, and for what abr_acr, abr_next_ready,
-- abr_status, abr_at and abr_member_at return afterwards. It holds for what abr_slot_time returns where that looks
-- back no further than t, and for all that abr_link returns but the last accepted time.
pub record SameWithoutSlots (t : ℕ) (o q : Observation) : Type 0 where
  pub returned : o.returned ≡ q.returned
  pub besides : o.besides ≡ q.besides
  pub cells : o.cells ≡ q.cells
  pub octets : o.old ≡ q.old → o.new ≡ q.new
  pub rates : (v : ℕ) (a b : AbrAllowed) → ReturnsAllowed v o.table a → ReturnsAllowed v q.table b → a ≡ b
  pub next : (a b : ℕ) → GivesNext o.table a → GivesNext q.table b → a ≡ b
  pub times : (now lag a b : ℕ) → t + lag ≤ now → GivesSlotTime o.table now lag a → GivesSlotTime q.table now lag b → a ≡ b
  pub status : (v : ℕ) (a b : AbrConnection) → ReturnsStatus v o.table a → ReturnsStatus v q.table b → a ≡ b
  pub leaves : (i : ℕ) (a b : AbrConnection) → ReturnsAt i o.table a → ReturnsAt i q.table b → a ≡ b
  pub members : (i : ℕ) (a b : AbrMember) → ReturnsMember i o.table a → ReturnsMember i q.table b → a ≡ b
  pub link : (a b : AbrTotals) → ReturnsTotals o.table a → ReturnsTotals q.table b → a ≡ with_last a.last b

-- a slot that returned 0 and no cell
abbrev pub idle_seen : Call → Reply → Bool
idle_seen c r = eqb (slot_taken c (eqb r.refusal 0)) 1 && eqb r.kind 0

-- a list of calls without these, and what was observed of the others
abbrev pub awake_seen : List Call → List Observation → List Call
awake_seen [] os = []
awake_seen (c ∷ cs) [] = []
awake_seen (c ∷ cs) (o ∷ os) = cond (idle_seen c o.returned) (awake_seen cs os) (c ∷ awake_seen cs os)

abbrev pub not_idle_seen : List Call → List Observation → List Observation
not_idle_seen [] os = []
not_idle_seen (c ∷ cs) [] = []
not_idle_seen (c ∷ cs) (o ∷ os) = cond (idle_seen c o.returned) (not_idle_seen cs os) (o ∷ not_idle_seen cs os)

abbrev pub slot_time_in : Lent → ℕ
slot_time_in (for_slot t) = t
slot_time_in (for_out_of_rate v) = 0
slot_time_in not_lent = 0

unfoldable pub time_of_slot : Call → ℕ
time_of_slot c = slot_time_in (lent_of c)

-- no time is before that of an idle slot in front of it: t is the latest of those so far
abbrev pub InOrderSeen : (t : ℕ) → List Call → List Observation → Type 0
InOrderSeen t [] os = Unit
InOrderSeen t (c ∷ cs) [] = Unit
InOrderSeen t (c ∷ cs) (o ∷ os) = NotBefore t c × InOrderSeen (cond (idle_seen c o.returned) (time_of_slot c) t) cs os

-- the time of the last idle slot, t if there is none
abbrev pub idle_until : (t : ℕ) → List Call → List Observation → ℕ
idle_until t [] os = t
idle_until t (c ∷ cs) [] = t
idle_until t (c ∷ cs) (o ∷ os) = idle_until (cond (idle_seen c o.returned) (time_of_slot c) t) cs os

-- After any exported calls from the zero table, and any calls ds behind them, once with and once without
pub record ExportsLeftOut : Type 0 where
  -- a slot in front of ds that returned 0 and no cell
  pub one :
      (cs : List Call) (os : List Observation) → Transcript cs zeros os → (t room : ℕ) (o : Observation) → Performs (slot t room) (final_words zeros os) o
      → o.returned.refusal ≡ 0 → o.returned.kind ≡ 0 → (ds : List Call) → All (NotBefore t) ds
      → (ps qs : List Observation) → Transcript ds o.table ps → Transcript ds (final_words zeros os) qs → InPlace (SameWithoutSlots t) ps qs
  -- all such slots of ds
  pub all :
      (cs : List Call) (os : List Observation) → Transcript cs zeros os → (ds : List Call) (ps : List Observation) → Transcript ds (final_words zeros os) ps → InOrderSeen 0 ds ps
      → (qs : List Observation) → Transcript (awake_seen ds ps) (final_words zeros os) qs → InPlace (SameWithoutSlots (idle_until 0 ds ps)) (not_idle_seen ds ps) qs
