-- One lemma for each way out of a slot.
use Prim.Native.Nat.{ℕ, ◌≤◌, ◌<◌}
use mathlib.Core.Path.{◌≡◌, refl, sym, ap, subst, ◌∙◌}
use mathlib.Core.List.{List}
use lib.ListN.{get_or, set}
use borrow.Author.Tests.{le-leb, lt-leb, eq-eqb, ne_eqb}
use Rattle.rate.specs.Units.{latest_time}
use Rattle.connection.specs.declared.parts.Connection.{Connection}
use Rattle.connection.specs.Kind.{kind_at}
use Rattle.connection.proofs.Waited.{data-waits}
use Rattle.model.specs.State.{State, free, taken, position, holds, find, with_time, capacity}
use Rattle.model.specs.Invariant.{WellFormed}
use Rattle.table.specs.Layout.{words, last_at}
use Rattle.model.specs.Winner.{Winner, none_ready, wins, winner}
use Rattle.std.specs.Prelude.{Option, Some, None}
use Rattle.table_tournament.specs.SlotWinner.{Picks, FindsSlotWinner, SlotWinnerInRange}
use Rattle.model.proofs.Preserved.{with_time-well-formed}
use Rattle.model.specs.Answers.{Answer, Refused, Accepted, Closed, Idle, Sent, SlotAnswer, SlotRefused, IdleSlot}
use Rattle.model.specs.Details.{sent_with, slot_answer}
use Rattle.model.specs.Call.{Outcome}
use Rattle.model.specs.Step.{refuse, slot_step, serve, serve_entry, send_step, idle_step}
use Rattle.engine.specs.Contract.{buffer_content}
use Rattle.engine_slots.specs.Slots.{Sends}
use Rattle.engine.proofs.Outcomes.{time-word}
use Rattle.laws.specs.Require.{require}

-- the words, the answer and the buffer of an outcome
abbrev LeavesOutcome : (m : List ℕ) (r : Answer) (old new : List ℕ) → Outcome → Type 0
LeavesOutcome m r old new o = (m ≡ words o.state) × (r ≡ o.answer) × (new ≡ buffer_content o.buffer old)

-- the same with what a slot answers
abbrev LeavesSlot : State → (m : List ℕ) (r : SlotAnswer) (old new : List ℕ) → Outcome → Type 0
LeavesSlot s m r old new o = (m ≡ words o.state) × (r ≡ slot_answer s o) × (new ≡ buffer_content o.buffer old)

-- which does not depend on the last accepted time
timed-answer : (s : State) (t : ℕ) (a : Answer) → sent_with (with_time t s) a ≡ sent_with s a
unfolding with_time
timed-answer s t (Refused n) = refl
timed-answer s t (Accepted n) = refl
timed-answer s t (Closed n k) = refl
timed-answer s t Idle = refl
timed-answer s t (Sent v x k a n) = refl

pub refused-leaves : (l old : List ℕ) (o : Outcome) (s : State) (n : ℕ) → l ≡ words s → o ≡ refuse s n → LeavesOutcome l (Refused n) old old o
unfolding refuse
refused-leaves l old o s n e q = rw q (e, refl, refl)

pub slot-refused : (l old : List ℕ) (o : Outcome) (s : State) (n : ℕ) → l ≡ words s → o ≡ refuse s n → LeavesSlot s l (SlotRefused n) old old o
slot-refused l old o s n e q = let h = refused-leaves l old o s n e q in (h.0, ap (sent_with s) h.1, h.2)

module _ (s : State) (t room : ℕ) where
  pub slot-short : (room ≡ 53 → ⊥) → slot_step s t room ≡ refuse s 1
  unfolding slot_step require
  slot-short h = rw (ne_eqb room 53 h)

  pub slot-late : room ≡ 53 → latest_time < t → slot_step s t room ≡ refuse s 8
  unfolding slot_step require
  slot-late r h = rw (eq-eqb room 53 r, lt-leb t latest_time h)

  pub slot-early : room ≡ 53 → t ≤ latest_time → t < s.last → slot_step s t room ≡ refuse s 14
  unfolding slot_step require
  slot-early r u h = rw (eq-eqb room 53 r, le-leb t latest_time u, lt-leb s.last t h)

  served : room ≡ 53 → t ≤ latest_time → s.last ≤ t → slot_step s t room ≡ serve (with_time t s) t (winner t s.entries)
  unfolding slot_step require
  served r u h = rw (eq-eqb room 53 r, le-leb t latest_time u, le-leb s.last t h)

idle-serve : (s : State) (t : ℕ) (w : Winner) → w ≡ none_ready → serve s t w ≡ idle_step s
unfolding serve
idle-serve s t w e = rw e

send-serve :
    (s : State) (t j : ℕ) (w : Winner) (c : Connection) → w ≡ wins j c.name → find c.name s.entries ≡ taken c → serve s t w ≡ send_step s t c.name c (kind_at t c)
unfolding serve serve_entry
send-serve s t j w c e f = rw (e, f)

found_in : (s : State) (t i : ℕ) (c : Connection) → get_or s.entries i free ≡ taken c → position (holds c.name) s.entries ≡ i → find c.name (with_time t s).entries ≡ taken c
unfolding find with_time
found_in s t i c e p = ap (λ (k : ℕ). get_or s.entries k free) p ∙ e

-- A slot that is served: the choice was made on the words at entry, and the time is stored.
module _ (s : State) (w : WellFormed s) (l : List ℕ) (e : l ≡ words s) (t room : ℕ) (r : room ≡ 53) (u : t ≤ latest_time) (h : s.last ≤ t) (x : Option ℕ) (g : FindsSlotWinner l t x) where
  timed-words : set l last_at t ≡ words (with_time t s)
  timed-words = ap (λ (y : List ℕ). set y last_at t) e ∙ time-word s t

  pub idle-leaves : (old : List ℕ) → x ≡ None → LeavesSlot s (set l last_at t) IdleSlot old old (slot_step s t room)
  unfolding idle_step
  idle-leaves old q =
      let n = subst (λ (y : Option ℕ). Picks t s.entries y) q (g.is s w e) in
      rw (served s t room r u h ∙ idle-serve (with_time t s) t (winner t s.entries) n) (timed-words, refl, refl)

  pub send-leaves :
      (i : ℕ) → x ≡ Some i → (m : List ℕ) (a : SlotAnswer) (old new : List ℕ) → Sends t i (set l last_at t) m a old new → LeavesSlot s m a old new (slot_step s t room)
  unfolding with_time
  send-leaves i q m a old new k =
      let n = subst (λ (y : Option ℕ). Picks t s.entries y) q (g.is s w e) in
      let c = n.holder in
      let step : slot_step s t room ≡ send_step (with_time t s) t c.name c (kind_at t c) =
      served s t room r u h ∙ send-serve (with_time t s) t n.instant (winner t s.entries) c n.won (found_in s t i c n.here n.place) in
      let z = k.sends (with_time t s) c (record { reached = with_time-well-formed w t h u; timed = refl; here = n.here; place = n.place; leads = n.leads }) timed-words (λ q. data-waits t c n.instant n.ready_at n.due q) in
      subst (LeavesSlot s m a old new) (sym step) (z.0, z.1 ∙ timed-answer s t (send_step (with_time t s) t c.name c (kind_at t c)).answer, z.2)

pub entry-below : (x : Option ℕ) (i : ℕ) → SlotWinnerInRange x → x ≡ Some i → i < capacity
entry-below x i h q = subst SlotWinnerInRange q h
