-- A slot at the time that abr_slot_time returned does what one at its own time would do.
use Prim.Native.Nat.{ℕ, ◌≤◌, ◌<◌}
use mathlib.Core.Path.{◌≡◌, refl, sym, ap, subst, ◌∙◌}
use mathlib.Core.Bool.{Bool, true, false}
use mathlib.Core.List.{List}
use native.Mathlib.Omega.{arith}
use lib.Dec.{leb}
use borrow.Author.Tests.{leb-true, leb-false, eq-eqb, eqb-true}
use Rattle.laws.specs.Require.{require}
use Rattle.rate.specs.Units.{latest_time}
use Rattle.abr_answers.specs.Reply.{Reply, reply_of}
use Rattle.model.specs.State.{State, Entry, free, taken, empty, find, with_time}
use Rattle.model.specs.Winner.{Winner, none_ready, wins, winner}
use Rattle.model.specs.Call.{Call, slot, Outcome}
use Rattle.model.specs.Step.{refuse, send_from, send_step, idle_step, serve_entry, serve, slot_step, step}
use Rattle.model.specs.Queries.{next_ready, slot_time}
use Rattle.model.specs.Run.{is_accepted, final}
use Rattle.model.proofs.Effects.{Effect, Timely, refuses, idles, sends, effect}
use Rattle.model.proofs.Reached.{reached-well-formed}
use Rattle.model.proofs.SlotTime.{slot-time}
use Rattle.table_tournament.specs.KeyedWinner.{keyed_node}
use Rattle.table_tournament.specs.Next.{GivesNext}
use Rattle.table_tournament.proofs.Winning.{gives-next}
use Rattle.abr.specs.Exports.{Observation, Performs, Transcript, Matches, final_words, zeros}
use Rattle.abr.proofs.Exports.{performs-matches, exports-are-run}
use Rattle.promise_service.specs.Liveness.{IsAccepted}
use Rattle.promise_delivery.specs.SlotTime.{TimePassed}
use Rattle.promise_delivery.proofs.SlotTime.{slot-times}
use Rattle.exports.proofs.Exports.{accepted-seen}
use Rattle.exports.specs.NextReady.{SentFrom}
use Rattle.exports.proofs.NextReady.{exports-next-ready}
use Rattle.exports_delivery.specs.Rounds.{last_seen}
use Rattle.exports_delivery.specs.SlotTime.{SentAlike, ExportsSlotTime}
use Rattle.exports_delivery.proofs.Rounds.{at_first}

-- an accepted slot is not before the last accepted time, and in range
timely-of : {s : State} {t room : ℕ} {o : Outcome} → Effect s (slot t room) o → IsAccepted o → Timely s t
unfolding is_accepted refuse
timely-of (refuses c n h) a = let z : ◌≡◌ {A = ℕ} 0 1 = cc in absurd (omega arith)
timely-of (idles t room z b) a = z
timely-of (sends t room i u z b) a = z

-- a slot that is not refused before the search for its connection is accepted; so 14 means that its time is
-- before the last accepted one
served-zero : (s : State) (t : ℕ) (w : Winner) → (reply_of (serve s t w).answer).refusal ≡ 0
unfolding serve serve_entry idle_step send_step send_from
served-zero s t none_ready = refl
served-zero s t (wins i v) = go (find v s.entries)
  where
    go : (x : Entry) → (reply_of (serve_entry s t v x).answer).refusal ≡ 0
    go free = refl
    go (taken c) = refl

refused-early : (s : State) (t : ℕ) → (reply_of (step s (slot t 53)).answer).refusal ≡ 14 → t ≤ s.last
unfolding step slot_step require refuse
refused-early s t e = go (leb t latest_time) (leb s.last t) refl e
  where
    o : Outcome
    o = serve (with_time t s) t (winner t s.entries)

    go : (x y : Bool) → leb s.last t ≡ y → (reply_of (require (refuse s 8) x (require (refuse s 14) y o)).answer).refusal ≡ 14 → t ≤ s.last
    go true true q e = absurd (omega (arith, e, served-zero (with_time t s) t (winner t s.entries)))
    go true false q e = omega (arith, leb-false s.last t q)
    go false y q e = absurd (omega (arith, e))

-- no cell was returned: the time is before the next ready instant
before-next : (next t : ℕ) (o : Observation) → SentFrom next t o → o.returned.kind ≡ 0 → t < next
before-next next t o f k = go (leb next t) refl
  where
    go : (b : Bool) → leb next t ≡ b → t < next
    go true e = absurd (f.sends (leb-true next t e) k)
    go false e = leb-false next t e

module _ (cs : List Call) (os : List Observation) (tr : Transcript cs zeros os) where
  here : State
  here = final empty cs

  words-there : List ℕ
  words-there = final_words zeros os

  matches : (t : ℕ) (o : Observation) → Performs (slot t 53) words-there o → Matches (step here (slot t 53)) o
  unfolding here words-there
  matches t o p = performs-matches (reached-well-formed cs) p (exports-are-run.last cs os tr)

  is-accepted : (t : ℕ) (o : Observation) → Performs (slot t 53) words-there o → o.returned.refusal ≡ 0 → IsAccepted (step here (slot t 53))
  unfolding here
  is-accepted t o p z = sym (accepted-seen (reached-well-formed cs) (slot t 53) (matches t o p)) ∙ eq-eqb o.returned.refusal 0 z

  returned-zero : (t : ℕ) (o : Observation) → Performs (slot t 53) words-there o → IsAccepted (step here (slot t 53)) → o.returned.refusal ≡ 0
  unfolding here
  returned-zero t o p a = eqb-true o.returned.refusal 0 (accepted-seen (reached-well-formed cs) (slot t 53) (matches t o p) ∙ a)

  -- the next ready instant as the words give it
  sent-from : (t : ℕ) (o : Observation) → Performs (slot t 53) words-there o → o.returned.refusal ≡ 0 → SentFrom (next_ready here) t o
  unfolding here words-there
  sent-from t o p z =
      let g = gives-next (final_words zeros os) (keyed_node (final_words zeros os) 1) refl in
      subst (λ (n : ℕ). SentFrom n t o) (exports-are-run.next cs os tr _ g) (exports-next-ready cs os tr _ g t 53 o p z)

  module _ (now lag : ℕ) (o p : Observation) (own : Performs (slot now 53) words-there o) (passed : Performs (slot (slot_time here now lag) 53) words-there p) where
    time-passed : o.returned.refusal ≡ 0 → TimePassed here now lag × (now ≤ latest_time)
    unfolding here
    time-passed z =
        let t = timely-of (effect here (reached-well-formed cs).unique (slot now 53)) (is-accepted now o own z) in
        (slot-times cs now lag t.since, t.until)

    passed-accepted : o.returned.refusal ≡ 0 → p.returned.refusal ≡ 0
    passed-accepted z = let t = time-passed z in returned-zero (slot_time here now lag) p passed (t.0.accepted t.1)

    alike : SentAlike o p
    alike = record {
      accepted = passed-accepted;
      idle = λ z k.
          let h : now < next_ready here = before-next (next_ready here) now o (sent-from now o own z) k in
          (sent-from (slot_time here now lag) p passed (passed-accepted z)).idle (omega (arith, h));
      idle_own = λ z k.
          let h : slot_time here now lag < next_ready here = before-next (next_ready here) (slot_time here now lag) p (sent-from (slot_time here now lag) p passed (passed-accepted z)) k in
          (sent-from now o own z).idle (omega (arith, h));
    }

pub exports-slot-time : ExportsSlotTime
unfolding here words-there
exports-slot-time cs os tr now lag time h =
    let q : time ≡ slot_time (final empty cs) now lag = exports-are-run.slot_timed cs os tr now lag time h in
    let b = slot-time.each (final empty cs) now lag in
    let l : last_seen 0 cs os ≡ (final empty cs).last = (at_first cs os tr).time in
    let n : (next : ℕ) → GivesNext (final_words zeros os) next → next ≡ next_ready (final empty cs) = λ next g. exports-are-run.next cs os tr next g in
    record {
      not_after = omega (arith, q);
      within = omega (arith, q);
      ready = λ next g h k j. omega (arith, q, n next g, l, h, k, j);
      nothing = λ next g h. omega (arith, q, n next g, h);
      overdue = λ next g h k j. omega (arith, q, n next g, l, h, k, j);
      late = λ next g h k. omega (arith, q, n next g, l, h, k);
      alike = λ o p own passed. alike cs os tr now lag o p own (subst (λ (t : ℕ). Performs (slot t 53) (final_words zeros os) p) q passed);
      wrong_clock = λ o own e.
          q ∙ b.early (refused-early (final empty cs) now (sym (ap (λ (r : Reply). r.refusal) (matches cs os tr now o own).returned) ∙ e));
    }
