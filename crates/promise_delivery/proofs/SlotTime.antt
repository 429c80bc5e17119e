-- The time passed to a slot.
use Prim.Native.Nat.{ℕ, ◌≤◌, ◌<◌}
use mathlib.Core.Path.{◌≡◌, refl, sym, ap, ◌∙◌}
use native.Mathlib.Omega.{arith}
use borrow.Author.Tests.{le-leb}
use Rattle.laws.specs.Require.{require}
use Rattle.rate.specs.Units.{latest_time}
use Rattle.model.specs.State.{State, empty, with_entry_of, with_time, with_members}
use Rattle.model.specs.Winner.{Winner, none_ready, wins, winner}
use Rattle.model.specs.Call.{slot}
use Rattle.model.specs.Step.{step, slot_step, serve, serve_entry, idle_step, send_step, send_from}
use Rattle.model.specs.State.{Entry, free, taken, find}
use Rattle.model.specs.Queries.{next_ready, slot_time}
use Rattle.model.specs.Run.{final, is_accepted}
use Rattle.promise_service.specs.Liveness.{IsAccepted}
use Rattle.promise_service.specs.NextReady.{SendsFromNext}
use Rattle.promise_service.proofs.NextReady.{next-ready}
use Rattle.promise_delivery.specs.SlotTime.{TimePassed, SlotTimes}

-- a slot with a full buffer, at a time that is not before the last accepted one, is accepted
served : (s : State) (t : ℕ) (w : Winner) → IsAccepted (serve s t w)
unfolding serve serve_entry idle_step send_step send_from is_accepted
served s t none_ready = refl
served s t (wins i v) = go (find v s.entries)
  where
    go : (x : Entry) → IsAccepted (serve_entry s t v x)
    go free = refl
    go (taken c) = refl

pub slot-accepted : (s : State) (t : ℕ) → s.last ≤ t → t ≤ latest_time → IsAccepted (step s (slot t 53))
unfolding step slot_step require
slot-accepted s t l u = rw (le-leb t latest_time u, le-leb s.last t l) (served (with_time t s) t (winner t s.entries))

served-last : (s : State) (t : ℕ) (w : Winner) → (serve s t w).state.last ≡ s.last
unfolding serve serve_entry idle_step send_step send_from with_members with_entry_of
served-last s t none_ready = refl
served-last s t (wins i v) = go (find v s.entries)
  where
    go : (x : Entry) → (serve_entry s t v x).state.last ≡ s.last
    go free = refl
    go (taken c) = refl

-- and its time is then the last accepted one
pub slot-last : (s : State) (t : ℕ) → s.last ≤ t → t ≤ latest_time → (step s (slot t 53)).state.last ≡ t
unfolding step slot_step require with_time
slot-last s t l u = rw (le-leb t latest_time u, le-leb s.last t l) (served-last (with_time t s) t (winner t s.entries))

pub passed : (s : State) → SendsFromNext s → (now lag : ℕ) → s.last ≤ now → TimePassed s now lag
passed s n now lag l = record {
  not_after = omega arith;
  within = omega arith;
  since = omega arith;
  accepted = λ u. slot-accepted s (slot_time s now lag) (omega arith) (omega arith);
  reached = λ h. omega arith;
  idle = λ e. let q = same (n.early now 53 e) in (q, ap (λ (t : ℕ). (step s (slot t 53)).answer) q ∙ e);
  idle_now = λ e. let q = same (later (n.early (slot_time s now lag) 53 e)) in (q, ap (λ (t : ℕ). (step s (slot t 53)).answer) (sym q) ∙ e);
}
  where
    same : now < next_ready s → slot_time s now lag ≡ now
    same h = omega arith

    later : slot_time s now lag < next_ready s → now < next_ready s
    later h = omega arith

pub slot-times : SlotTimes
slot-times cs now lag l = passed (final empty cs) (next-ready cs) now lag l
