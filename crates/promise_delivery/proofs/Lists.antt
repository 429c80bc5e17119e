-- Lists of calls in parts, and the tables that calls reach.
use Prim.Native.Nat.{ℕ, ◌+◌, ◌≤◌, ◌<◌}
use mathlib.Core.Path.{◌≡◌, refl, sym, ap, subst, ◌∙◌}
use mathlib.Core.List.{List, [], ◌∷◌, ◌++◌}
use mathlib.Core.Bool.{false, true≢false}
use native.Mathlib.Omega.{arith}
use borrow.Author.Tests.{le-leb}
use Rattle.laws.specs.Require.{require}
use Rattle.rate.specs.Units.{latest_time}
use Rattle.connection.specs.declared.parts.Connection.{Connection}
use Rattle.model.specs.State.{State, Entry, free, taken, empty, find, with_time}
use Rattle.model.specs.Invariant.{WellFormed}
use Rattle.model.specs.Answers.{Idle}
use Rattle.model.specs.Call.{Call, slot, Outcome, goes_to}
use Rattle.model.specs.Step.{refuse, idle_step, send_from, send_step, slot_step, step}
use Rattle.model.specs.Queries.{next_ready}
use Rattle.model.specs.Run.{final, is_accepted}
use Rattle.model.proofs.Effects.{Effect, refuses, idles, sends, effect}
use Rattle.model.proofs.Reached.{step-well-formed, reached-well-formed, final-append}
use Rattle.laws.specs.All.{All}
use Rattle.laws.proofs.Tests.{both}
use Rattle.promise_service.specs.Liveness.{IsAccepted}
use Rattle.promise_service.specs.NextReady.{SendsFromNext}
use Rattle.promise_service.proofs.NextReady.{next-ready}
use Rattle.promise_traces.specs.InRate.{closes_connection}
use Rattle.promise_traces.proofs.Next.{Next, closed, quiet, goes, effect-next}
use Rattle.model.specs.Aspects.{Sort, opener, closer, slot_at, another, sort_of, arrival}
use Rattle.promise_delivery.specs.Calls.{opens_name, opens_of, time_sent, slots_sent, if_open, is_open, AtSlot, AllHeld, AllFit}
use Rattle.promise_delivery.proofs.SlotTime.{slot-accepted}
use Rattle.promise_delivery.proofs.Calls.{Later, absent, begun, step-later}
use Rattle.promise_delivery.specs.Turns.{NoSlot}

append_assoc : {A : Type 0} (xs ys zs : List A) → (xs ++ ys) ++ zs ≡ xs ++ (ys ++ zs)
append_assoc [] ys zs = refl
append_assoc (x ∷ xs) ys zs = ap (λ l. x ∷ l) (append_assoc xs ys zs)

pub sent-append : (s : State) (cs ds : List Call) → slots_sent s (cs ++ ds) ≡ slots_sent s cs ++ slots_sent (final s cs) ds
sent-append s [] ds = refl
sent-append s (c ∷ cs) ds =
    ap (λ (ts : List ℕ). time_sent (sort_of c) (goes_to (step s c).answer) ++ ts) (sent-append (step s c).state cs ds)
    ∙ sym (append_assoc (time_sent (sort_of c) (goes_to (step s c).answer)) (slots_sent (step s c).state cs) (slots_sent (final (step s c).state cs) ds))

pub held-append : (vs : List ℕ) (r : ℕ → ℕ) (s : State) (cs ds : List Call) → AllHeld vs r s cs → AllHeld vs r (final s cs) ds → AllHeld vs r s (cs ++ ds)
held-append vs r s [] ds h k = k
held-append vs r s (c ∷ cs) ds h k = (h.0, held-append vs r (step s c).state cs ds h.1 k)

pub fit_append : (vs : List ℕ) (r : ℕ → ℕ) (S : ℕ) (s : State) (cs ds : List Call) → AllFit vs r S s cs → AllFit vs r S (final s cs) ds → AllFit vs r S s (cs ++ ds)
fit_append vs r S s [] ds h k = k
fit_append vs r S s (c ∷ cs) ds h k = (h.0, fit_append vs r S (step s c).state cs ds h.1 k)

-- no more is open than was, and was opened
later-open : (v : ℕ) (c : Call) (x y : Entry) → x ≡ free → Later v c y → if_open y 1 ≤ opens_name v (sort_of c)
unfolding if_open
later-open v c x y e (absent q) = rw q (omega arith)
later-open v c x y e (begun d q p o) = rw (q, o) (omega arith)

most-open : (x : Entry) → if_open x 1 ≤ 1
unfolding if_open
most-open free = omega arith
most-open (taken d) = omega arith

open_step : (v : ℕ) (s : State) → WellFormed s → (c : Call) → is_open (step s c).state v ≤ is_open s v + opens_name v (sort_of c)
unfolding if_open
open_step v s w c = go (find v s.entries) refl
  where
    go : (x : Entry) → find v s.entries ≡ x → if_open (find v (step s c).state.entries) 1 ≤ if_open x 1 + opens_name v (sort_of c)
    go free e = omega (arith, later-open v c free (find v (step s c).state.entries) refl (step-later v w c e))
    go (taken d) e = omega (arith, most-open (find v (step s c).state.entries))

pub open-final : (v : ℕ) (s : State) → WellFormed s → (cs : List Call) → is_open (final s cs) v ≤ is_open s v + opens_of v cs
open-final v s w [] = omega arith
open-final v s w (c ∷ cs) = omega (arith, open_step v s w c, open-final v (step s c).state (step-well-formed w c) cs)

pub opens-append : (v : ℕ) (cs ds : List Call) → opens_of v (cs ++ ds) ≡ opens_of v cs + opens_of v ds
opens-append v [] ds = omega arith
opens-append v (c ∷ cs) ds = omega (arith, opens-append v cs ds)

-- calls that are no slots
no-slot-held : (x : Sort) (P : Type 0) → NoSlot x → AtSlot x P
no-slot-held (opener u t p) P h = tt
no-slot-held (closer u) P h = tt
no-slot-held (arrival o) P h = tt
no-slot-held (slot_at t) P h = absurd h
no-slot-held another P h = tt

pub others-held : (vs : List ℕ) (r : ℕ → ℕ) (s : State) (cs : List Call) → All (λ c. NoSlot (sort_of c)) cs → AllHeld vs r s cs
others-held vs r s [] h = tt
others-held vs r s (c ∷ cs) h = (no-slot-held (sort_of c) _ h.0, others-held vs r (step s c).state cs h.1)

-- a table that calls reach
pub record Reached (s : State) : Type 0 where
  pub calls : List Call
  pub is : final empty calls ≡ s

pub reach : {s : State} → Reached s → (cs : List Call) → Reached (final s cs)
reach h cs = record { calls = h.calls ++ cs; is = final-append empty h.calls cs ∙ ap (λ (x : State). final x cs) h.is }

pub well : {s : State} → Reached s → WellFormed s
well h = subst WellFormed h.is (reached-well-formed h.calls)

pub next_of : {s : State} → Reached s → SendsFromNext s
next_of h = subst SendsFromNext h.is (next-ready h.calls)

-- a slot at a time from the next ready instant on sends at that time
pub sent-at : (s : State) → SendsFromNext s → (t : ℕ) → s.last ≤ t → t ≤ latest_time → next_ready s ≤ t → time_sent (slot_at t) (goes_to (step s (slot t 53)).answer) ≡ t ∷ []
sent-at s n t l u h = ap (time_sent (slot_at t)) (n.sends t 53 (slot-accepted s t l u) h).goes

-- before it a slot moves the last accepted time alone
idle-state : {s : State} {t : ℕ} {o : Outcome} → Effect s (slot t 53) o → IsAccepted o → o.answer ≡ Idle → o.state ≡ with_time t s
unfolding refuse is_accepted idle_step send_step send_from
idle-state (refuses c n h) a e = let z : ◌≡◌ {A = ℕ} 0 1 = cc in absurd (omega arith)
idle-state (idles t room z b) a e = refl
idle-state (sends t room i v z b) a e = let z : ◌≡◌ {A = ℕ} 0 1 = cc in absurd (omega arith)

pub slept : {s : State} → Reached s → (t : ℕ) → s.last ≤ t → t ≤ latest_time → t < next_ready s → Reached (with_time t s)
slept {s} h t l u k =
    let a = slot-accepted s t l u in
    subst Reached (idle-state (effect s (well h).unique (slot t 53)) a ((next_of h).idle t 53 a k)) (reach h (slot t 53 ∷ []))

-- and one behind it does what it would have done
pub slept-slot : (s : State) (u t : ℕ) → u ≤ t → s.last ≤ t → t ≤ latest_time → step (with_time u s) (slot t 53) ≡ step s (slot t 53)
unfolding step slot_step require with_time
slept-slot s u t h l k = rw (le-leb t latest_time k, le-leb u t h, le-leb s.last t l)

-- a slot closes nothing
pub slot-keeps-open : (v : ℕ) (s : State) → WellFormed s → (t : ℕ) → is_open s v ≤ is_open (step s (slot t 53)).state v
unfolding if_open closes_connection
slot-keeps-open v s w t = go (find v s.entries) refl
  where
    still : (d : Connection) → Next v s d (slot t 53) (step s (slot t 53)) → 1 ≤ is_open (step s (slot t 53)).state v
    still d (closed h) = absurd (true≢false (sym (both (is_accepted (step s (slot t 53)).answer) false h).1))
    still d (quiet h n m y) = rw y.found (omega arith)
    still d (goes u i h n m e z due y) = rw y.found (omega arith)

    go : (x : Entry) → find v s.entries ≡ x → if_open x 1 ≤ is_open (step s (slot t 53)).state v
    go free e = omega arith
    go (taken d) e = still d (effect-next v d e w.unique (effect s w.unique (slot t 53)))
