-- The kind that a ready connection sends is one that it has: a turned or made cell waits, or data does.
use Rattle.std.specs.Prelude.{Some, None}
use Prim.Native.Nat.{ℕ, ◌+◌, ◌≤◌, ◌<◌, max}
use mathlib.Core.Path.{◌≡◌, refl}
use mathlib.Core.Bool.{Bool, true, false, cond, ◌&&◌, ◌||◌, not}
use native.Mathlib.Omega.{arith}
use lib.Dec.{leb, ltb}
use borrow.Author.Tests.{ltb-true, ltb-false, leb-false, eq-eqb}
use Rattle.rate.specs.Gap.{gap}
use Rattle.connection.specs.Parts.{Connection, Pace, Unsent, Running, waiting}
use Rattle.connection.specs.Ready.{any_waits, last_before, ready_from, ready_instant, backward_waits}
use Rattle.connection.specs.Kind.{Turned, Data, Forward, is_forward, is_turned, kind_at}
use Rattle.connection.proofs.Readiness.{ready-some}
use Rattle.connection.proofs.Keeps.{not-forward, data≢forward}

false≢true : ◌≡◌ {A = Bool} false true → ⊥
false≢true e = let z : ◌≡◌ {A = ℕ} 0 1 = cc in omega arith

turned-from : (c : Connection) (p : Pace) → is_turned c p ≡ true → backward_waits c.destination ≡ true
unfolding is_turned
turned-from c Unsent e = absurd (false≢true e)
turned-from c (Running sent forward k turned) e = go (backward_waits c.destination) (not turned || _) e
  where
    go : (a b : Bool) → (a && b) ≡ true → a ≡ true
    go true b e = refl
    go false b e = e

pub turned-waits : (t : ℕ) (c : Connection) → kind_at t c ≡ Turned → backward_waits c.destination ≡ true
unfolding kind_at
turned-waits t c e = turned-from c c.pace (go (is_forward t c c.pace) (is_turned c c.pace) e)
  where
    go : (a b : Bool) → cond a Forward (cond b Turned Data) ≡ Turned → b ≡ true
    go true b e = cc
    go false true e = refl
    go false false e = cc

-- with no data, and no turned, made or forward cell to send, nothing was ready by t
nothing-ready :
    (w b l m : Bool) (due soon t i : ℕ) → (w && (not b || true)) ≡ false → (l || (m && leb soon t)) ≡ false
    → cond (w || l) (Some due) (cond m (Some (max due soon)) None) ≡ Some i → i ≤ t → ⊥
nothing-ready true true l m due soon t i p q r h = let z : ◌≡◌ {A = ℕ} 0 1 = cc in omega arith
nothing-ready true false l m due soon t i p q r h = let z : ◌≡◌ {A = ℕ} 0 1 = cc in omega arith
nothing-ready false b true m due soon t i p q r h = let z : ◌≡◌ {A = ℕ} 0 1 = cc in omega arith
nothing-ready false b false true due soon t i p q r h = let e : max due soon ≡ i = cc in omega (arith, leb-false soon t q)
nothing-ready false b false false due soon t i p q r h = let z : ◌≡◌ {A = ℕ} 0 1 = cc in omega arith

data-from :
    (t : ℕ) (c : Connection) (p : Pace) (i : ℕ) → ready_from c p ≡ Some i → i ≤ t → is_forward t c p ≡ false → is_turned c p ≡ false
    → 0 < waiting c.queue
unfolding ready_from any_waits is_forward is_turned last_before
data-from t c Unsent i r h f g = let z : ◌≡◌ {A = ℕ} 0 1 = cc in absurd (omega arith)
data-from t c (Running sent forward k turned) i r h f g = go (ltb 0 (waiting c.queue)) refl
  where
    go : (x : Bool) → ltb 0 (waiting c.queue) ≡ x → 0 < waiting c.queue
    go true e = ltb-true 0 (waiting c.queue) e
    go false e =
        absurd (nothing-ready (backward_waits c.destination) turned (last_before c k) (leb 2 k) (sent + gap c.rate.acr) (forward + c.trm) t i
        (rw (eq-eqb (waiting c.queue) 0 (omega (arith, ltb-false 0 (waiting c.queue) e))) at g) f (rw e at r) h)

pub data-waits : (t : ℕ) (c : Connection) (i : ℕ) → ready_instant c ≡ Some i → i ≤ t → kind_at t c ≡ Data → 0 < waiting c.queue
unfolding kind_at
data-waits t c i r h e = data-from t c c.pace i (ready-some c i r).1 h (not-forward Data t c e data≢forward) (go (is_forward t c c.pace) (is_turned c c.pace) e)
  where
    go : (a b : Bool) → cond a Forward (cond b Turned Data) ≡ Data → b ≡ false
    go true b e = cc
    go false true e = cc
    go false false e = refl
