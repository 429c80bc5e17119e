-- Caps that never rise.
use Prim.Native.Nat.{ℕ, ◌+◌, ◌-◌, ◌*◌, ◌≤◌}
use mathlib.Core.Path.{◌≡◌, refl, sym, ap, subst}
use mathlib.Core.List.{List, [], ◌∷◌}
use native.Mathlib.Nat.{le_refl}
use native.Mathlib.Omega.{arith}
use borrow.Author.Tests.{le-ltb}
use Rattle.model.specs.State.{State, Entry, free, taken, empty, find}
use Rattle.model.specs.Run.{final}
use Rattle.promise_delivery.specs.Calls.{total, if_open, is_open}
use Rattle.promise_delivery.specs.Turns.{Turn, slot_of, AllOnTime, opens_in}
use Rattle.promise_caps.specs.Lag.{CapTurn, turns_of, CapTurnsFit, rise_count, count_in, behind_count}
use Rattle.promise_caps.specs.Fixed.{TurnsFit, behind_at, LagBounded}
use Rattle.promise_caps.proofs.Bounds.{caps-lag}

abbrev with_caps : (r : ℕ → ℕ) → List Turn → List CapTurn
with_caps r [] = []
with_caps r (x ∷ xs) = record { turn = x; cap = r } ∷ with_caps r xs

same-turns : (r : ℕ → ℕ) (xs : List Turn) → turns_of (with_caps r xs) ≡ xs
same-turns r [] = refl
same-turns r (x ∷ xs) = ap (λ (ys : List Turn). x ∷ ys) (same-turns r xs)

caps-fit : (vs : List ℕ) (r : ℕ → ℕ) (S lag : ℕ) (xs : List Turn) (m : ℕ) (s : State) → TurnsFit vs r S lag m s xs → CapTurnsFit vs S S lag m s (with_caps r xs)
caps-fit vs r S lag [] m s f = tt
caps-fit vs r S lag (x ∷ xs) m s f = (f.0, caps-fit vs r S lag xs x.now (slot_of lag s x).state f.1)

no-rise : (a : ℕ) (y : Entry) → if_open y (rise_count a a) ≡ 0
unfolding if_open rise_count
no-rise a free = refl
no-rise a (taken d) = rw (le-ltb a a (le_refl a))

no-rises : (v lag : ℕ) (r : ℕ → ℕ) (xs : List Turn) (s : State) → count_in v lag r s (with_caps r xs) ≡ 0
no-rises v lag r [] s = refl
no-rises v lag r (x ∷ xs) s = omega (arith, no-rise (r v) (find v s.entries), no-rises v lag r xs (slot_of lag s x).state)

pub total-same : (f g : ℕ → ℕ) → ((v : ℕ) → f v ≡ g v) → (vs : List ℕ) → total f vs ≡ total g vs
total-same f g h [] = refl
total-same f g h (v ∷ vs) = omega (arith, h v, total-same f g h vs)

behind-same : (vs : List ℕ) (r : ℕ → ℕ) (S lag m : ℕ) (s : State) (xs : List Turn) → behind_count vs r S lag m s (with_caps r xs) ≡ behind_at vs S m s xs
behind-same vs r S lag m s xs =
    ap (λ (n : ℕ). (m - s.last) + n * S)
    (total-same (λ v. is_open s v + opens_in v (turns_of (with_caps r xs)) + count_in v lag r s (with_caps r xs)) (λ v. is_open s v + opens_in v xs)
    (λ v. omega (arith, no-rises v lag r xs s, ap (opens_in v) (same-turns r xs))) vs)

pub lag-bounded : LagBounded
lag-bounded cs vs r S lag m xs long f =
    let s = final empty cs in
    let e = behind-same vs r S lag m s xs in
    let o = (caps-lag cs vs r S lag m (with_caps r xs)).by_count (subst (λ (k : ℕ). k ≤ lag) (sym e) long) (caps-fit vs r S lag xs m s f) in
    subst (λ (k : ℕ). AllOnTime k lag s xs) e (subst (AllOnTime (behind_count vs r S lag m s (with_caps r xs)) lag s) (same-turns r xs) o)
