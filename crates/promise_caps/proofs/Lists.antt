-- Lists of calls with caps, in parts.
use Prim.Native.Nat.{ℕ, ◌+◌, ◌-◌, ◌*◌, ◌/◌, ◌≤◌}
use mathlib.Core.Path.{◌≡◌, refl, ap}
use mathlib.Core.Bool.{Bool, true, false, cond}
use mathlib.Core.List.{List, [], ◌∷◌, ◌++◌}
use native.Mathlib.Omega.{arith}
use lib.Dec.{ltb}
use borrow.Author.Tests.{ltb-true}
use Rattle.model.specs.State.{State, Entry, free, taken, find}
use Rattle.model.specs.Call.{Call}
use Rattle.model.specs.Step.{step}
use Rattle.model.specs.Run.{final}
use Rattle.promise_delivery.specs.Calls.{if_open, AllHeld, AllFit}
use Rattle.promise_caps.specs.Capped.{Capped, calls_of, rise, rises_of, CapsHeld, CapsFit}

abbrev pub with_cap : (ℕ → ℕ) → List Call → List Capped
with_cap r [] = []
with_cap r (c ∷ cs) = record { call = c; cap = r } ∷ with_cap r cs

pub calls-with : (r : ℕ → ℕ) (cs : List Call) → calls_of (with_cap r cs) ≡ cs
calls-with r [] = refl
calls-with r (c ∷ cs) = ap (λ (ds : List Call). c ∷ ds) (calls-with r cs)

pub calls-append : (xs : List Capped) (r : ℕ → ℕ) (cs : List Call) → calls_of (xs ++ with_cap r cs) ≡ calls_of xs ++ cs
calls-append [] r cs = calls-with r cs
calls-append (x ∷ xs) r cs = ap (λ (ds : List Call). x.call ∷ ds) (calls-append xs r cs)

pub caps-held-append : (vs : List ℕ) (r : ℕ → ℕ) (s : State) (xs : List Capped) (cs : List Call) → CapsHeld vs s xs → AllHeld vs r (final s (calls_of xs)) cs → CapsHeld vs s (xs ++ with_cap r cs)
caps-held-append vs r s [] [] h k = tt
caps-held-append vs r s [] (c ∷ cs) h k = (k.0, caps-held-append vs r (step s c).state [] cs tt k.1)
caps-held-append vs r s (x ∷ xs) cs h k = (h.0, caps-held-append vs r (step s x.call).state xs cs h.1 k)

pub caps-fit-append : (vs : List ℕ) (r : ℕ → ℕ) (S : ℕ) (s : State) (xs : List Capped) (cs : List Call) → CapsFit vs S s xs → AllFit vs r S (final s (calls_of xs)) cs → CapsFit vs S s (xs ++ with_cap r cs)
caps-fit-append vs r S s [] [] h k = tt
caps-fit-append vs r S s [] (c ∷ cs) h k = (k.0, caps-fit-append vs r S (step s c).state [] cs tt k.1)
caps-fit-append vs r S s (x ∷ xs) cs h k = (h.0, caps-fit-append vs r S (step s x.call).state xs cs h.1 k)

-- the caps after a list
abbrev pub last_cap : (q : ℕ → ℕ) → List Capped → ℕ → ℕ
last_cap q [] = q
last_cap q (x ∷ xs) = last_cap x.cap xs

pub last-cap-append : (q r : ℕ → ℕ) (xs : List Capped) (c : Call) (cs : List Call) → last_cap q (xs ++ with_cap r (c ∷ cs)) ≡ r
last-cap-append q r [] c [] = refl
last-cap-append q r [] c (d ∷ cs) = last-cap-append r r [] d cs
last-cap-append q r (x ∷ xs) c cs = last-cap-append x.cap r xs c cs

-- one cap has no rise
same-rise : (u a : ℕ) (x : Entry) → if_open x (rise u a a) ≡ 0
unfolding if_open rise
same-rise u a free = refl
same-rise u a (taken d) = go (ltb a a) refl
  where
    go : (b : Bool) → ltb a a ≡ b → ◌≡◌ {A = ℕ} (cond b ((u * (a - a) + (a - 1)) / a) 0) 0
    go true e = absurd (omega (arith, ltb-true a a e))
    go false e = refl

module _ (v u : ℕ) where
  same-rises : (r : ℕ → ℕ) (s : State) (cs : List Call) → rises_of v u r s (with_cap r cs) ≡ 0
  same-rises r s [] = refl
  same-rises r s (c ∷ cs) = omega (arith, same-rise u (r v) (find v s.entries), same-rises r (step s c).state cs)

  first-rise : (q r : ℕ → ℕ) (s : State) (cs : List Call) → rises_of v u q s (with_cap r cs) ≤ if_open (find v s.entries) (rise u (q v) (r v))
  first-rise q r s [] = omega arith
  first-rise q r s (c ∷ cs) = omega (arith, same-rises r (step s c).state cs)

  pub rises-append :
      (q r : ℕ → ℕ) (s : State) (xs : List Capped) (cs : List Call)
      → rises_of v u q s (xs ++ with_cap r cs) ≤ rises_of v u q s xs + if_open (find v (final s (calls_of xs)).entries) (rise u (last_cap q xs v) (r v))
  rises-append q r s [] cs = omega (arith, first-rise q r s cs)
  rises-append q r s (x ∷ xs) cs = omega (arith, rises-append x.cap r (step s x.call).state xs cs)
