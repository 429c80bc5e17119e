-- A policer that finds nothing to drop is strict.
use Prim.Native.Nat.{ℕ, suc, ◌+◌, ◌≤◌, max}
use mathlib.Core.Path.{◌≡◌, refl}
use mathlib.Core.Bool.{Bool, true, false, cond}
use mathlib.Core.List.{List, [], ◌∷◌, ◌++◌}
use native.Mathlib.Omega.{arith}
use lib.Dec.{leb}
use borrow.Author.Tests.{leb-true}
use Rattle.promise_delivery.specs.Gcra.{Arrival, theoretical, latest_allowed, nonconforming, dropped, increments, PolicerStrict}

module _ (tolerance : ℕ) where
  -- the first cell conforms, and so do the others
  conforming :
      (last : ℕ) (x : Arrival) (xs : List Arrival) → nonconforming tolerance last (x ∷ xs) ≡ 0
      → (last + x.increment ≤ x.time + tolerance) × (nonconforming tolerance (max x.time (last + x.increment)) xs ≡ 0)
  unfolding nonconforming
  conforming last x xs h = go (leb (theoretical last x) (latest_allowed tolerance x)) refl h
    where
      go : (b : Bool) → leb (theoretical last x) (latest_allowed tolerance x) ≡ b
          → cond b (nonconforming tolerance (max x.time (last + x.increment)) xs) (suc (nonconforming tolerance last xs)) ≡ 0
          → (last + x.increment ≤ x.time + tolerance) × (nonconforming tolerance (max x.time (last + x.increment)) xs ≡ 0)
      go true e h = (omega (arith, leb-true (theoretical last x) (latest_allowed tolerance x) e), h)
      go false e h = absurd (omega (arith, h))

  since : (last : ℕ) (between : List Arrival) (y : Arrival) (rest : List Arrival) → nonconforming tolerance last (between ++ (y ∷ rest)) ≡ 0 → last + increments between + y.increment ≤ y.time + tolerance
  since last [] y rest h = omega (arith, (conforming last y rest h).0)
  since last (x ∷ between) y rest h = omega (arith, since (max x.time (last + x.increment)) between y rest (conforming last x (between ++ (y ∷ rest)) h).1)

  from-any :
      (last : ℕ) (earlier : List Arrival) (x : Arrival) (between : List Arrival) (y : Arrival) (rest : List Arrival) → nonconforming tolerance last (earlier ++ (x ∷ (between ++ (y ∷ rest)))) ≡ 0
      → x.time + increments between + y.increment ≤ y.time + tolerance
  from-any last [] x between y rest h = omega (arith, since (max x.time (last + x.increment)) between y rest (conforming last x (between ++ (y ∷ rest)) h).1)
  from-any last (e ∷ earlier) x between y rest h =
      from-any (max e.time (last + e.increment)) earlier x between y rest (conforming last e (earlier ++ (x ∷ (between ++ (y ∷ rest)))) h).1

pub policer-strict : PolicerStrict
unfolding dropped
policer-strict tolerance [] x between y rest h = since tolerance x.time between y rest h
policer-strict tolerance (e ∷ earlier) x between y rest h = from-any tolerance e.time earlier x between y rest h
