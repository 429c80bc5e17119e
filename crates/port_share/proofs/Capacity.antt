-- More capacity never lowers the share.
use mathlib.Core.Path.{◌≡◌, refl}
use mathlib.Core.List.{List}
use Prim.Native.Nat.{ℕ, ◌≤◌}
use mathlib.Core.Bool.{Bool, true, false, cond}
use native.Mathlib.Nat.{le_trans}
use native.Mathlib.Omega.{arith}
use lib.Dec.{leb}
use borrow.Author.Tests.{leb-true, leb-false}
use Rattle.std.specs.Prelude.{Some, None, Ok, Err}
use Rattle.laws.specs.declared.refusals.Refusal.{Refusal}
use Rattle.laws.specs.Require.{require}
use Rattle.rate.specs.Units.{largest_rate}
use Rattle.port_share.specs.Demands.{in_range, plain_sum}
use Rattle.port_share.specs.Share.{Share, greatest_up_to, fair_share}
use Rattle.port_share.specs.Capacity.{NotLower, refused, limits, freed, unlimited, RisesWithCapacity}
use Rattle.port_share.proofs.Greatest.{limit-greatest}

require-rises : (e : Refusal) (t : Bool) {r s : Share} → (t ≡ true → NotLower r s) → NotLower (require (Err e) t r) (require (Err e) t s)
unfolding require
require-rises e true h = h refl
require-rises e false h = refused

last-rises : (less more : ℕ) (ds : List ℕ) → less ≤ more → in_range ds ≡ true
    → NotLower (cond (leb (plain_sum ds) less) (Ok None) (Ok (Some (greatest_up_to less ds largest_rate))))
    (cond (leb (plain_sum ds) more) (Ok None) (Ok (Some (greatest_up_to more ds largest_rate))))
last-rises less more ds h e = go (leb (plain_sum ds) less) (leb (plain_sum ds) more) refl refl
  where
    go : (c d : Bool) → leb (plain_sum ds) less ≡ c → leb (plain_sum ds) more ≡ d
        → NotLower (cond c (Ok None) (Ok (Some (greatest_up_to less ds largest_rate)))) (cond d (Ok None) (Ok (Some (greatest_up_to more ds largest_rate))))
    go true true f g = unlimited
    go false true f g = freed
    go true false f g = absurd (omega (arith, leb-true (plain_sum ds) less f, leb-false (plain_sum ds) more g))
    go false false f g =
        limits ((limit-greatest more ds e (leb-false _ _ g)).top (greatest_up_to less ds largest_rate)
        (le_trans (limit-greatest less ds e (leb-false _ _ f)).fits h))

pub rises-with-capacity : RisesWithCapacity
unfolding fair_share
rises-with-capacity less more ds h = require-rises _ _ (λ a. require-rises _ _ (λ b. last-rises less more ds h search))
