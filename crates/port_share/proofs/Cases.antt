-- The ways out of `fair_share`.
use mathlib.Core.Path.{◌≡◌, ap, ◌∙◌}
use mathlib.Core.Bool.{true}
use mathlib.Core.List.{List}
use Prim.Native.Nat.{ℕ, ◌≤◌, ◌<◌}
use native.Mathlib.Omega.{arith}
use lib.ListN.{length}
use borrow.Author.Tests.{le-leb, lt-leb, eq-eqb, ne_eqb}
use Rattle.std.specs.Prelude.{Some, None, Ok, Err}
use Rattle.laws.specs.declared.refusals.Refusal.TheVariants.{TooManyDemands, DemandTooLarge}
use Rattle.laws.specs.Require.{require}
use Rattle.rate.specs.Units.{largest_rate}
use Rattle.port_share.specs.Demands.{in_range, plain_sum, cut_sum}
use Rattle.port_share.specs.Above.{above}
use Rattle.port_share.specs.Share.{greatest_up_to, fair_share}
use Rattle.port_share.proofs.Sums.{range-test, cut-largest}

module _ (capacity : ℕ) (ds : List ℕ) where
  pub too_many : 1024 < length ds → Err TooManyDemands ≡ fair_share capacity ds
  unfolding fair_share require
  too_many h = simp (lt-leb _ _ h)

  module _ (few : length ds ≤ 1024) where
    pub too-high : (above largest_rate ds ≡ 0 → ⊥) → Err DemandTooLarge ≡ fair_share capacity ds
    unfolding fair_share require
    too-high n = simp (le-leb _ _ few, range-test ds ∙ ne_eqb _ _ n)

    module _ (none : above largest_rate ds ≡ 0) where
      pub ranged : in_range ds ≡ true
      ranged = range-test ds ∙ eq-eqb _ _ none

      pub no-limit : cut_sum largest_rate ds ≤ capacity → Ok None ≡ fair_share capacity ds
      unfolding fair_share require
      no-limit h = simp (le-leb _ _ few, ranged, le-leb (plain_sum ds) capacity (omega (arith, cut-largest ds ranged)))

      pub over : capacity < cut_sum largest_rate ds → capacity < plain_sum ds
      over h = omega (arith, cut-largest ds ranged)

      pub limited : {s : ℕ} → capacity < cut_sum largest_rate ds → s ≡ greatest_up_to capacity ds largest_rate → Ok (Some s) ≡ fair_share capacity ds
      unfolding fair_share require
      limited h e = simp (le-leb _ _ few, ranged, lt-leb (plain_sum ds) capacity (over h)) (ap (λ (n : ℕ). Ok (Some n)) e)
