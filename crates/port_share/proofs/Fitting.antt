-- The greatest number that fits.
use mathlib.Core.Path.{◌≡◌, refl}
use mathlib.Core.Bool.{Bool, true, false, cond}
use mathlib.Core.Logic.{by_cases}
use mathlib.Core.List.{List}
use Prim.Native.Nat.{ℕ, zero, suc, ◌+◌, ◌≤◌, ◌<◌}
use native.Mathlib.Decide.{dec_le, dec_lt}
use native.Mathlib.Omega.{arith}
use lib.Dec.{leb}
use borrow.Author.Tests.{leb-true, leb-false}
use Rattle.rate.specs.Units.{largest_rate}
use Rattle.port_share.specs.Demands.{in_range, plain_sum, cut_sum}
use Rattle.port_share.specs.Above.{above}
use Rattle.port_share.specs.Share.{greatest_up_to}
use Rattle.port_share.specs.Greatest.{GreatestShare}
use Rattle.port_share.proofs.Sums.{cut-zero, cut-mono, cut-largest, none_above}

module _ (capacity : ℕ) (ds : List ℕ) where
  -- a number that fits lies below one that does not
  pub fits_below : {s t : ℕ} → cut_sum s ds ≤ capacity → capacity < cut_sum t ds → s < t
  fits_below {s} {t} h l = by_cases (dec_lt s t) (λ g. g) (λ g. absurd (omega (arith, cut-mono {s = t} {t = s} ds (omega arith))))

  pub greatest-next : {s : ℕ} → cut_sum s ds ≤ capacity → capacity < cut_sum (s + 1) ds → GreatestShare capacity ds s
  greatest-next h l = record { fits = h; next = l; top = λ t f. omega (arith, fits_below f l) }

  greatest-top : {s : ℕ} → cut_sum s ds ≤ capacity → ((t : ℕ) → cut_sum t ds ≤ capacity → t ≤ s) → GreatestShare capacity ds s
  greatest-top {s} h top = greatest-next h (by_cases (dec_le (cut_sum (s + 1) ds) capacity) (λ f. absurd (omega (arith, top (s + 1) f))) (λ f. omega arith))

  -- where the plain sum does not fit, some demand is above whatever fits, and that is below the largest rate
  module _ (over : capacity < plain_sum ds) where
    pub some-above : (s : ℕ) → cut_sum s ds ≤ capacity → 0 < above s ds
    some-above s h = by_cases (dec_lt 0 (above s ds)) (λ g. g) (λ g. absurd (omega (arith, none_above s ds (omega arith))))

    pub below-largest : in_range ds ≡ true → {s : ℕ} → cut_sum s ds ≤ capacity → s < largest_rate
    below-largest e h = fits_below h (omega (arith, cut-largest ds e))

  -- looking from n downwards finds it, if it is not above n
  pub greatest-found : (n s : ℕ) → GreatestShare capacity ds s → s ≤ n → greatest_up_to capacity ds n ≡ s
  unfolding greatest_up_to
  greatest-found zero s g h = omega arith
  greatest-found (suc n) s g h = go (leb (cut_sum (suc n) ds) capacity) refl (greatest-found n s g)
    where
      go : (b : Bool) → leb (cut_sum (suc n) ds) capacity ≡ b → (s ≤ n → greatest_up_to capacity ds n ≡ s) → cond b (suc n) (greatest_up_to capacity ds n) ≡ s
      go true e r = omega (arith, g.top (suc n) (leb-true _ _ e))
      go false e r = r (omega (arith, fits_below g.fits (leb-false _ _ e)))

  -- and what it finds is the greatest, if nothing above n fits
  pub found-greatest : (n : ℕ) → ((t : ℕ) → cut_sum t ds ≤ capacity → t ≤ n) → GreatestShare capacity ds (greatest_up_to capacity ds n)
  unfolding greatest_up_to
  found-greatest zero top = greatest-top (omega (arith, cut-zero ds)) top
  found-greatest (suc n) top = go (leb (cut_sum (suc n) ds) capacity) refl (found-greatest n)
    where
      go : (b : Bool) → leb (cut_sum (suc n) ds) capacity ≡ b
          → (((t : ℕ) → cut_sum t ds ≤ capacity → t ≤ n) → GreatestShare capacity ds (greatest_up_to capacity ds n))
          → GreatestShare capacity ds (cond b (suc n) (greatest_up_to capacity ds n))
      go true e r = greatest-top (leb-true _ _ e) top
      go false e r = r (λ t f. omega (arith, fits_below f (leb-false _ _ e)))
