-- The sums of a list of demands, and how many of them are above a number.
use mathlib.Core.Path.{◌≡◌, refl, sym, ap, ◌∙◌}
use mathlib.Core.Bool.{Bool, true, false, ◌&&◌}
use mathlib.Core.List.{List, [], ◌∷◌}
use Prim.Native.Nat.{ℕ, ◌+◌, ◌*◌, ◌≤◌, ◌<◌, min}
use native.Mathlib.Nat.{le_refl}
use native.Mathlib.Omega.{arith}
use lib.Dec.{ltb, leb, eqb}
use lib.ListN.{length}
use borrow.Author.Tests.{lt-ltb, le-ltb, ltb-true, ltb-false, le-leb, lt-leb, ne_eqb, eqb-true}
use Rattle.rate.specs.Units.{largest_rate}
use Rattle.port_share.specs.Demands.{in_range, plain_sum, cut_sum}
use Rattle.port_share.specs.Above.{one_above, above}

-- ---- one demand
pub one_more : {s d : ℕ} → s < d → 1 ≡ one_above s d
unfolding one_above
one_more h = rw (lt-ltb _ _ h)

pub none_more : {s d : ℕ} → d ≤ s → 0 ≡ one_above s d
unfolding one_above
none_more h = rw (le-ltb _ _ h)

data Side (s d : ℕ) : Type 0 where
  higher : s < d → one_above s d ≡ 1 → Side s d
  within : d ≤ s → one_above s d ≡ 0 → Side s d

side : (s d : ℕ) → Side s d
side s d = go (ltb s d) refl
  where
    go : (b : Bool) → ltb s d ≡ b → Side s d
    go true e = higher (ltb-true s d e) (sym (one_more (ltb-true s d e)))
    go false e = within (ltb-false s d e) (sym (none_more (ltb-false s d e)))

pub one-le : (s d : ℕ) → one_above s d ≤ 1
one-le s d = go (side s d)
  where
    go : Side s d → one_above s d ≤ 1
    go (higher h e) = omega arith
    go (within h e) = omega arith

-- ---- cut sums
pub cut-zero : (ds : List ℕ) → cut_sum 0 ds ≡ 0
unfolding cut_sum
cut-zero [] = refl
cut-zero (d ∷ ds) = omega (arith, cut-zero ds)

pub cut-mono : {s t : ℕ} (ds : List ℕ) → s ≤ t → cut_sum s ds ≤ cut_sum t ds
unfolding cut_sum
cut-mono [] h = le_refl 0
cut-mono (d ∷ ds) h = omega (arith, cut-mono ds h)

pub cut-plain : (s : ℕ) (ds : List ℕ) → cut_sum s ds ≤ plain_sum ds
unfolding cut_sum plain_sum
cut-plain s [] = le_refl 0
cut-plain s (d ∷ ds) = omega (arith, cut-plain s ds)

cut_most : (s : ℕ) (ds : List ℕ) → cut_sum s ds ≤ length ds * s
unfolding cut_sum
cut_most s [] = omega arith
cut_most s (d ∷ ds) = omega (arith, cut_most s ds)

-- ---- how many are above
pub above-length : (s : ℕ) (ds : List ℕ) → above s ds ≤ length ds
unfolding above
above-length s [] = le_refl 0
above-length s (d ∷ ds) = omega (arith, above-length s ds, one-le s d)

-- k more for each demand that is above s now is enough
pub cut-more : (s k : ℕ) (ds : List ℕ) → cut_sum (s + k) ds ≤ cut_sum s ds + k * above s ds
unfolding cut_sum above
cut-more s k [] = omega arith
cut-more s k (d ∷ ds) = go (side s d) (cut-more s k ds)
  where
    go : Side s d → cut_sum (s + k) ds ≤ cut_sum s ds + k * above s ds
        → min d (s + k) + cut_sum (s + k) ds ≤ min d s + cut_sum s ds + k * (one_above s d + above s ds)
    go (higher h e) r = rw e (omega arith)
    go (within h e) r = rw e (omega arith)

-- k more for each that is above s + k too is needed
pub cut-least : (s k : ℕ) (ds : List ℕ) → cut_sum s ds + k * above (s + k) ds ≤ cut_sum (s + k) ds
unfolding cut_sum above
cut-least s k [] = omega arith
cut-least s k (d ∷ ds) = go (side (s + k) d) (cut-least s k ds)
  where
    go : Side (s + k) d → cut_sum s ds + k * above (s + k) ds ≤ cut_sum (s + k) ds
        → min d s + cut_sum s ds + k * (one_above (s + k) d + above (s + k) ds) ≤ min d (s + k) + cut_sum (s + k) ds
    go (higher h e) r = rw e (omega arith)
    go (within h e) r = rw e (omega arith)

-- one more costs one for each demand above s
pub cut-one : (s : ℕ) (ds : List ℕ) → cut_sum (s + 1) ds ≡ cut_sum s ds + above s ds
unfolding cut_sum above
cut-one s [] = refl
cut-one s (d ∷ ds) = go (side s d) (cut-one s ds)
  where
    go : Side s d → cut_sum (s + 1) ds ≡ cut_sum s ds + above s ds
        → min d (s + 1) + cut_sum (s + 1) ds ≡ min d s + cut_sum s ds + (one_above s d + above s ds)
    go (higher h e) r = omega arith
    go (within h e) r = omega arith

-- none above s: nothing is cut
pub none_above : (s : ℕ) (ds : List ℕ) → above s ds ≡ 0 → cut_sum s ds ≡ plain_sum ds
unfolding cut_sum above plain_sum
none_above s [] z = refl
none_above s (d ∷ ds) z = go (side s d) (none_above s ds)
  where
    go : Side s d → (above s ds ≡ 0 → cut_sum s ds ≡ plain_sum ds) → min d s + cut_sum s ds ≡ d + plain_sum ds
    go (higher h e) r = absurd (omega arith)
    go (within h e) r = omega (arith, r (omega arith))

-- ---- the largest rate
pub range-test : (ds : List ℕ) → in_range ds ≡ eqb (above largest_rate ds) 0
unfolding in_range above
range-test [] = refl
range-test (d ∷ ds) = go (side largest_rate d) (range-test ds)
  where
    go : Side largest_rate d → in_range ds ≡ eqb (above largest_rate ds) 0 → (leb d largest_rate && in_range ds) ≡ eqb (one_above largest_rate d + above largest_rate ds) 0
    go (higher h e) r =
        ap (λ (b : Bool). b && in_range ds) (lt-leb _ _ h) ∙ sym (ne_eqb (one_above largest_rate d + above largest_rate ds) 0 (λ z. omega (arith, z)))
    go (within h e) r =
        ap (λ (b : Bool). b && in_range ds) (le-leb _ _ h) ∙ r
        ∙ ap (λ (n : ℕ). eqb n 0) {x = above largest_rate ds} {y = one_above largest_rate d + above largest_rate ds} (omega arith)

pub cut-largest : (ds : List ℕ) → in_range ds ≡ true → cut_sum largest_rate ds ≡ plain_sum ds
cut-largest ds e = none_above largest_rate ds (eqb-true _ _ (sym (range-test ds) ∙ e))

pub plain-most : (ds : List ℕ) → in_range ds ≡ true → plain_sum ds ≤ length ds * largest_rate
plain-most ds e = omega (arith, cut-largest ds e, cut_most largest_rate ds)
