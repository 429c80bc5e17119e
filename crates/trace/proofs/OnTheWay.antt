-- The loop over the octets of a number, one lemma for each way that it goes on or returns.
use mathlib.Core.Path.{◌≡◌, sym, subst, ◌∙◌}
use mathlib.Core.List.{List}
use Prim.Native.Nat.{ℕ, zero, suc, ◌+◌, ◌-◌, ◌*◌, ◌^◌, ◌≤◌, ◌<◌}
use native.Mathlib.Nat.{mul-one, le_refl}
use native.Mathlib.Omega.{arith}
use lib.ListN.{length, get_or}
use Rattle.trace.specs.Numbers.{Number, read_on}
use Rattle.trace.proofs.Groups.{value, no_number, no_end, end-reached, last-group, zero-group, more-groups, tenth-one, tenth-other, shortest}
use Rattle.trace.proofs.Weights.{next-weight, next-most, group-below, product-fits, sum_fits}

-- What is known whenever the octet at k is looked at: with `left` octets before the tenth, the rest of the number from
-- k on is the answer. The value so far is below the next group's weight, which is 2^63 once no octet is left.
pub record OnTheWay (s : List ℕ) (k v p : ℕ) (answer : Number) : Type 0 where
  pub left : ℕ
  pub same : read_on left s k v p ≡ answer
  pub below : v < p
  pub weight : p * 2 ^ (7 * left) ≡ 2 ^ 63

module _ {s : List ℕ} {k v p : ℕ} {answer : Number} (w : OnTheWay s k v p answer) where
  some_left : (p ≡ 2 ^ 63 → ⊥) → 0 < w.left
  some_left h = go w.left w.weight
    where
      go : (n : ℕ) → p * 2 ^ (7 * n) ≡ 2 ^ 63 → 0 < n
      go zero e = absurd (h (sym (mul-one p) ∙ e))
      go (suc n) e = omega arith

  none_left : p ≡ 2 ^ 63 → w.left ≤ 0
  none_left h = go w.left w.weight
    where
      go : (n : ℕ) → p * 2 ^ (7 * n) ≡ 2 ^ 63 → n ≤ 0
      go zero e = le_refl 0
      go (suc n) e = let m = next-most p (suc n) (omega arith) e in absurd (omega (arith, m, h))

  pub at_end : length s ≤ k → no_end ≡ answer
  at_end h = end-reached w.left s k v p h ∙ w.same

  module _ (h : k < length s) {b : ℕ} (e : b ≡ get_or s k 0) where
    -- the tenth octet
    pub at_one : p ≡ 2 ^ 63 → b ≡ 1 → value (v + p) (k + 1) ≡ answer
    at_one t f = tenth-one w.left s k v p (none_left t) h (sym e ∙ f) ∙ w.same

    pub at_other : p ≡ 2 ^ 63 → (b ≡ 1 → ⊥) → no_number ≡ answer
    at_other t f = tenth-other w.left s k v p (none_left t) h (λ z. f (e ∙ z)) ∙ w.same

    -- an octet before the tenth
    module _ (t : p ≡ 2 ^ 63 → ⊥) where
      pub at_zero : b ≡ 0 → 1 < p → no_number ≡ answer
      at_zero z l = zero-group w.left s k v p (some_left t) h (sym e ∙ z) l ∙ w.same

      pub at_last : b < 128 → (b ≡ 0 → p ≤ 1) → value (v + b * p) (k + 1) ≡ answer
      at_last l z = rw e (last-group w.left s k v p (some_left t) h (omega (arith, e)) (shortest (subst (λ (x : ℕ). x ≡ 0 → p ≤ 1) e z)) ∙ w.same)

      module _ (l : b < 256) where
        pub fits : (b - 128) * p < 2 ^ 64
        fits = product-fits (b - 128) p v w.left (some_left t) w.weight w.below (omega arith)

        pub value_fits : v + (b - 128) * p < 2 ^ 64
        value_fits = sum_fits (b - 128) p v w.left (some_left t) w.weight w.below (omega arith)

        pub on_next : 128 ≤ b → OnTheWay s (k + 1) (v + (b - 128) * p) (p * 128) answer
        on_next g = record {
          left = w.left - 1;
          same = rw e (more-groups w.left s k v p (some_left t) h (omega (arith, e)) ∙ w.same);
          below = group-below (b - 128) p v (omega arith) w.below;
          weight = next-weight p w.left (some_left t) w.weight;
        }

      pub last_fits : b < 128 → b * p < 2 ^ 64
      last_fits l = product-fits b p v w.left (some_left t) w.weight w.below (omega arith)

      pub last_value_fits : b < 128 → v + b * p < 2 ^ 64
      last_value_fits l = sum_fits b p v w.left (some_left t) w.weight w.below (omega arith)

      pub weight_fits : p * 128 < 2 ^ 64
      weight_fits = let m = next-most p w.left (some_left t) w.weight in omega (arith, m)
