-- The weights of the groups: what is read stays below the next group's, and no product or sum of the code wraps.
use mathlib.Core.Path.{◌≡◌, sym, ap, subst, ◌∙◌}
use Prim.Native.Nat.{ℕ, ◌+◌, ◌-◌, ◌*◌, ◌^◌, ◌≤◌, ◌<◌}
use native.Mathlib.Nat.{mul_assoc, mul-one, mul-le-mul_left, mul-le-mul_right, le_trans, le_of_eq}
use native.Mathlib.Omega.{arith}
use lib.Pow.{pow-add, pow_pos}

-- n groups after the one of weight p comes the tenth octet
pub next-weight : (p n : ℕ) → 0 < n → p * 2 ^ (7 * n) ≡ 2 ^ 63 → p * 128 * 2 ^ (7 * (n - 1)) ≡ 2 ^ 63
next-weight p n h e = mul_assoc p 128 (2 ^ (7 * (n - 1))) ∙ ap (λ (x : ℕ). p * x) (sym (pow-add 2 7 (7 * (n - 1))) ∙ ap (λ (x : ℕ). 2 ^ x) (split n h)) ∙ e
  where
    split : (n : ℕ) → 0 < n → 7 + 7 * (n - 1) ≡ 7 * n
    split n h = omega arith

pub weight-most : (p n : ℕ) → p * 2 ^ n ≡ 2 ^ 63 → p ≤ 2 ^ 63
weight-most p n e = le_trans (subst (λ (x : ℕ). x ≤ p * 2 ^ n) (mul-one p) (mul-le-mul_left p (pow_pos n))) (le_of_eq e)

pub next-most : (p n : ℕ) → 0 < n → p * 2 ^ (7 * n) ≡ 2 ^ 63 → p * 128 ≤ 2 ^ 63
next-most p n h e = weight-most (p * 128) (7 * (n - 1)) (next-weight p n h e)

-- a group, of seven bits, with those below it
pub group-below : (b p v : ℕ) → b ≤ 127 → v < p → v + b * p < p * 128
group-below b p v h l = omega (arith, mul-le-mul_right p h)

module _ (b p v n : ℕ) (up : 0 < n) (e : p * 2 ^ (7 * n) ≡ 2 ^ 63) (l : v < p) (h : b ≤ 127) where
  pub product-fits : b * p < 2 ^ 64
  product-fits = omega (arith, next-most p n up e, group-below b p v h l)

  pub sum_fits : v + b * p < 2 ^ 64
  sum_fits = omega (arith, next-most p n up e, group-below b p v h l)
