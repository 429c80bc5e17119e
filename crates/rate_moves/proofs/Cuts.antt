-- A rate less a part of it: in the form that the code computes, in order, and with at least the whole part taken off.
use mathlib.Core.Path.{◌≡◌, sym, ap, ◌∙◌}
use mathlib.Core.Logic.{by_cases}
use Prim.Native.Nat.{ℕ, ◌+◌, ◌-◌, ◌*◌, ◌/◌, ◌^◌, ◌≤◌, ◌<◌}
use native.Mathlib.Nat.{le_trans, le_of_eq, lt_of_lt_of_le, sub-le, add-mul, mul-sub, zero-mul, mul-le-mul_left, mul-le-mul_right}
use native.Mathlib.Nat.{zero-div, mul-div_cancel, mod-lt, div-add-mod', div-le_self, div-mul-le_self, div-eq_of_lt, div-eq_of_lt-le}
use native.Mathlib.Omega.{arith}
use native.Mathlib.Decide.{dec_lt}
use lib.Pow.{pow_pos, pow_mono, shr_mono}
use Rattle.rate_moves.specs.Moves.{reduced_by}

-- a part by more than the width is nothing
pub part_none : (x k : ℕ) → x < 2 ^ 64 → 64 ≤ k → 0 ≡ x / 2 ^ k
part_none x k h l = sym (div-eq_of_lt (lt_of_lt_of_le h (pow_mono l)))

-- b + 1 less its part 1/p, rounded down, is b less b's own part, rounded down
share : (b p : ℕ) → 0 < p → (b + 1) * (p - 1) / p ≡ b - b / p
share b p h =
    let whole : b - b / p + b / p ≡ b = omega (arith, div-le_self b p) in
    let times = ap (λ (n : ℕ). n * p) whole in
    let unique = add-mul (b - b / p) (b / p) p in
    let rest = div-add-mod' b p in
    let less = mod-lt b h in
    let left = mul-sub (b + 1) p 1 in
    let more = add-mul b 1 p in
    div-eq_of_lt-le p (omega arith) (omega (arith, add-mul (b - b / p) 1 p))

pub cut_is : (k x : ℕ) → x - 1 - (x - 1) / 2 ^ k ≡ reduced_by k x
unfolding reduced_by
cut_is k x =
    by_cases (dec_lt 0 x)
    (λ h.
    let more : x ≡ x - 1 + 1 = omega arith in
    sym (ap (λ (n : ℕ). n * (2 ^ k - 1) / 2 ^ k) more ∙ share (x - 1) (2 ^ k) (pow_pos k)))
    (λ h. let none : x ≡ 0 = omega arith in rw (none, zero-mul, zero-div))

pub part_le : (k x : ℕ) → x / 2 ^ k ≤ x
part_le k x = div-le_self x (2 ^ k)

pub cut-mono : (k : ℕ) {a b : ℕ} → a ≤ b → reduced_by k a ≤ reduced_by k b
unfolding reduced_by
cut-mono k h = shr_mono k (mul-le-mul_right (2 ^ k - 1) h)

pub cut-le : (k x : ℕ) → reduced_by k x ≤ x
unfolding reduced_by
cut-le k x = le_trans (shr_mono k (mul-le-mul_left x (sub-le (2 ^ k) 1))) (le_of_eq (mul-div_cancel x (pow_pos k)))

-- what stays is no more than what the part leaves
pub cut-under : (k x : ℕ) → reduced_by k x * 2 ^ k ≤ x * (2 ^ k - 1)
unfolding reduced_by
cut-under k x = div-mul-le_self (x * (2 ^ k - 1)) (2 ^ k)

-- what goes is no less than the part
pub cut-enough : (k x : ℕ) → x ≤ (x - reduced_by k x) * 2 ^ k
cut-enough k x =
    omega (arith, cut-under k x, mul-sub x (2 ^ k) 1, mul-le-mul_left x (pow_pos k), add-mul (x - reduced_by k x) (reduced_by k x) (2 ^ k), ap (λ (n : ℕ). n * 2 ^ k) whole)
  where
    whole : x - reduced_by k x + reduced_by k x ≡ x
    whole = omega (arith, cut-le k x)
