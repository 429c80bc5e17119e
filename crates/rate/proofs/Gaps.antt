-- The gap: not above 512,000,000,000, shorter at a higher rate, and never so short that a cell comes too early.
use mathlib.Core.Path.{◌≡◌, ap, ◌∙◌}
use mathlib.Core.Logic.{by_cases}
use Prim.Native.Nat.{ℕ, ◌+◌, ◌-◌, ◌*◌, ◌/◌, ◌%◌, ◌≤◌, ◌<◌, min}
use native.Mathlib.Nat.{le_trans, add-div_right, div-le_self, div-mul-le_self, le-div_iff_mul-le, div-lt_iff_lt-mul, lt-div-mul-add, mul-le-mul_left, add-mul}
use native.Mathlib.Omega.{arith}
use native.Mathlib.Decide.{dec_lt}
use Rattle.std.proofs.lemmas.Grind.{div_ceil_times}
use Rattle.rate.specs.Gap.{gap}

-- a quotient rounded up, as `div_ceil` computes it, is the quotient of the definitions
pub div_ceil_is : (a b : ℕ) → 0 < b → a / b + min 1 (a % b) ≡ (a + b - 1) / b
div_ceil_is a b p =
    let c : ℕ = a / b + min 1 (a % b) in
    let t : (a ≤ c * b) × (c * b < a + b) = div_ceil_times a b p in
    let low : c ≤ (a + b - 1) / b = (le-div_iff_mul-le p).1 (omega (arith, t.1)) in
    let high : (a + b - 1) / b < c + 1 = (div-lt_iff_lt-mul p).1 (omega (arith, t.0, add-mul c 1 b)) in
    omega arith

pub gap_div_ceil : (a : ℕ) → 0 < a → 512_000_000_000 / a + min 1 (512_000_000_000 % a) ≡ gap a
unfolding gap
gap_div_ceil a p = div_ceil_is 512_000_000_000 a p

pub gap_is : (a : ℕ) → 1 ≤ a → gap a ≡ 511_999_999_999 / a + 1
unfolding gap
gap_is a h = ap (λ (n : ℕ). n / a) (omega arith) ∙ add-div_right 511_999_999_999 h

pub gap_none : (a : ℕ) → a ≡ 0 → 0 ≡ gap a
unfolding gap
gap_none a q = rw q

pub gap-le : (a : ℕ) → gap a ≤ 512_000_000_000
gap-le a =
    by_cases (dec_lt 0 a) (λ h. omega (arith, gap_is a h, div-le_self 511_999_999_999 a)) (λ h. omega (arith, gap_none a (omega arith)))

pub gap-antitone : {a b : ℕ} → 1 ≤ a → a ≤ b → gap b ≤ gap a
gap-antitone {a} {b} h l = omega (arith, gap_is a h, gap_is b (omega arith), fewer)
  where
    fewer : 511_999_999_999 / b ≤ 511_999_999_999 / a
    fewer = (le-div_iff_mul-le h).1 (le_trans (mul-le-mul_left (511_999_999_999 / b) l) (div-mul-le_self 511_999_999_999 b))

-- a cell for each gap is no more than the rate
pub gap-enough : (a : ℕ) → 1 ≤ a → 512_000_000_000 ≤ gap a * a
gap-enough a h = rw (gap_is a h) (omega (arith, lt-div-mul-add {a = 511_999_999_999} h, add-mul (511_999_999_999 / a) 1 a))
