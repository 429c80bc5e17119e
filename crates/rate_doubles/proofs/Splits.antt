-- A double by its digits. The leading ones are its code. Those below them are what is left after
-- the code's rate is subtracted.
use Prim.Native.Nat.{ℕ, ◌+◌, ◌-◌, ◌*◌, ◌/◌, ◌^◌, ◌≤◌, ◌<◌}
use mathlib.Core.Path.{◌≡◌, ap, subst, ◌∙◌}
use mathlib.Core.Bool.{false}
use mathlib.Core.Logic.{inl, inr}
use native.Mathlib.Nat.{mul-pos, mul-le-mul_left, mul-lt-mul_of_pos_right, le-div_iff_mul-le, div-lt_iff_lt-mul, eq_of_mul-eq-mul_right, eq-zero-or-pos, pow-suc}
use native.Mathlib.Omega.{arith}
use lib.Dec.{lit<}
use lib.Pow.{pow_pos}
use lib.Ieee.{binary64, round}
use lib.Ieee.Scale.{round_same}
use Rattle.rate.specs.Code.{rate_of, code_of, GreatestCode}
use Rattle.rate.proofs.Octaves.{Octave, octave, code_in, code-octave}
use Rattle.rate.proofs.Codes.{rate-parts, greatest-in}
use Rattle.rate_doubles.specs.Import.{remainder_of}
use Rattle.rate_doubles.proofs.Fractions.{power-parts}

-- a / d cells per second are the rate of this code plus low / whole
pub record Split (a d code low whole : ℕ) : Type 0 where
  pub coded : code_of (a * 512 / d) ≡ code
  pub greatest : GreatestCode (a * 512 / d) code
  pub sum : a * (512 * whole) ≡ (rate_of code * whole + 512 * low) * d
  pub remainder : round binary64 false low whole ≡ remainder_of code (a * 512) d
  pub none : low ≡ 0 → a * 512 ≡ rate_of code * d
  pub some : a * 512 ≡ rate_of code * d → low ≡ 0

-- a / d cells per second are 2^E × (1 + (M × 2^43 + low) / 2^52)
module _ (a d E M low : ℕ) (p : 0 < d) (e-small : E < 32) (m-small : M < 512) (l-small : low < 2 ^ 43) (v : a * 2 ^ 52 ≡ (2 ^ 52 + (M * 2 ^ 43 + low)) * 2 ^ E * d) where
  abbrev code : ℕ
  code = 16384 + E * 512 + M

  abbrev rate : ℕ
  rate = rate_of code

  abbrev units : ℕ
  units = a * 512 / d

  rate-is : rate ≡ 2 ^ E * (512 + M)
  rate-is = rate-parts E M e-small m-small

  parts : a * 512 * 2 ^ 43 ≡ rate * d * 2 ^ 43 + low * 2 ^ E * d
  parts = omega (arith, ap (λ (z : ℕ). z * d) rate-is)

  rate-under : rate * d ≤ a * 512
  rate-under = omega (arith, parts)

  least : rate ≤ units
  least = (le-div_iff_mul-le p).1 rate-under

  most : units < rate + 2 ^ E
  most = (div-lt_iff_lt-mul p).1 (omega (arith, parts, mul-lt-mul_of_pos_right l-small (mul-pos (pow_pos E) p)))

  in-octave : Octave E units
  in-octave = octave E units (omega (arith, least, rate-is)) (omega (arith, most, rate-is, pow-suc 2 E, mul-le-mul_left (2 ^ E) m-small))

  leading : units / 2 ^ E ≡ 512 + M
  leading =
      let l : 512 + M ≤ units / 2 ^ E = (le-div_iff_mul-le (pow_pos E)).1 (omega (arith, least, rate-is)) in
      let m : units / 2 ^ E < 513 + M = (div-lt_iff_lt-mul (pow_pos E)).1 (omega (arith, most, rate-is)) in
      omega arith

  code_is : code_in E units ≡ code
  code_is = omega (arith, leading)

  code-of : code_of units ≡ code
  code-of = code-octave E units e-small in-octave ∙ code_is

  greatest : GreatestCode units code
  greatest = subst (GreatestCode units) code_is (greatest-in units E e-small in-octave)

  -- what is left is low over 2^(52 - E)
  abbrev whole : ℕ
  whole = 2 ^ (52 - E)

  sum_is : a * (512 * whole) ≡ (rate * whole + 512 * low) * d
  sum_is =
      let w : whole * 2 ^ E ≡ 2 ^ 52 = power-parts 52 E (omega arith) in
      eq_of_mul-eq-mul_right (2 ^ E) (pow_pos E) (a * (512 * whole)) ((rate * whole + 512 * low) * d)
      (omega (arith, parts, ap (λ (z : ℕ). a * z) w, ap (λ (z : ℕ). rate * d * z) w))

  left_is : round binary64 false low whole ≡ remainder_of code (a * 512) d
  left_is =
      let k : a * 512 ≡ rate * d + (a * 512 - rate * d) = omega (arith, rate-under) in
      round_same binary64 false low whole (a * 512 - rate * d) (512 * d) (pow_pos (52 - E)) (mul-pos (lit< tt) p)
      (omega (arith, sum_is, ap (λ (z : ℕ). z * whole) k))

  none_left : low ≡ 0 → a * 512 ≡ rate * d
  none_left z = let q : a * 512 * 2 ^ 43 ≡ rate * d * 2 ^ 43 + 0 * 2 ^ E * d = rw z at parts in omega arith

  some_left : a * 512 ≡ rate * d → low ≡ 0
  some_left q = elim (eq-zero-or-pos low) [ inl z ↦ z | inr n ↦ absurd (omega (arith, parts, mul-pos n (mul-pos (pow_pos E) p))) ]

  pub split : Split a d code low whole
  split = record { coded = code-of; greatest = greatest; sum = sum_is; remainder = left_is; none = none_left; some = some_left }
