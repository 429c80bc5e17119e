-- Doubles as fractions. A quotient of two whole numbers is rounded once, and not at all where it is a number of
-- 53 digits over a power of two.
use Prim.Native.Nat.{ℕ, ◌+◌, ◌-◌, ◌*◌, ◌^◌, ◌≤◌, ◌<◌}
use mathlib.Core.Path.{◌≡◌, refl, sym, ap, ◌∙◌}
use mathlib.Core.Bool.{true, false, true≢false}
use native.Mathlib.Nat.{mul-pos, mul_assoc, lt_of_lt_of_le, le_of_lt}
use native.Mathlib.Omega.{arith}
use lib.Dec.{T, le→leb}
use lib.IntN.{ℤ, pos}
use lib.Pow.{pow-add, pow_pos, pow_mono, shl_lt}
use lib.Ieee.{Float, nan, inf, fin, binary64, up, down, round, div, of_int, in_float}
use lib.Ieee.Digits.{back}
use lib.Ieee.Exact.{HasValue, round_exact}
use lib.Ieee.Back.{round_whole}
use lib.Ieee.Scale.{round_same}
use lib.Ieee.Fits.{down_pos}
use borrow.Author.Tests.{ne_eqb}
use Rattle.rate.proofs.Codes.{rate-le}

-- a double with the value a / c, by its parts
pub record Fraction (x : Float) (a c : ℕ) : Type 0 where
  pub m : ℕ
  pub e : ℤ
  pub is : x ≡ fin false m e
  pub value : m * up e * c ≡ a * down e

pub fraction : (x : Float) (a c : ℕ) → HasValue x false a c → Fraction x a c
fraction nan a c h = absurd h
fraction (inf s) a c h = absurd h
fraction (fin true m e) a c h = absurd (true≢false h.0)
fraction (fin false m e) a c h = record { m = m; e = e; is = refl; value = h.1 }

-- a whole number up to 2^53, as a double
pub whole-held : (n : ℕ) → n ≤ 2 ^ 53 → T (in_float binary64 (pos n))
unfolding in_float
whole-held n h = le→leb n (2 ^ 53) h

pub whole_is : (n : ℕ) → n ≤ 2 ^ 53 → HasValue (of_int binary64 (pos n)) false n 1
unfolding of_int
whole_is n h = round_whole binary64 false n h

-- the quotient of two whole numbers, each a double, is their fraction rounded
quotient-parts :
    (m k : ℕ) (e g : ℤ) (n d : ℕ) → 0 < d → m * up e * 1 ≡ n * down e → k * up g * 1 ≡ d * down g
    → div binary64 (fin false m e) (fin false k g) ≡ round binary64 false n d
unfolding div
quotient-parts m k e g n d p h l =
    rw (ne_eqb k 0 some) (round_same binary64 false (m * up e * down g) (k * up g * down e) n d (mul-pos above (down_pos e)) p cross)
  where
    above : 0 < k * up g
    above = omega (arith, mul-pos p (down_pos g))

    some : k ≡ 0 → ⊥
    some z = let q : 0 < 0 * up g = rw z at above in omega arith

    cross : m * up e * down g * d ≡ n * (k * up g * down e)
    cross = omega (arith, ap (λ (z : ℕ). z * (down g * d)) h, ap (λ (z : ℕ). n * (z * down e)) l)

pub quotient : (n d : ℕ) → n ≤ 2 ^ 53 → 0 < d → (y : Float) → HasValue y false d 1 → div binary64 (of_int binary64 (pos n)) y ≡ round binary64 false n d
quotient n d h p y v =
    let f = fraction (of_int binary64 (pos n)) n 1 (whole_is n h) in
    let g = fraction y d 1 v in
    rw (f.is, g.is) (quotient-parts f.m g.m f.e g.e n d p f.value g.value)

-- a power of two, in two parts
pub power-parts : (j k : ℕ) → k ≤ j → 2 ^ (j - k) * 2 ^ k ≡ 2 ^ j
power-parts j k h = sym (pow-add 2 (j - k) k) ∙ ap (λ (n : ℕ). 2 ^ n) (back j k h)

-- a number of 53 digits over a power of two is a double
over-power : (n k : ℕ) → n < 2 ^ 53 → k ≤ 1074 → HasValue (round binary64 false n (2 ^ k)) false n (2 ^ k)
over-power n k h l =
    round_exact binary64 false n (2 ^ k) n (1074 - k) (pow_pos k) h (lt_of_lt_of_le (shl_lt 53 (1074 - k) h) (pow_mono {i = 53 + (1074 - k)} {j = 2098} (omega arith)))
    (sym (mul_assoc n (2 ^ (1074 - k)) (2 ^ k) ∙ ap (λ (z : ℕ). n * z) (power-parts 1074 k l)))

-- so the quotient by a power of two is exact
pub quotient-exact :
    (n k : ℕ) → n < 2 ^ 53 → k ≤ 1074 → (y : Float) → HasValue y false (2 ^ k) 1 → HasValue (div binary64 (of_int binary64 (pos n)) y) false n (2 ^ k)
quotient-exact n k h l y v = rw (quotient n (2 ^ k) (le_of_lt h) (pow_pos k) y v) (over-power n k h l)

-- no code has a higher rate than the largest, which is below 2^42
pub ruleset export_steps = (rate-le)
