-- A code's exponent is its octave: the exponent e holds the rates from 512 × 2^e to below 512 × 2^(e + 1).
use mathlib.Core.Path.{◌≡◌, refl, sym, ap, ◌∙◌}
use mathlib.Core.Logic.{by_cases}
use Prim.Native.Nat.{ℕ, zero, suc, ◌+◌, ◌-◌, ◌*◌, ◌/◌, ◌^◌, ◌≤◌, ◌<◌}
use native.Mathlib.Nat.{le_trans, le-div_iff_mul-le, div-lt_iff_lt-mul, pow-suc, mul-le-mul_left}
use native.Mathlib.Omega.{arith}
use native.Mathlib.Decide.{dec_lt}
use lib.Pow.{pow_pos, pow_mono, pow-add}
use borrow.Author.Tests.{le-leb, lt-leb}
use Rattle.rate.specs.Code.{code_below, code_of, code_or_zero}
use Rattle.rate.specs.Units.{largest_rate}

-- x lies in the octave of e: its ten highest digits are a number from 512 to 1,023
pub record Octave (e x : ℕ) : Type 0 where
  pub from : 512 * 2 ^ e ≤ x
  pub to : x < 512 * 2 ^ suc e
  pub low : 512 ≤ x / 2 ^ e
  pub high : x / 2 ^ e < 1024

pub octave : (e x : ℕ) → 512 * 2 ^ e ≤ x → x < 512 * 2 ^ suc e → Octave e x
octave e x l u = record {
  from = l;
  to = u;
  low = (le-div_iff_mul-le (pow_pos e)).1 l;
  high = (div-lt_iff_lt-mul (pow_pos e)).1 (omega (arith, pow-suc 2 e));
}

-- the code that a rate has in its octave
abbrev pub code_in : ℕ → ℕ → ℕ
code_in e x = 16384 + e * 512 + (x / 2 ^ e - 512)

below-octave : (n e x : ℕ) → e < n → Octave e x → code_below n x ≡ code_in e x
unfolding code_below
below-octave zero e x h o = absurd (omega arith)
below-octave (suc f) e x h o =
    by_cases (dec_lt e f)
    (λ l. rw (lt-leb (512 * 2 ^ f) x (le_trans o.to (mul-le-mul_left 512 (pow_mono l)))) (below-octave f e x l o))
    (λ l. let q : f ≡ e = omega arith in rw q (rw (le-leb (512 * 2 ^ e) x o.from)))

pub code-octave : (e x : ℕ) → e < 32 → Octave e x → code_of x ≡ code_in e x
unfolding code_of
code-octave e x h o = below-octave 32 e x h o

-- a rate below every octave
below_none : (n x : ℕ) → x < 512 → code_below n x ≡ 0
unfolding code_below
below_none zero x h = refl
below_none (suc e) x h =
    rw (lt-leb (512 * 2 ^ e) x (omega (arith, pow_pos e))) (below_none e x h)

pub code-none : (x : ℕ) → x < 512 → code_of x ≡ 0
unfolding code_of
code-none x h = below_none 32 x h

-- the octave of a rate, from the place of its highest digit
pub record Leading (x j : ℕ) : Type 0 where
  pub room : 9 ≤ j
  pub small : j - 9 ≤ 31
  pub within : Octave (j - 9) x

pub leading : (x j : ℕ) → 512 ≤ x → x ≤ largest_rate → 2 ^ j ≤ x → x < 2 * 2 ^ j → Leading x j
leading x j l u a b =
    let least : 9 ≤ j = by_cases (dec_lt j 9) (λ k. absurd (omega (arith, pow-suc 2 j, pow_mono {i = suc j} {j = 9} k))) (λ k. omega arith) in
    let most : j ≤ 40 = by_cases (dec_lt 40 j) (λ k. absurd (omega (arith, pow_mono {i = 41} {j = j} k))) (λ k. omega arith) in
    let e : ℕ = j - 9 in
    let p : 2 ^ j ≡ 512 * 2 ^ e = ap (λ (n : ℕ). 2 ^ n) (omega arith) ∙ pow-add 2 9 e in
    record {
      room = least;
      small = omega arith;
      within = octave e x (omega arith) (omega (arith, pow-suc 2 e));
    }

-- up to the largest rate, `code_or_zero` is the code
pub or_zero_code : (x : ℕ) → x ≤ largest_rate → code_or_zero x ≡ code_of x
unfolding code_or_zero
or_zero_code x h = rw (le-leb x largest_rate h)

pub or_zero_none : (x : ℕ) → x < 512 → 0 ≡ code_or_zero x
or_zero_none x h = sym (or_zero_code x (omega arith) ∙ code-none x h)

pub or_zero_octave : (x j : ℕ) → 512 ≤ x → x ≤ largest_rate → 2 ^ j ≤ x → x < 2 * 2 ^ j → code_in (j - 9) x ≡ code_or_zero x
or_zero_octave x j l u a b =
    let o = leading x j l u a b in
    sym (or_zero_code x u ∙ code-octave (j - 9) x (omega (arith, o.small)) o.within)

-- so the code's sum stays in range
pub octave_low : (x j : ℕ) → 512 ≤ x → x ≤ largest_rate → 2 ^ j ≤ x → x < 2 * 2 ^ j → 512 ≤ x / 2 ^ (j - 9)
octave_low x j l u a b = (leading x j l u a b).within.low

pub octave_high : (x j : ℕ) → 512 ≤ x → x ≤ largest_rate → 2 ^ j ≤ x → x < 2 * 2 ^ j → x / 2 ^ (j - 9) + 512 * (j - 9) < 16896
octave_high x j l u a b = let o = leading x j l u a b in omega (arith, o.small, o.within.high)

-- what the code of `code_or_zero` needs
pub ruleset code_steps = (or_zero_none, or_zero_octave, octave_low, octave_high)
