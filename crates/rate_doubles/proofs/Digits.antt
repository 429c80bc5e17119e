-- A pattern's own code and what is left of its digits are what the definition gives for the double.
use Prim.Native.Nat.{ℕ, ◌+◌, ◌-◌, ◌*◌, ◌/◌, ◌^◌, ◌≤◌, ◌<◌}
use mathlib.Core.Path.{◌≡◌, refl, sym, ap, subst, ◌∙◌}
use mathlib.Core.Bool.{Bool, true, false}
use native.Mathlib.Nat.{div-add-mod', mod-lt, le_trans, lt_of_lt_of_le}
use native.Mathlib.Omega.{arith}
use borrow.Author.Tests.{eqb-true, eqb-false, eq-eqb, ne_eqb, le-leb, lt-ltb}
use lib.Dec.{eqb, lit<, lit≤}
use lib.IntN.{pos}
use lib.Pow.{pow_pos, pow_mono, shl-shr, shr_le}
use lib.Ieee.{Float, binary64, up, down, of_int}
use lib.Ieee.Exact.{HasValue}
use lib.Ieee.Fits.{down_pos}
use Rattle.std.specs.Prelude.{Ok}
use Rattle.rate.specs.Code.{rate_of}
use Rattle.rate_doubles.specs.Import.{Exact, Below, remainder_of, split_at, accepted, of_fraction, import_of}
use Rattle.rate_doubles.specs.Pattern.{place, digits, lead, low, pattern_code, pattern_remainder, pattern_split}
use Rattle.rate_doubles.proofs.Fractions.{whole_is, whole-held, power-parts, quotient, quotient-exact}
use Rattle.rate_doubles.proofs.Patterns.{Within}
use Rattle.rate_doubles.proofs.Splits.{Split, split}

pub low_small : (b : ℕ) → low b < 2 ^ 43
low_small b = mod-lt (digits b) (lit< tt)

-- the two ways out of `split`
pub none_below : (b : ℕ) → low b ≡ 0 → Exact (pattern_code b) ≡ pattern_split b
unfolding pattern_split
none_below b h = rw (eq-eqb (low b) 0 h)

pub some_below : (b : ℕ) → (low b ≡ 0 → ⊥) → Below (pattern_code b) (pattern_remainder b) ≡ pattern_split b
unfolding pattern_split
some_below b h = rw (ne_eqb (low b) 0 h)

-- the divisor of what is left
pub unit-small : (k : ℕ) → 2 ^ 52 / 2 ^ k ≤ 2 ^ 53
unit-small k = le_trans (shr_le (2 ^ 52) k) (lit≤ tt)

unit-is : (k : ℕ) → k ≤ 52 → 2 ^ 52 / 2 ^ k ≡ 2 ^ (52 - k)
unit-is k h = ap (λ (z : ℕ). z / 2 ^ k) (sym (power-parts 52 k h)) ∙ shl-shr (2 ^ (52 - k)) k

unit-value : (k : ℕ) → k ≤ 52 → HasValue (of_int binary64 (pos (2 ^ 52 / 2 ^ k))) false (2 ^ (52 - k)) 1
unit-value k h = rw (unit-is k h) (whole_is (2 ^ (52 - k)) (pow_mono {i = 52 - k} {j = 53} (omega arith)))

module _ {x : Float} {b : ℕ} (w : Within x b) where
  abbrev a : ℕ
  a = w.m * up w.e

  abbrev d : ℕ
  d = down w.e

  place-small : place b < 32
  place-small = omega (arith, w.fields.most)

  lead-small : lead b < 512
  lead-small = omega (arith, mod-lt b {m = 2 ^ 52} (lit< tt))

  value : a * 2 ^ 52 ≡ (2 ^ 52 + (lead b * 2 ^ 43 + low b)) * 2 ^ place b * d
  value = subst (λ (t : ℕ). a * 2 ^ 52 ≡ (2 ^ 52 + t) * 2 ^ place b * d) (sym (div-add-mod' (digits b) (2 ^ 43))) w.fields.value

  abbrev whole : ℕ
  whole = 2 ^ (52 - place b)

  pub split-of : Split a d (pattern_code b) (low b) whole
  split-of = split a d (place b) (lead b) (low b) (down_pos w.e) place-small lead-small (low_small b) value

  divisor : HasValue (of_int binary64 (pos (2 ^ 52 / 2 ^ place b))) false whole 1
  divisor = unit-value (place b) (omega (arith, place-small))

  pub left-value : HasValue (pattern_remainder b) false (low b) whole
  left-value = quotient-exact (low b) (52 - place b) (lt_of_lt_of_le (low_small b) (lit≤ tt)) (omega arith) _ divisor

  left_is : pattern_remainder b ≡ remainder_of (pattern_code b) (a * 512) d
  left_is = quotient (low b) whole (omega (arith, low_small b)) (pow_pos (52 - place b)) _ divisor ∙ split-of.remainder

  nothing_left : eqb (low b) 0 ≡ eqb (a * 512) (rate_of (pattern_code b) * d)
  nothing_left = go (eqb (low b) 0) refl
    where
      go : (t : Bool) → eqb (low b) 0 ≡ t → t ≡ eqb (a * 512) (rate_of (pattern_code b) * d)
      go true h = sym (eq-eqb _ _ (split-of.none (eqb-true (low b) 0 h)))
      go false h = sym (ne_eqb _ _ (λ q. eqb-false (low b) 0 h (split-of.some q)))

  taken : accepted false a d ≡ true
  unfolding accepted
  taken = rw (le-leb d a w.from, lt-ltb a (2 ^ 32 * d) w.to)

  pub split-is : Ok (pattern_split b) ≡ import_of x
  unfolding pattern_split of_fraction split_at
  split-is = rw (w.is, ne_eqb a 0 (λ z. omega (arith, w.from, down_pos w.e)), taken, split-of.coded, nothing_left, left_is)

-- what the code's `split` needs
pub ruleset split_steps = (none_below, some_below, low_small, unit-small, whole-held)
