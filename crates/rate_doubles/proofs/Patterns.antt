-- The bit pattern of a double from 1 on and below 2^32: its exponent's field and its digits make up its value.
use Prim.Native.Nat.{ℕ, zero, suc, ◌+◌, ◌-◌, ◌*◌, ◌/◌, ◌%◌, ◌^◌, ◌≤◌, ◌<◌}
use mathlib.Core.Path.{◌≡◌, refl, sym, ap, subst}
use mathlib.Core.Bool.{Bool, true, false, cond, not}
use native.Mathlib.Nat.{mul-le-mul_right, mul-lt-mul_of_pos_right, le_of_mul-le-mul_right, lt_of_mul-lt-mul_right, eq_of_mul-eq-mul_right, lt_of_not-le, not-le_of_lt, lt_of_lt_of_le, lt_of_le_of_lt, le-add_right, mod-lt, mod-eq_of_lt, mul-one}
use native.Mathlib.Omega.{arith}
use borrow.Author.Tests.{leb-false}
use lib.Dec.{T, leb, eqb, lit<, lit≤}
use lib.IntN.{ℤ}
use lib.Pow.{pow-add, pow_pos, pow_mono, shl_lt}
use lib.Ieee.{Float, nan, inf, fin, binary64, up, down, odd, of_fields, of_bits, to_bits, fits, is_nan}
use lib.Ieee.Exact.{HasValue, odd_sign}
use lib.Ieee.Fits.{down_pos}
use lib.Ieee.Bits.{of_bits-to_bits}
use Rattle.rate_doubles.proofs.Fractions.{power-parts}
use Rattle.rate_doubles.specs.Pattern.{digits}

-- a double a / d with the exponent's field X and the digits t
pub record Fields (X t a d : ℕ) : Type 0 where
  pub least : 1023 ≤ X
  pub most : X ≤ 1054
  pub value : a * 2 ^ 52 ≡ (2 ^ 52 + t) * 2 ^ (X - 1023) * d

-- a / d is w / q: at least 1, and below k
reaches : (w a d q : ℕ) → 0 < d → a * q ≡ w * d → d ≤ a → q ≤ w
reaches w a d q p v h = le_of_mul-le-mul_right {k = d} (omega (arith, mul-le-mul_right q h)) p

stays : (w a d q k : ℕ) → 0 < q → a * q ≡ w * d → a < k * d → w < k * q
stays w a d q k p v h = lt_of_mul-lt-mul_right d (omega (arith, mul-lt-mul_of_pos_right h p))

exponents : {i j : ℕ} → 2 ^ i < 2 ^ j → i < j
exponents h = lt_of_not-le (λ g. not-le_of_lt h (pow_mono g))

-- a part q of both sides cancels
cancels : (a r q w y z d : ℕ) → 0 < q → z * q ≡ y → a * (r * q) ≡ w * y * d → a * r ≡ w * z * d
cancels a r q w y z d p h v = eq_of_mul-eq-mul_right q p (a * r) (w * z * d) (omega (arith, ap (λ (k : ℕ). w * k * d) h))

-- the value of a pattern is a number of units of 2^-1074
module _ (t a d : ℕ) (small : t < 2 ^ 52) (p : 0 < d) (from : d ≤ a) (to : a < 2 ^ 32 * d) where
  subnormal : a * 2 ^ 1074 ≡ t * 2 ^ 0 * d → ⊥
  subnormal v = not-le_of_lt (lt_of_lt_of_le small (pow_mono {i = 52} {j = 1074} (lit≤ tt))) (rw mul-one at (reaches (t * 2 ^ 0) a d (2 ^ 1074) p v from))

  normal : (x : ℕ) → a * 2 ^ 1074 ≡ (2 ^ 52 + t) * 2 ^ x * d → Fields (suc x) t a d
  normal x v =
      let w = (2 ^ 52 + t) * 2 ^ x in
      let over : 1074 < 53 + x = exponents (lt_of_le_of_lt (reaches w a d (2 ^ 1074) p v from) (shl_lt 53 x (omega arith))) in
      let under : 52 + x < 1106 =
      exponents (lt_of_le_of_lt (rw (pow-add 2 52 x) (mul-le-mul_right (2 ^ x) (le-add_right (2 ^ 52) t))) (stays w a d (2 ^ 1074) (2 ^ 32) (pow_pos 1074) v to)) in
      let same : suc x - 1023 ≡ x - 1022 = omega arith in
      record {
        least = omega arith;
        most = omega arith;
        value = rw same (cancels a (2 ^ 52) (2 ^ 1022) (2 ^ 52 + t) (2 ^ x) (2 ^ (x - 1022)) d (pow_pos 1022) (power-parts x 1022 (omega arith)) v);
      }

-- the fields of a finite double
no_number : (b s : Bool) (m : ℕ) (e : ℤ) → cond b (inf s) nan ≡ fin false m e → ⊥
no_number true s m e p = let z : ◌≡◌ {A = ℕ} 0 1 = cc in omega arith
no_number false s m e p = let z : ◌≡◌ {A = ℕ} 0 1 = cc in omega arith

module _ (m : ℕ) (e : ℤ) (from : down e ≤ m * up e) (to : m * up e < 2 ^ 32 * down e) where
  signed : (s : Bool) (x w : ℕ) → odd 53 s w x 1074 ≡ fin false m e → HasValue (fin false m e) s (w * 2 ^ x) (2 ^ 1074)
  signed s x w q = subst (λ (y : Float). HasValue y s (w * 2 ^ x) (2 ^ 1074)) q (odd_sign 53 s w x 1074)

  fields : (s : Bool) (X t : ℕ) → t < 2 ^ 52 → of_fields binary64 s X t ≡ fin false m e → (false ≡ s) × Fields X t (m * up e) (down e)
  unfolding of_fields
  fields s zero t small q = absurd (subnormal t (m * up e) (down e) small (down_pos e) from to (signed s 0 t q).1)
  fields s (suc x) t small q = go (eqb (suc x) 2047) q
    where
      go : (b : Bool) → cond b (cond (eqb t 0) (inf s) nan) (odd 53 s (2 ^ 52 + t) x 1074) ≡ fin false m e → (false ≡ s) × Fields (suc x) t (m * up e) (down e)
      go true r = absurd (no_number (eqb t 0) s m e r)
      go false r = let v = signed s x (2 ^ 52 + t) r in (v.0, normal t (m * up e) (down e) small (down_pos e) from to x v.1)

  -- of a pattern without a sign the exponent's field is all that stands before the digits
  of-pattern : (b : ℕ) → of_bits binary64 b ≡ fin false m e → Fields (b / 2 ^ 52) (digits b) (m * up e) (down e)
  unfolding of_bits
  of-pattern b q =
      let f = fields (leb (2 ^ 63) b) (b % 2 ^ 63 / 2 ^ 52) (digits b) (mod-lt b (lit< tt)) q in
      let plain : b % 2 ^ 63 ≡ b = mod-eq_of_lt (leb-false (2 ^ 63) b (sym f.0)) in
      rw plain at f.1

-- a double from 1 on and below 2^32, and its pattern
pub record Within (x : Float) (b : ℕ) : Type 0 where
  pub m : ℕ
  pub e : ℤ
  pub is : x ≡ fin false m e
  pub from : down e ≤ m * up e
  pub to : m * up e < 2 ^ 32 * down e
  pub fields : Fields (b / 2 ^ 52) (digits b) (m * up e) (down e)

pub within : (m : ℕ) (e : ℤ) → T (fits binary64 (fin false m e)) → down e ≤ m * up e → m * up e < 2 ^ 32 * down e → Within (fin false m e) (to_bits binary64 (fin false m e))
within m e h from to =
    let b = to_bits binary64 (fin false m e) in
    record { m = m; e = e; is = refl; from = from; to = to; fields = of-pattern m e from to b (of_bits-to_bits binary64 (fin false m e) h) }

pub a-number : {x : Float} {b : ℕ} → Within x b → T (not (is_nan x))
unfolding is_nan
a-number w = subst (λ (y : Float). T (not (is_nan y))) (sym w.is) tt
