-- The rate code. `code_of` gives the greatest code rate not above a rate. A code comes back from its own rate.
-- Both directions keep the order.
use mathlib.Core.Path.{◌≡◌, refl, sym, ap, ◌∙◌}
use mathlib.Core.Bool.{Bool, true, false, cond}
use mathlib.Core.Logic.{by_cases}
use Prim.Native.Nat.{ℕ, zero, suc, ◌+◌, ◌-◌, ◌*◌, ◌/◌, ◌%◌, ◌^◌, ◌≤◌, ◌<◌}
use native.Mathlib.Nat.{le_refl, le_trans, le_of_eq, mul-le-mul, mul-le-mul_left, mul_comm, mul-div-le, le-div_iff_mul-le, mul-suc, pow-suc, mul-div_cancel}
use native.Mathlib.Omega.{arith}
use native.Mathlib.Decide.{dec_lt}
use lib.Dec.{leb, eqb}
use lib.Pow.{pow_pos, pow_mono, shr_mono}
use borrow.Author.Tests.{leb-true, leb-false, eqb-true, eq-eqb, ne_eqb, lt-ltb}
use Rattle.rate.specs.Code.{reserved_clear, codes_clear, rate_of, code_below, code_of, GreatestCode}
use Rattle.rate.specs.Units.{largest_rate}
use Rattle.rate.proofs.Octaves.{Octave, octave, code_in, code-octave, code-none}

-- a code's rate, by its parts
pub rate-parts : (e m : ℕ) → e < 32 → m < 512 → rate_of (16384 + e * 512 + m) ≡ 2 ^ e * (512 + m)
unfolding rate_of
rate-parts e m h k =
    rw (eq-eqb ((16384 + e * 512 + m) / 16384 % 2) 1 (omega arith), exponent, mantissa)
  where
    exponent : (16384 + e * 512 + m) / 512 % 32 ≡ e
    exponent = omega arith

    mantissa : (16384 + e * 512 + m) % 512 ≡ m
    mantissa = omega arith

-- a code's rate is 0, or 2^e × y for an e below 32 and a y from 512 to 1,023
data Parts (r : ℕ) : Type 0 where
  nil : r ≡ 0 → Parts r
  parts : (e y : ℕ) → e < 32 → 512 ≤ y → y < 1024 → r ≡ 2 ^ e * y → Parts r

rate-has : (k : ℕ) → Parts (rate_of k)
unfolding rate_of
rate-has k = go (eqb (k / 16384 % 2) 1)
  where
    go : (b : Bool) → Parts (cond b (2 ^ (k / 512 % 32) * (512 + k % 512)) 0)
    go true = parts (k / 512 % 32) (512 + k % 512) (omega arith) (omega arith) (omega arith) refl
    go false = nil refl

-- every code's rate can be coded
pub rate-le : (k : ℕ) → rate_of k ≤ largest_rate
rate-le k = go (rate-has k)
  where
    go : Parts (rate_of k) → rate_of k ≤ largest_rate
    go (nil z) = omega arith
    go (parts e y f a b z) =
        le_trans (le_of_eq z) (mul-le-mul {n₁ = 2 ^ e} {m₁ = y} {n₂ = 2 ^ 31} {m₂ = 1023} (pow_mono {i = e} {j = 31} (omega arith)) (omega arith))

-- a code rate not above x, where x lies in the octave of e
under : (x e : ℕ) → Octave e x → (r : ℕ) → Parts r → r ≤ x → r ≤ 2 ^ e * (x / 2 ^ e)
under x e o r (nil z) h = rw z (omega arith)
under x e o r (parts f y _ a b z) h =
    by_cases (dec_lt f e)
    (λ g. omega (arith, pow-suc 2 f, mul-le-mul_left (2 ^ f) b, mul-le-mul (pow_mono g) o.low))
    (λ g. by_cases (dec_lt e f)
    (λ l. absurd (omega (arith, o.to, mul-le-mul (pow_mono l) a)))
    (λ l. let q : f ≡ e = omega arith in
    let s : r ≡ 2 ^ e * y = rw q at z in
    le_trans (le_of_eq s) (mul-le-mul_left (2 ^ e) ((le-div_iff_mul-le (pow_pos e)).1 (omega (arith, mul_comm y (2 ^ e)))))))

none-under : (x : ℕ) → x < 512 → (r : ℕ) → Parts r → r ≤ x → r ≡ 0
none-under x u r (nil z) h = z
none-under x u r (parts e y _ a b z) h = omega (arith, mul-le-mul (pow_pos e) a)

greatest-none : (x : ℕ) → x < 512 → GreatestCode x 0
unfolding rate_of
greatest-none x u = record {
  not_above = omega arith;
  greatest = λ k h. le_of_eq (none-under x u (rate_of k) (rate-has k) h);
  fifteen = omega arith;
}

pub greatest-in : (x e : ℕ) → e < 32 → Octave e x → GreatestCode x (code_in e x)
greatest-in x e h o = record {
  not_above = rw rate (mul-div-le x (2 ^ e));
  greatest = λ k g. rw rate (under x e o (rate_of k) (rate-has k) g);
  fifteen = omega (arith, o.high);
}
  where
    rate : rate_of (code_in e x) ≡ 2 ^ e * (x / 2 ^ e)
    rate = rate-parts e (x / 2 ^ e - 512) h (omega (arith, o.high)) ∙ ap (λ y. 2 ^ e * y) (omega (arith, o.low))

greatest-below : (n x : ℕ) → n ≤ 32 → x < 512 * 2 ^ n → GreatestCode x (code_below n x)
unfolding code_below
greatest-below zero x h u = greatest-none x u
greatest-below (suc e) x h u = go (λ l. greatest-below e x (omega arith) l) (leb (512 * 2 ^ e) x) refl
  where
    go :
        (x < 512 * 2 ^ e → GreatestCode x (code_below e x)) → (b : Bool) → leb (512 * 2 ^ e) x ≡ b
        → GreatestCode x (cond b (code_in e x) (code_below e x))
    go k true p = greatest-in x e h (octave e x (leb-true _ _ p) u)
    go k false p = k (leb-false _ _ p)

-- the code of a rate has the greatest code rate not above it
pub code-greatest : (x : ℕ) → x ≤ largest_rate → GreatestCode x (code_of x)
unfolding code_of
code-greatest x h = greatest-below 32 x (le_refl 32) (omega arith)

-- a code comes back from its own rate: its low 15 bits, and 0 where nz is 0
pub code-of-rate : (k : ℕ) → code_of (rate_of k) ≡ cond (eqb (k / 16384 % 2) 1) (k % 32768) 0
unfolding rate_of
code-of-rate k = go (eqb (k / 16384 % 2) 1) refl
  where
    e : ℕ
    e = k / 512 % 32

    y : ℕ
    y = 512 + k % 512

    go : (b : Bool) → eqb (k / 16384 % 2) 1 ≡ b → code_of (cond b (2 ^ e * y) 0) ≡ cond b (k % 32768) 0
    go false p = code-none 0 (omega arith)
    go true p =
        let l : 2 ^ e * 512 ≤ 2 ^ e * y = mul-le-mul_left (2 ^ e) (omega arith) in
        let u : 2 ^ e * suc y ≤ 2 ^ e * 1024 = mul-le-mul_left (2 ^ e) (omega arith) in
        let o : Octave e (2 ^ e * y) = octave e (2 ^ e * y) (omega arith) (omega (arith, pow-suc 2 e, mul-suc (2 ^ e) y, pow_pos e)) in
        let d : 2 ^ e * y / 2 ^ e ≡ y = rw (mul_comm (2 ^ e) y) (mul-div_cancel y (pow_pos e)) in
        code-octave e (2 ^ e * y) (omega arith) o ∙ rw d (omega (arith, eqb-true (k / 16384 % 2) 1 p))

-- by the test of nz
pub canonical_set : (k : ℕ) → k / 16384 % 2 ≡ 1 → k % 32768 ≡ code_of (rate_of k)
canonical_set k h = sym (code-of-rate k ∙ rw (eq-eqb _ _ h))

pub canonical_clear : (k : ℕ) → (k / 16384 % 2 ≡ 1 → ⊥) → 0 ≡ code_of (rate_of k)
canonical_clear k h = sym (code-of-rate k ∙ rw (ne_eqb _ _ h))

-- the codes below an octave
below-le : (e x : ℕ) → x < 512 * 2 ^ e → code_below e x ≤ 16384 + e * 512
unfolding code_below
below-le zero x h = omega arith
below-le (suc e) x h = go (λ l. below-le e x l) (leb (512 * 2 ^ e) x) refl
  where
    go :
        (x < 512 * 2 ^ e → code_below e x ≤ 16384 + e * 512) → (b : Bool) → leb (512 * 2 ^ e) x ≡ b
        → cond b (code_in e x) (code_below e x) ≤ 16384 + suc e * 512
    go k true p = omega (arith, (octave e x (leb-true _ _ p) h).high)
    go k false p = omega (arith, k (leb-false _ _ p))

below-mono : (n : ℕ) {x y : ℕ} → x ≤ y → code_below n x ≤ code_below n y
unfolding code_below
below-mono zero h = le_refl 0
below-mono (suc e) {x} {y} h = go (below-mono e h) (leb (512 * 2 ^ e) x) (leb (512 * 2 ^ e) y) refl refl
  where
    go :
        code_below e x ≤ code_below e y → (a b : Bool) → leb (512 * 2 ^ e) x ≡ a → leb (512 * 2 ^ e) y ≡ b
        → cond a (code_in e x) (code_below e x) ≤ cond b (code_in e y) (code_below e y)
    go k true true p q = omega (arith, shr_mono {a = x} {b = y} e h)
    go k true false p q = absurd (omega (arith, leb-true (512 * 2 ^ e) x p, leb-false (512 * 2 ^ e) y q))
    go k false true p q = omega (arith, below-le e x (leb-false _ _ p))
    go k false false p q = k

-- a higher rate has no lower code
pub code_mono : {x y : ℕ} → x ≤ y → code_of x ≤ code_of y
unfolding code_of
code_mono h = below-mono 32 h

-- codes of 15 bits have bit 15 clear
pub codes-clear : (a b c : ℕ) → a ≤ 32767 → b ≤ 32767 → c ≤ 32767 → codes_clear a b c ≡ true
unfolding codes_clear reserved_clear
codes-clear a b c h i j = rw (lt-ltb a 32768 (omega (arith, h)), lt-ltb b 32768 (omega (arith, i)), lt-ltb c 32768 (omega (arith, j)))
