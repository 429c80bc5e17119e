-- Import rounds nothing, gives the greatest code, and refuses what document 02 lists.
use Prim.Native.Nat.{ℕ, ◌-◌, ◌*◌, ◌/◌, ◌^◌, ◌≤◌, ◌<◌}
use mathlib.Core.Path.{◌≡◌, refl, sym, subst, ◌∙◌}
use mathlib.Core.Bool.{Bool, true, false, cond, true≢false}
use native.Mathlib.Nat.{mul-pos, zero-mul, le-div_iff_mul-le, div-lt_iff_lt-mul}
use native.Mathlib.Omega.{arith}
use borrow.Author.Tests.{eqb-true, eqb-false, ne_eqb, leb-false, ltb-false, le-leb, lt-leb, le-ltb, lt-ltb}
use lib.Dec.{leb, eqb, lit<}
use lib.IntN.{ℤ}
use lib.Pow.{pow_pos}
use lib.Ieee.{Float, nan, inf, fin, up, down, eq, le, lt}
use lib.Ieee.Digits.{Equals}
use lib.Ieee.Positive.{first_pos}
use lib.Ieee.Fits.{up_pos, down_pos}
use Rattle.std.specs.Prelude.{Ok, Err}
use Rattle.laws.specs.declared.refusals.Refusal.TheVariants.{Double}
use Rattle.rate.specs.Units.{largest_rate}
use Rattle.rate.specs.Code.{rate_of, code_of, GreatestCode}
use Rattle.rate.proofs.Octaves.{octave, code-octave, code-none}
use Rattle.rate.proofs.Codes.{code-greatest}
use Rattle.rate_doubles.specs.Import.{Exact, Below, split_at, accepted, of_fraction, import_of}
use Rattle.rate_doubles.specs.Refused.{Unfit, not_anumber, infinite, below_zero, below_one, too_large, RefusedExactly}
use Rattle.rate_doubles.specs.Exact.{IsSum, CodeUnder, ImportedExactly, ImportsExactly, LargestBelow}
use Rattle.rate_doubles.specs.Pattern.{place, low, pattern_code, pattern_remainder, pattern_split}
use Rattle.rate_doubles.proofs.Patterns.{Within}
use Rattle.rate_doubles.proofs.Tests.{nil, one, top, fails, nil-test, one-test, top-test, zero-found, low-refused, high-refused, in-range}
use Rattle.rate_doubles.proofs.Digits.{split-of, left-value, split-is}

-- the greatest code for the whole units of 1/512 is the greatest for the double
under : (s : Bool) (m : ℕ) (e : ℤ) (code : ℕ) → GreatestCode (m * up e * 512 / down e) code → CodeUnder (fin s m e) code
under s m e code g = record {
  not_above = (le-div_iff_mul-le (down_pos e)).0 g.not_above;
  greatest = λ k h. g.greatest k ((le-div_iff_mul-le (down_pos e)).1 h);
  fifteen = g.fifteen;
}

-- a double from 1 on and below 2^32
module _ {x : Float} {b : ℕ} (w : Within x b) where
  code-under : CodeUnder x (pattern_code b)
  code-under = rw w.is (under false w.m w.e (pattern_code b) (split-of w).greatest)

  is_sum : IsSum x (rate_of (pattern_code b)) (pattern_remainder b)
  is_sum = record { part = low b; whole = 2 ^ (52 - place b); some = pow_pos (52 - place b); remainder = left-value w; input = rw w.is (split-of w).sum }

  split-exact : ImportedExactly x (Ok (pattern_split b))
  unfolding pattern_split
  split-exact = go (eqb (low b) 0) refl
    where
      go : (t : Bool) → eqb (low b) 0 ≡ t → ImportedExactly x (Ok (cond t (Exact (pattern_code b)) (Below (pattern_code b) (pattern_remainder b))))
      go true h = (code-under, rw w.is ((split-of w).none (eqb-true (low b) 0 h)))
      go false h = (code-under, is_sum)

-- a zero
zero-exact : (x : Float) → eq x nil ≡ true → CodeUnder x 0 × Equals x (rate_of 0) 512
unfolding eq rate_of
zero-exact nan h = absurd (true≢false (sym h))
zero-exact (inf s) h = absurd (true≢false (sym h))
zero-exact (fin s m e) h =
    let z : m * up e ≡ 0 = eqb-true (m * up e) 0 (sym (nil-test s m e) ∙ h) in
    let n : m * up e * 512 / down e < 1 = (div-lt_iff_lt-mul (down_pos e)).1 (omega (arith, down_pos e)) in
    (under s m e 0 (subst (GreatestCode (m * up e * 512 / down e)) (code-none _ (omega arith)) (code-greatest _ (omega arith))), omega arith)

-- the doubles that do not pass the tests
some-digit : (s : Bool) (m : ℕ) (e : ℤ) → eq (fin s m e) nil ≡ false → 0 < m
some-digit s m e h = first_pos m (up e) (pos_of (eqb-false (m * up e) 0 (sym (nil-test s m e) ∙ h)))
  where
    pos_of : {k : ℕ} → (k ≡ 0 → ⊥) → 0 < k
    pos_of {k} n = omega arith

low-unfit : (x : Float) → eq x nil ≡ false → le one x ≡ false → Unfit x
low-unfit nan z h = not_anumber
low-unfit (inf s) z h = infinite s
low-unfit (fin true m e) z h = below_zero m e (some-digit true m e z)
low-unfit (fin false m e) z h = below_one m e (some-digit false m e z) (leb-false (down e) (m * up e) (sym (one-test false m e) ∙ h))

high-unfit : (x : Float) → eq x nil ≡ false → lt x top ≡ false → Unfit x
high-unfit nan z h = not_anumber
high-unfit (inf s) z h = infinite s
high-unfit (fin true m e) z h = below_zero m e (some-digit true m e z)
high-unfit (fin false m e) z h = too_large m e (ltb-false (m * up e) (2 ^ 32 * down e) (sym (top-test m e) ∙ h))

pub imports-exactly : ImportsExactly
imports-exactly x f = go (eq x nil) (le one x) (lt x top) refl refl refl
  where
    go : (p q r : Bool) → eq x nil ≡ p → le one x ≡ q → lt x top ≡ r → ImportedExactly x (import_of x)
    go true q r z h l = subst (ImportedExactly x) (zero-found x z) (zero-exact x z)
    go false false r z h l = subst (ImportedExactly x) (low-refused x z h) (refl, refl, low-unfit x z h)
    go false true false z h l = subst (ImportedExactly x) (high-refused x z l) (refl, refl, high-unfit x z l)
    go false true true z h l = let w = in-range x f h l in subst (ImportedExactly x) (split-is w) (split-exact w)

-- What is refused, and what not.
unfit-refused : (x : Float) → Unfit x → import_of x ≡ Err Double
unfolding of_fraction accepted
unfit-refused nan not_anumber = refl
unfit-refused (inf s) (infinite _) = refl
unfit-refused (fin true m e) (below_zero _ _ h) = rw (ne_eqb (m * up e) 0 (λ z. omega (arith, mul-pos h (up_pos e))))
unfit-refused (fin false m e) (below_one _ _ h l) = rw (ne_eqb (m * up e) 0 (λ z. omega (arith, mul-pos h (up_pos e))), lt-leb (down e) (m * up e) l)
unfit-refused (fin false m e) (too_large _ _ l) =
    rw (ne_eqb (m * up e) 0 (λ z. omega (arith, down_pos e)), le-ltb (m * up e) (2 ^ 32 * down e) l, fails (leb (down e) (m * up e)))

pub refused-exactly : RefusedExactly
unfolding of_fraction
refused-exactly = record {
  refused = unfit-refused;
  only = λ x f n e. subst (ImportedExactly x) e (imports-exactly x f);
  zeros = λ s e. rw (zero-mul (up e));
}

-- Above the largest rate over 512.
last-octave : (u : ℕ) → largest_rate ≤ u → u < 2 ^ 41 → code_of u ≡ 0x7FFF
last-octave u l h = code-octave 31 u (lit< tt) (octave 31 u (omega arith) (omega arith)) ∙ omega arith

pub largest-below : LargestBelow
unfolding of_fraction accepted split_at rate_of
largest-below m e l h =
    let d = down e in
    let a = m * up e in
    let p = down_pos e in
    let c : code_of (a * 512 / d) ≡ 0x7FFF = last-octave (a * 512 / d) ((le-div_iff_mul-le p).1 (omega arith)) ((div-lt_iff_lt-mul p).1 (omega arith)) in
    rw (ne_eqb a 0 (λ z. omega arith), le-leb d a (omega arith), lt-ltb a (2 ^ 32 * d) h, c, ne_eqb (a * 512) (largest_rate * d) (λ q. omega arith))
