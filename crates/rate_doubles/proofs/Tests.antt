-- The comparisons that `import` makes of a double are those of its value. So each way to a refusal or
-- to 0x0000 is the definition's.
use Prim.Native.Nat.{ℕ, ◌*◌, ◌^◌}
use mathlib.Core.Path.{◌≡◌, refl, sym, ◌∙◌}
use mathlib.Core.Bool.{Bool, true, false, not, ◌&&◌, ◌||◌, beq, true≢false}
use mathlib.Core.Logic.{by_cases}
use native.Mathlib.Nat.{mul-one, one-mul, zero-mul}
use native.Mathlib.Omega.{arith}
use native.Mathlib.Decide.{dec_lt}
use borrow.Author.Tests.{leb-true, leb-false, ltb-true, eq-eqb, ne_eqb, lt-ltb, le-ltb}
use lib.Dec.{T, leb, ltb, eqb}
use lib.IntN.{ℤ, pos}
use lib.Ieee.{Float, nan, inf, fin, binary64, up, down, lt, le, eq, fits, to_bits}
use lib.Ieee.Fits.{down_pos}
use Rattle.std.specs.Prelude.{Ok, Err}
use Rattle.laws.specs.declared.refusals.Refusal.TheVariants.{Double}
use Rattle.rate_doubles.specs.Import.{Exact, accepted, of_fraction, import_of}
use Rattle.rate_doubles.proofs.Patterns.{Within, within}

-- the doubles that the code compares with: 0, 1 and 2^32
abbrev pub nil : Float
nil = fin false 0 (pos 0)

abbrev pub one : Float
one = fin false 1 (pos 0)

abbrev pub top : Float
top = fin false 1 (pos 32)

absorbs : (p q : Bool) → (p && (q || p)) ≡ p
absorbs true true = refl
absorbs true false = refl
absorbs false q = refl

pub fails : (p : Bool) → (p && false) ≡ false
fails true = refl
fails false = refl

pub nil-test : (s : Bool) (m : ℕ) (e : ℤ) → eq (fin s m e) nil ≡ eqb (m * up e) 0
unfolding eq
nil-test s m e = rw (mul-one (m * up e), zero-mul (down e)) (absorbs (eqb (m * up e) 0) (beq s false))

less-or-equal : (x y : ℕ) → (ltb x y || (eqb x y && true)) ≡ leb x y
less-or-equal x y = go (leb x y) refl
  where
    go : (b : Bool) → leb x y ≡ b → (ltb x y || (eqb x y && true)) ≡ b
    go true h =
        by_cases (dec_lt x y) (λ l. rw (lt-ltb x y l)) (λ l. rw (le-ltb x y (omega arith), eq-eqb x y (omega (arith, leb-true x y h))))
    go false h = let l = leb-false x y h in rw (le-ltb x y (omega arith), ne_eqb x y (λ e. omega arith))

pub one-test : (s : Bool) (m : ℕ) (e : ℤ) → le one (fin s m e) ≡ (not s && leb (down e) (m * up e))
unfolding eq le lt
one-test false m e = rw (one-mul (down e), mul-one (m * up e)) (less-or-equal (down e) (m * up e))
one-test true m e = rw (one-mul (down e), mul-one (m * up e), ne_eqb (down e) 0 (λ z. omega (arith, down_pos e))) (fails (eqb (down e) (m * up e)))

pub top-test : (m : ℕ) (e : ℤ) → lt (fin false m e) top ≡ ltb (m * up e) (2 ^ 32 * down e)
unfolding lt
top-test m e = rw mul-one

-- The ways out of `import`.
pub zero-found : (x : Float) → eq x nil ≡ true → Ok (Exact 0) ≡ import_of x
unfolding eq of_fraction
zero-found nan h = absurd (true≢false (sym h))
zero-found (inf s) h = absurd (true≢false (sym h))
zero-found (fin s m e) h = rw (sym (nil-test s m e) ∙ h)

pub low-refused : (x : Float) → eq x nil ≡ false → le one x ≡ false → Err Double ≡ import_of x
unfolding of_fraction accepted
low-refused nan z h = refl
low-refused (inf s) z h = refl
low-refused (fin true m e) z h = rw (sym (nil-test true m e) ∙ z)
low-refused (fin false m e) z h = rw (sym (nil-test false m e) ∙ z, sym (one-test false m e) ∙ h)

pub high-refused : (x : Float) → eq x nil ≡ false → lt x top ≡ false → Err Double ≡ import_of x
unfolding of_fraction accepted
high-refused nan z h = refl
high-refused (inf s) z h = refl
high-refused (fin true m e) z h = rw (sym (nil-test true m e) ∙ z)
high-refused (fin false m e) z h = rw (sym (nil-test false m e) ∙ z, sym (top-test m e) ∙ h, fails (leb (down e) (m * up e)))

pub in-range : (x : Float) → T (fits binary64 x) → le one x ≡ true → lt x top ≡ true → Within x (to_bits binary64 x)
unfolding eq le lt
in-range nan f h l = absurd (true≢false (sym h))
in-range (inf true) f h l = absurd (true≢false (sym h))
in-range (inf false) f h l = absurd (true≢false (sym l))
in-range (fin true m e) f h l = absurd (true≢false (sym h ∙ one-test true m e))
in-range (fin false m e) f h l = within m e f (leb-true (down e) (m * up e) (sym (one-test false m e) ∙ h)) (ltb-true (m * up e) (2 ^ 32 * down e) (sym (top-test m e) ∙ l))
