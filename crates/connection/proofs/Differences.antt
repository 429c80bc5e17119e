-- A difference of two numbers between low and high lies between low - high and high - low.
use mathlib.Core.Path.{◌≡◌, refl, sym, ap, ◌∙◌, subst}
use mathlib.Core.Bool.{Bool, true, false, not, cond}
use Prim.Native.Nat.{ℕ, zero, suc, ◌-◌, ◌^◌, ◌≤◌, ◌<◌}
use native.Mathlib.Nat.{add-zero, mod-eq_of_lt}
use native.Mathlib.Omega.{arith}
use lib.Dec.{T, ltb, le→leb, ltb→lt, nltb→le}
use lib.Signed.{le_z, ◌≤ℤ◌, le_z_yes}
use lib.IntN.{ℤ, pos, negsuc, ◌-ℤ◌}
use borrow.Author.Tests.{le-ltb}
use Rattle.rate_params.specs.declared.params.Params.{Params}
use Rattle.rate_params.specs.Params.{peak, least}
use Rattle.rate_moves.specs.Bounds.{Between}
use Rattle.rate.proofs.Codes.{rate-le}
use Rattle.connection.specs.Parts.{Change, changed}
use Rattle.connection.specs.Change.{difference, as_rates}

-- the difference by the order of the two
diff_is : (a b : ℕ) → pos a -ℤ pos b ≡ cond (ltb a b) (negsuc (b - suc a)) (pos (a - b))
diff_is a zero = ap pos (add-zero a ∙ less) ∙ sym (ap (λ (t : Bool). cond t (negsuc (zero - suc a)) (pos (a - zero))) (le-ltb a zero (omega arith)))
  where
    less : a ≡ a - zero
    less = omega arith
diff_is a (suc b) = refl

by_order : (s t : Bool) (a b a' b' : ℕ) → (T s → a < b) → (T (not s) → b ≤ a) → (T t → a' < b') → (T (not t) → b' ≤ a') → a ≤ a' → b' ≤ b
    → T (le_z (cond s (negsuc (b - suc a)) (pos (a - b))) (cond t (negsuc (b' - suc a')) (pos (a' - b'))))
by_order true true a b a' b' p p' q q' h k = le→leb (b' - suc a') (b - suc a) (omega arith)
by_order true false a b a' b' p p' q q' h k = tt
by_order false true a b a' b' p p' q q' h k = absurd (clash (p' tt) (q tt))
  where
    clash : b ≤ a → a' < b' → ⊥
    clash x y = omega arith
by_order false false a b a' b' p p' q q' h k = le→leb (a - b) (a' - b') (omega arith)

pub mono : (a b a' b' : ℕ) → a ≤ a' → b' ≤ b → (pos a -ℤ pos b) ≤ℤ (pos a' -ℤ pos b')
mono a b a' b' h k = le_z_yes (subst (λ (x : ℤ). T (le_z x (pos a' -ℤ pos b'))) (sym (diff_is a b)) (subst (λ (x : ℤ). T (le_z (cond (ltb a b) (negsuc (b - suc a)) (pos (a - b))) x)) (sym (diff_is a' b'))
    (by_order (ltb a b) (ltb a' b') a b a' b' (ltb→lt a b) (nltb→le a b) (ltb→lt a' b') (nltb→le a' b') h k)))

pub within : (lo hi new old : ℕ) → lo ≤ new → new ≤ hi → lo ≤ old → old ≤ hi → ((pos lo -ℤ pos hi) ≤ℤ (pos new -ℤ pos old)) × ((pos new -ℤ pos old) ≤ℤ (pos hi -ℤ pos lo))
within lo hi new old a b c d = (mono lo hi new old a d, mono new old hi lo b c)

-- what stands in a table that calls made is a rate already
pub rates-kept : (p : Params) (x : Change) → Between p x.before → Between p x.after → as_rates x ≡ x
rates-kept p x a b = rw (mod-eq_of_lt (small x.before a), mod-eq_of_lt (small x.after b))
  where
    small : (y : ℕ) → Between p y → y < 2 ^ 42
    small y h = omega (arith, h.below, rate-le p.pcr)

-- a change between two rates of a contract lies between MCR − PCR and PCR − MCR
pub change-within :
    (p : Params) (x : Change) → Between p x.before → Between p x.after
    → ((pos (least p) -ℤ pos (peak p)) ≤ℤ difference x) × (difference x ≤ℤ (pos (peak p) -ℤ pos (least p)))
unfolding difference
change-within p x a b = within (least p) (peak p) x.after x.before b.above b.below a.above a.below

-- a rate that fell has a change below 0
fell : difference (changed 16384 15360) ≡ negsuc 1023
unfolding difference
fell = refl
