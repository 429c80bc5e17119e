-- A difference of two rates, as signed numbers of 64 bits. The two casts read back as the rates,
-- and the difference is in range.
use mathlib.Core.Path.{◌≡◌, sym, subst, ◌∙◌}
use Prim.Native.Nat.{ℕ, zero, suc, ◌-◌, ◌%◌, ◌<◌, ◌^◌}
use mathlib.Core.Bool.{Bool, true, false, cond}
use native.Mathlib.Nat.{mod-lt}
use native.Mathlib.Omega.{arith}
use lib.IntN.{pos, negsuc, ◌-ℤ◌}
use lib.Dec.{ltb, lit<}
use lib.Signed.{mag}
use Rattle.connection.specs.declared.parts.Change.{Change}
use Rattle.connection.specs.Change.{difference}
use Rattle.model.specs.Answers.{Acr, Rate}
use Rattle.abr_answers.specs.Calls.{AbrAllowed, allowed_of, of_rates}
use mir.Syntax.{w64}
use mir.Val.{SFits, to_z, of_z}
use mir.ValLaws.{to_z-of_z, to_z_pos}

-- the size of a difference is below a bound of both numbers, whatever its sign
part : (b : Bool) (x y k : ℕ) → x < k → y < k → mag (cond b (negsuc x) (pos y)) < k
part true x y k p q = p
part false x y k p q = q

small : (a b : ℕ) → a < 2 ^ 42 → b < 2 ^ 42 → mag (pos a -ℤ pos b) < 2 ^ 63
small a zero p q = omega arith
small a (suc b) p q = part (ltb a (suc b)) (suc b - suc a) (a - suc b) (2 ^ 63) (omega arith) (omega arith)

read_back : (a : ℕ) → a < 2 ^ 42 → to_z w64 a ≡ pos a
read_back a p = to_z_pos w64 a (omega arith)

module _ (a b : ℕ) (p : a < 2 ^ 42) (q : b < 2 ^ 42) where
  reads_both : to_z w64 a -ℤ to_z w64 b ≡ pos a -ℤ pos b
  reads_both = rw (read_back a p, read_back b q)

  pub in-range : SFits w64 (to_z w64 a -ℤ to_z w64 b)
  in-range = subst (SFits w64) (sym reads_both) (record { sfits = small a b p q })

  pub exact : to_z w64 (of_z w64 (to_z w64 a -ℤ to_z w64 b)) ≡ pos a -ℤ pos b
  exact = to_z-of_z w64 _ in-range ∙ reads_both

-- the change that is answered, from the numbers as the code makes them
pub acr-is :
    (a : ℕ) (x : Change) {r : Acr} → r ≡ Rate a x
    → ◌≡◌ {A = AbrAllowed} (record { refusal = 0; reserved = 0; acr = a; change = to_z w64 (of_z w64 (to_z w64 (x.after % 2 ^ 42) -ℤ to_z w64 (x.before % 2 ^ 42))) }) (allowed_of (of_rates r))
unfolding difference
acr-is a x e =
    rw e
    (λ j. record { refusal = 0; reserved = 0; acr = a; change = exact (x.after % 2 ^ 42) (x.before % 2 ^ 42) (mod-lt x.after (lit< tt)) (mod-lt x.before (lit< tt)) j })

pub low-in-range : (x : Change) → SFits w64 (to_z w64 (x.after % 2 ^ 42) -ℤ to_z w64 (x.before % 2 ^ 42))
low-in-range x = in-range (x.after % 2 ^ 42) (x.before % 2 ^ 42) (mod-lt x.after (lit< tt)) (mod-lt x.before (lit< tt))
