-- The shift loses no bit, and no number of 32 bits is as large as 2^n − 1 from n = 64 on.
use mathlib.Core.Path.{◌≡◌, sym, ◌∙◌}
use mathlib.Core.Bool.{false}
use Prim.Native.Nat.{ℕ, ◌-◌, ◌*◌, ◌%◌, ◌^◌, ◌≤◌, ◌<◌}
use native.Mathlib.Nat.{one-mul}
use native.Mathlib.Omega.{arith}
use lib.Dec.{eqb}
use lib.Pow.{pow_mono, pow_pos, shl_exact}
use borrow.Author.Rules.{rules}
use borrow.Author.Tests.{le-ltb, ne_eqb}
use Rattle.connection.specs.Ready.{last_before}
use Rattle.connection_slot.proofs.ready.last_before.Goals as goal

shifted : (n : ℕ) → n < 64 → (1 * 2 ^ n) % 2 ^ 64 ≡ 2 ^ n
shifted n h = shl_exact 1 n 64 (omega arith) (omega arith) ∙ one-mul (2 ^ n)

never-last : (k n : ℕ) → k < 2 ^ 32 → 64 ≤ n → false ≡ eqb k (2 ^ n - 1)
never-last k n h l = sym (ne_eqb k (2 ^ n - 1) (λ e. omega (arith, pow_mono l)))

pub overflow_sub-result : goal.overflow_sub-result
overflow_sub-result c = rw (shifted _ c.if-n-lt64.true) (pow_pos _)

pub returns-then-n-lt64 : goal.returns-then-n-lt64
unfolding last_before
returns-then-n-lt64 c = rw (shifted _ c.if-n-lt64.true)

pub returns-else-n-lt64 : goal.returns-else-n-lt64
unfolding last_before
returns-else-n-lt64 c = le-ltb _ _ c.if-n-lt64.false ∙ never-last c.args.k _ (search rules) c.if-n-lt64.false
