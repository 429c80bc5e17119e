-- The lowest set digit of a number that is not 0 is among its digits.
use mathlib.Core.Path.{◌≡◌, refl}
use Prim.Native.Nat.{ℕ, zero, suc, ◌/◌, ◌%◌, ◌^◌, ◌<◌}
use native.Mathlib.Nat.{pow-suc}
use native.Mathlib.Omega.{arith}
use lib.Count.{count_trailing_zeros, under}

pub trailing_lt : (k n : ℕ) → 0 < n → n < 2 ^ k → count_trailing_zeros k n < k
unfolding count_trailing_zeros
trailing_lt zero n p h = absurd (omega arith)
trailing_lt (suc k) n p h = go (λ q. trailing_lt k (n / 2) q (omega (arith, pow-suc 2 k))) (n % 2) refl
  where
    go : (0 < n / 2 → count_trailing_zeros k (n / 2) < k) → (d : ℕ) → n % 2 ≡ d → under d (count_trailing_zeros k (n / 2)) < suc k
    go rest zero e = let l : count_trailing_zeros k (n / 2) < k = rest (omega (arith, e)) in omega arith
    go rest (suc d) e = omega arith
