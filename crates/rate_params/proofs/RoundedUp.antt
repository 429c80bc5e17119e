-- A part 1/2^n rounded up, as the code computes it.
use mathlib.Core.Path.{◌≡◌, sym, ap, ◌∙◌}
use mathlib.Core.Logic.{by_cases}
use Prim.Native.Nat.{ℕ, suc, ◌+◌, ◌-◌, ◌*◌, ◌/◌, ◌%◌, ◌^◌, ◌≤◌, ◌<◌, min}
use native.Mathlib.Nat.{lt_of_lt_of_le, add-div_right, div-eq_of_lt, pow-suc}
use native.Mathlib.Omega.{arith}
use native.Mathlib.Decide.{dec_lt}
use lib.Pow.{pow_pos, pow_mono}
use Rattle.rate.proofs.Gaps.{div_ceil_is}

pub part-rounded : (x n : ℕ) → 0 < x → (x - 1) / 2 ^ n + 1 ≡ (x + 2 ^ n - 1) / 2 ^ n
part-rounded x n h = sym (ap (λ (y : ℕ). y / 2 ^ n) less ∙ add-div_right (x - 1) (pow_pos n))
  where
    less : x + 2 ^ n - 1 ≡ x - 1 + 2 ^ n
    less = omega arith

-- for an n below 32, where 2^n is a shift of 32 bits
pub part_div_ceil :
    (x n : ℕ) → n < 32 → x / (1 * 2 ^ n % 4_294_967_296) + min 1 (x % (1 * 2 ^ n % 4_294_967_296)) ≡ (x + 2 ^ n - 1) / 2 ^ n
part_div_ceil x n h =
    let e : 1 * 2 ^ n % 4_294_967_296 ≡ 2 ^ n = omega (arith, pow_pos n, pow-suc 2 n, pow_mono {i = suc n} {j = 32} h) in
    rw e (div_ceil_is x (2 ^ n) (pow_pos n))

-- for an n of 32 and more
pub part_of_few : (x n : ℕ) → x < 2 ^ 32 → 32 ≤ n → min x 1 ≡ (x + 2 ^ n - 1) / 2 ^ n
part_of_few x n u l =
    by_cases (dec_lt 0 x)
    (λ h.
    let none : (x - 1) / 2 ^ n ≡ 0 = div-eq_of_lt (lt_of_lt_of_le (omega arith) (pow_mono l)) in
    omega (arith, none, part-rounded x n h))
    (λ h.
    let none : (x + 2 ^ n - 1) / 2 ^ n ≡ 0 = div-eq_of_lt (omega (arith, pow_pos n)) in
    omega (arith, none))
