-- The way up to the greatest number that fits. Take what is left of the capacity times the demands not met. Each
-- number tried leaves at most a quarter of it.
use mathlib.Core.Path.{◌≡◌, sym, ap, subst}
use mathlib.Core.Bool.{true}
use mathlib.Core.Logic.{by_cases}
use mathlib.Core.List.{List}
use Prim.Native.Nat.{ℕ, ◌+◌, ◌-◌, ◌*◌, ◌/◌, ◌^◌, ◌≤◌, ◌<◌}
use native.Mathlib.Nat.{mul-le-mul, mul-le-mul_left, le_of_mul-le-mul_left, div-add-mod', lt-div-mul-add, pow-suc}
use native.Mathlib.Numerals.{add-one}
use native.Mathlib.Decide.{dec_le}
use native.Mathlib.Omega.{arith}
use lib.ListN.{length}
use Rattle.rate.specs.Units.{largest_rate}
use Rattle.port_share.specs.Demands.{in_range, plain_sum, cut_sum}
use Rattle.port_share.specs.Above.{above}
use Rattle.port_share.specs.Share.{greatest_up_to}
use Rattle.port_share.proofs.Sums.{cut-zero, cut-one, cut-more, cut-least, above-length, plain-most}
use Rattle.port_share.proofs.Fitting.{some-above, below-largest, greatest-next, greatest-found}

-- four times a product is at most the square of the sum
square : (a b : ℕ) → 4 * (a * b) ≤ (a + b) * (a + b)
square a b = by_cases (dec_le a b) (ordered a b) (λ h. omega (arith, ordered b a (omega arith)))
  where
    apart : (a d : ℕ) → 4 * (a * (a + d)) ≤ (a + (a + d)) * (a + (a + d))
    apart a d = omega arith

    ordered : (a b : ℕ) → a ≤ b → 4 * (a * b) ≤ (a + b) * (a + b)
    ordered a b h = subst (λ (z : ℕ). 4 * (a * z) ≤ (a + z) * (a + z)) (omega arith) (apart a (b - a))

-- k units for each of n demands would be r or more; k for each of x of them were taken from r, and leave l
quarter : (r n k x l : ℕ) → 0 < k → r ≤ k * n → l + k * x ≤ r → 4 * (l * x) ≤ r * n
quarter r n k x l p a b = le_of_mul-le-mul_left {k = k} scaled p
  where
    scaled : k * (4 * (l * x)) ≤ k * (r * n)
    scaled =
        let s : 4 * (l * (k * x)) ≤ (l + k * x) * (l + k * x) = square l (k * x) in
        let t : (l + k * x) * (l + k * x) ≤ r * r = mul-le-mul b b in
        let u : r * r ≤ r * (k * n) = mul-le-mul_left r a in
        omega arith

-- a quarter of a product, after one pass more
once_more : (i p q : ℕ) → 4 * q ≤ p → 4 ^ i * p < 4 ^ 31 → 4 ^ (i + 1) * q < 4 ^ 31
once_more i p q a b = rw (add-one i, pow-suc 4 i) (omega (arith, mul-le-mul_left (4 ^ i) a))

-- where the search stands after some passes: s fits and leaves `left` of the capacity, at most n demands are above
-- s, and the product of the two is small
pub record AfterPasses (capacity : ℕ) (ds : List ℕ) (s left n passes : ℕ) : Type 0 where
  pub whole : cut_sum s ds + left ≡ capacity
  pub most : above s ds ≤ n
  pub small : 4 ^ passes * (left * n) < 4 ^ 31
  pub few : passes ≤ 31

pub passes-first : (capacity : ℕ) (ds : List ℕ) → length ds ≤ 1024 → in_range ds ≡ true → capacity < plain_sum ds → AfterPasses capacity ds 0 capacity (length ds) 0
passes-first capacity ds h e over = record { whole = omega (arith, cut-zero ds); most = above-length 0 ds; small = small; few = omega arith }
  where
    small : 4 ^ 0 * (capacity * length ds) < 4 ^ 31
    small =
        let p : capacity ≤ 1024 * largest_rate = omega (arith, plain-most ds e) in
        omega (arith, mul-le-mul p h)

module _ (capacity : ℕ) (ds : List ℕ) (over : capacity < plain_sum ds) {s left n passes : ℕ} (at : AfterPasses capacity ds s left n passes) where
  pub divides : 0 < n
  divides = omega (arith, at.most, some-above capacity ds over s (omega (arith, at.whole)))

  -- what is left, in equal parts
  parts-fit : cut_sum (s + left / n) ds ≤ capacity
  parts-fit = omega (arith, at.whole, cut-more s (left / n) ds, mul-le-mul_left (left / n) at.most, div-add-mod' left n)

  pub tried-le : in_range ds ≡ true → s + left / n + 1 ≤ largest_rate
  tried-le e = omega (arith, below-largest capacity ds over e parts-fit)

  -- the number tried does not fit
  pub ends-tried : {sum : ℕ} → in_range ds ≡ true → sum ≡ cut_sum (s + left / n + 1) ds → capacity < sum
      → s + left / n + 1 - 1 ≡ greatest_up_to capacity ds largest_rate
  ends-tried e q h =
      omega (arith, greatest-found capacity ds largest_rate _ (greatest-next capacity ds parts-fit (omega (arith, q, h))) (omega (arith, tried-le e)))

  -- it fits
  pub passes-next : {sum x : ℕ} → passes < 31 → sum ≡ cut_sum (s + left / n + 1) ds → x ≡ above (s + left / n + 1) ds → sum ≤ capacity
      → AfterPasses capacity ds (s + left / n + 1) (capacity - sum) x (passes + 1)
  passes-next {sum} {x} f q a h = record { whole = omega arith; most = omega arith; small = once_more passes (left * n) ((capacity - sum) * x) quartered at.small; few = omega arith }
    where
      k : ℕ
      k = left / n + 1

      taken : capacity - sum + k * x ≤ left
      taken =
          let e : s + k ≡ s + left / n + 1 = omega arith in
          let c : cut_sum s ds + k * above (s + left / n + 1) ds ≤ cut_sum (s + left / n + 1) ds = subst (λ (z : ℕ). cut_sum s ds + k * above z ds ≤ cut_sum z ds) e (cut-least s k ds) in
          let y : k * x ≡ k * above (s + left / n + 1) ds = ap (λ (z : ℕ). k * z) a in
          omega (arith, at.whole)

      quartered : 4 * ((capacity - sum) * x) ≤ left * n
      quartered = quarter left n k x (capacity - sum) (omega arith) (omega (arith, lt-div-mul-add {a = left} {b = n} divides)) taken

  -- after all passes nothing is left
  pub ends-passes : in_range ds ≡ true → 31 ≤ passes → s ≡ greatest_up_to capacity ds largest_rate
  ends-passes e h =
      sym (greatest-found capacity ds largest_rate s (greatest-next capacity ds fit (omega (arith, at.whole, spent, cut-one s ds, some-above capacity ds over s fit)))
      (omega (arith, below-largest capacity ds over e fit)))
    where
      fit : cut_sum s ds ≤ capacity
      fit = omega (arith, at.whole)

      spent : left ≡ 0
      spent =
          let q : passes ≡ 31 = omega (arith, at.few) in
          let z : 4 ^ 31 * (left * n) < 4 ^ 31 = subst (λ (i : ℕ). 4 ^ i * (left * n) < 4 ^ 31) q at.small in
          omega (arith, mul-le-mul_left left divides)
