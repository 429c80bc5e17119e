-- Backward cells without marks bring a rate record to one rate, and keep it there.
use Prim.Native.Nat.{ℕ, zero, suc, ◌+◌, ◌*◌, ◌/◌, ◌≤◌, ◌<◌, min}
use mathlib.Core.Path.{◌≡◌, ap, ◌∙◌}
use mathlib.Core.Bool.{false}
use native.Mathlib.Nat.{mul-zero, suc-mul, mul-le-mul_right, lt-div-mul-add, le-div_iff_mul-le}
use lib.Pow.{pow_pos, pow_mono}
use native.Mathlib.Omega.{arith}
use Rattle.rate_params.specs.Params.{peak}
use Rattle.rate_moves.specs.declared.moves.Rate.{Rate}
use Rattle.rate_moves.specs.Moves.{rate_by_marks, feedback}
use Rattle.rate_moves.specs.Bounds.{RateInBounds}
use Rattle.rate_moves.proofs.FourMoves.{feedback-in-bounds}
use Rattle.promise_service.specs.Restart.{increase}
use Rattle.promise_loop.specs.Settled.{settled_rate, feedback_bound, fed_times, IncreaseAtLeastOne, RatesSettle}

pub increase-at-least-one : IncreaseAtLeastOne
increase-at-least-one p k l h = (le-div_iff_mul-le (pow_pos p.r)).1 (omega (arith, h, pow_mono {i = p.r} {j = k} l))

-- one of them
pub fed-once : (er : ℕ) (q : Rate) → RateInBounds q → (feedback false false er q).acr ≡ min (settled_rate q.params er) (q.acr + increase q.params)
unfolding feedback rate_by_marks
fed-once er q b = omega (arith, b.above, b.below)

-- one increase i up to g, and then x
further : (g a i b x y c : ℕ) → b ≡ min g (a + i) → y ≡ x + i → c ≡ min g (b + x) → c ≡ min g (a + y)
further g a i b x y c e f h = omega arith

rises : (n er : ℕ) (q : Rate) → RateInBounds q → (fed_times (suc n) er q).acr ≡ min (settled_rate q.params er) (q.acr + suc n * increase q.params)
unfolding feedback
rises zero er q b = omega (arith, fed-once er q b, suc-mul 0 (increase q.params))
rises (suc n) er q b =
    let i : ℕ = increase q.params in
    let e = rises n er (feedback false false er q) (feedback-in-bounds false false er q b) in
    further (settled_rate q.params er) q.acr i (feedback false false er q).acr (suc n * i) (suc (suc n) * i) _ (fed-once er q b) (suc-mul (suc n) i) e

reached : (n er : ℕ) (q : Rate) → RateInBounds q → 1 ≤ increase q.params → feedback_bound q.params ≤ n → (fed_times n er q).acr ≡ settled_rate q.params er
reached zero er q b h l = absurd (omega arith)
reached (suc n) er q b h l =
    let i : ℕ = increase q.params in
    let p : ℕ = peak q.params in
    let high : p < suc n * i = omega (arith, lt-div-mul-add {a = p} {b = i} h, mul-le-mul_right i l, suc-mul (p / i) i) in
    omega (arith, rises n er q b, high, b.above, b.below)

falls : (n er : ℕ) (q : Rate) → RateInBounds q → settled_rate q.params er ≤ q.acr → (fed_times (suc n) er q).acr ≡ settled_rate q.params er
falls n er q b h = omega (arith, rises n er q b)

never-rises : (n er : ℕ) (q : Rate) → RateInBounds q → increase q.params ≡ 0 → (fed_times n er q).acr ≤ q.acr
never-rises zero er q b z = omega arith
never-rises (suc n) er q b z =
    let m : suc n * increase q.params ≡ 0 = ap (λ (i : ℕ). suc n * i) z ∙ mul-zero (suc n) in
    omega (arith, rises n er q b, m)

pub rates-settle : RatesSettle
rates-settle er q b = record {
  rises = λ n. rises n er q b;
  falls = λ n. falls n er q b;
  reached = λ n. reached n er q b;
  never_rises = λ n. never-rises n er q b;
}
