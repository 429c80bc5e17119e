-- They are so, computed.
use Prim.Native.Nat.{ℕ, zero, suc, ◌*◌, ◌<◌}
use mathlib.Core.Path.{◌≡◌, refl}
use native.Mathlib.Omega.{arith}
use Rattle.rate.specs.Code.{rate_of, code_below, code_of, coded}
use Rattle.rate_params.specs.Params.{crm, trm_times, trm_time}
use Rattle.rate_moves.specs.Moves.{reduced_by, unanswered, rate_by_marks, feedback}
use Rattle.check_values.specs.Edges.{Edges}

doubled : (n : ℕ) → n < 7 → trm_time (suc n) ≡ 2 * trm_time n
unfolding trm_times trm_time
doubled zero h = refl
doubled (suc zero) h = refl
doubled (suc (suc zero)) h = refl
doubled (suc (suc (suc zero))) h = refl
doubled (suc (suc (suc (suc zero)))) h = refl
doubled (suc (suc (suc (suc (suc zero))))) h = refl
doubled (suc (suc (suc (suc (suc (suc zero)))))) h = refl
doubled (suc (suc (suc (suc (suc (suc (suc n))))))) h = absurd (omega (arith, h))

pub edges : Edges
unfolding rate_of code_below code_of coded trm_times trm_time crm reduced_by unanswered rate_by_marks feedback
edges = record {
  largest = refl;
  above_largest = refl;
  doubled = doubled;
  longest = refl;
  answered = refl;
  unanswered_at = refl;
  cdf_zero = refl;
  no_increase = refl;
  increase = refl;
  minimum_stands = refl;
}
