-- Each limit fits and the number after it does not; the rest computes.
use mathlib.Core.Path.{◌≡◌, refl}
use mathlib.Core.Bool.{true}
use mathlib.Core.List.{List, [], ◌∷◌}
use Prim.Native.Nat.{ℕ, ◌+◌, ◌≤◌, ◌<◌}
use lib.Dec.{lit<, lit≤}
use Rattle.std.specs.Prelude.{Some, Ok}
use Rattle.laws.specs.Require.{require}
use Rattle.rate.specs.Units.{largest_rate}
use Rattle.port_share.specs.Demands.{few_enough, in_range, plain_sum, cut_sum}
use Rattle.port_share.specs.Share.{fair_share}
use Rattle.port_share.specs.Examples.{ShareExamples}
use Rattle.port_share.proofs.Fitting.{greatest-next}
use Rattle.port_share.proofs.Greatest.{share-greatest}

limit : (capacity : ℕ) (ds : List ℕ) (s : ℕ) → few_enough ds ≡ true → in_range ds ≡ true → cut_sum s ds ≤ capacity → capacity < cut_sum (s + 1) ds
    → fair_share capacity ds ≡ Ok (Some s)
limit capacity ds s few e fits next = share-greatest.found capacity ds s few e (greatest-next capacity ds fits next)

pub examples : ShareExamples
unfolding fair_share require in_range plain_sum cut_sum
examples = record {
  shared = limit 10 (3 ∷ 5 ∷ 9 ∷ []) 3 refl refl (lit≤ tt) (lit< tt);
  exact = refl;
  short = limit 16 (3 ∷ 5 ∷ 9 ∷ []) 8 refl refl (lit≤ tt) (lit< tt);
  nothing = limit 0 (1 ∷ []) 0 refl refl (lit≤ tt) (lit< tt);
  none = refl;
  largest = limit 1 (largest_rate ∷ []) 1 refl refl (lit≤ tt) (lit< tt);
  too_high = refl;
  too_many = refl;
}
