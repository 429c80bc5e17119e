-- The share: the greatest whole number to which the demands can be cut so that they fit a capacity. (Document 02,
-- L10, with its refusals 21 and 22 in order.)
use Rattle.std.specs.Prelude.{ℕ, zero, suc, cond, List, leb, Option, Some, None, Result, Ok, Err}
use Rattle.laws.specs.declared.refusals.Refusal.{Refusal}
use Rattle.laws.specs.declared.refusals.Refusal.TheVariants.{TooManyDemands, DemandTooLarge}
use Rattle.laws.specs.Require.{require}
use Rattle.rate.specs.Units.{largest_rate}
use Rattle.port_share.specs.Demands.{few_enough, in_range, plain_sum, cut_sum}

-- a refusal, no limit, or the limit
abbrev pub Share : Type 0
Share = Result (Option ℕ) Refusal

-- the greatest of the numbers 0 to n that fits
unfoldable pub greatest_up_to : (capacity : ℕ) → List ℕ → ℕ → ℕ
greatest_up_to capacity ds zero = 0
greatest_up_to capacity ds (suc n) = cond (leb (cut_sum (suc n) ds) capacity) (suc n) (greatest_up_to capacity ds n)

-- no limit, if the plain sum fits; else the greatest that fits, searched up to the largest rate, since no higher
-- one cuts any demand (`ShareGreatest`: it is the greatest of all)
unfoldable pub fair_share : (capacity : ℕ) → (demands : List ℕ) → Share
fair_share capacity ds =
    require (Err TooManyDemands) (few_enough ds)
    (require (Err DemandTooLarge) (in_range ds)
    (cond (leb (plain_sum ds) capacity) (Ok None) (Ok (Some (greatest_up_to capacity ds largest_rate)))))
