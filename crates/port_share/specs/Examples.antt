-- Shares of a few lists, computed: at the edges of a fit, and the order of the refusals. (Document 02, L10.)
use Rattle.std.specs.Prelude.{◌≡◌, [], ◌∷◌, suc, replicate, Some, None, Ok, Err}
use Rattle.laws.specs.declared.refusals.Refusal.TheVariants.{TooManyDemands, DemandTooLarge}
use Rattle.rate.specs.Units.{largest_rate}
use Rattle.port_share.specs.Share.{fair_share}

pub record ShareExamples : Type 0 where
  -- 3 + 3 + 3 fit, 3 + 4 + 4 do not
  pub shared : fair_share 10 (3 ∷ 5 ∷ 9 ∷ []) ≡ Ok (Some 3)
  -- the plain sum is 17: it fits, and one unit short of it the highest demand alone is cut
  pub exact : fair_share 17 (3 ∷ 5 ∷ 9 ∷ []) ≡ Ok None
  pub short : fair_share 16 (3 ∷ 5 ∷ 9 ∷ []) ≡ Ok (Some 8)
  -- no capacity: a share of 0, unless nothing is demanded
  pub nothing : fair_share 0 (1 ∷ []) ≡ Ok (Some 0)
  pub none : fair_share 0 (0 ∷ 0 ∷ []) ≡ Ok None
  -- the largest rate may be demanded, and no more; the number of demands is judged first
  pub largest : fair_share 1 (largest_rate ∷ []) ≡ Ok (Some 1)
  pub too_high : fair_share 1 (replicate 1024 (suc largest_rate)) ≡ Err DemandTooLarge
  pub too_many : fair_share 1 (replicate 1025 (suc largest_rate)) ≡ Err TooManyDemands
