-- The rate to which backward cells without marks, all with one ER, bring a rate record, and how many of them that
-- takes. (Document 01, "Four moves of the allowed rate".)
use Rattle.std.specs.Prelude.{ℕ, zero, suc, ◌+◌, ◌*◌, ◌/◌, ◌^◌, ◌≤◌, min, max, ◌≡◌, false}
use Rattle.rate_params.specs.declared.params.Params.{Params}
use Rattle.rate_params.specs.Params.{peak, least}
use Rattle.rate_moves.specs.declared.moves.Rate.{Rate}
use Rattle.rate_moves.specs.Moves.{feedback}
use Rattle.rate_moves.specs.Bounds.{RateInBounds}
use Rattle.promise_service.specs.Restart.{increase}

abbrev pub settled_rate : Params → (er : ℕ) → ℕ
settled_rate p er = max (least p) (min (peak p) er)

-- so many are enough, whatever the rate was: PCR over the increase, and one more
abbrev pub feedback_bound : Params → ℕ
feedback_bound p = peak p / increase p + 1

-- what n of them make of a rate record
abbrev pub fed_times : (n er : ℕ) → Rate → Rate
fed_times zero er q = q
fed_times (suc n) er q = fed_times n er (feedback false false er q)

-- there is an increase if PCR is at least 2^r units: up to r = 9 for every contract, since its PCR is 512 units or
-- more, and for any r from 64 cells a second on
abbrev pub IncreaseAtLeastOne : Type 0
IncreaseAtLeastOne = (p : Params) (k : ℕ) → p.r ≤ k → 2 ^ k ≤ peak p → 1 ≤ increase p

-- of every rate record between its bounds
pub record Settles (er : ℕ) (q : Rate) : Type 0 where
  -- n + 1 of them add as many increases, up to that rate; one that lies above it comes down with the first
  pub rises : (n : ℕ) → (fed_times (suc n) er q).acr ≡ min (settled_rate q.params er) (q.acr + suc n * increase q.params)
  pub falls : (n : ℕ) → settled_rate q.params er ≤ q.acr → (fed_times (suc n) er q).acr ≡ settled_rate q.params er
  -- so it is reached and kept, if the increase is at least one unit: the codes of a contract and r say whether it is
  pub reached : (n : ℕ) → 1 ≤ increase q.params → feedback_bound q.params ≤ n → (fed_times n er q).acr ≡ settled_rate q.params er
  -- without such an increase no feedback raises the rate
  pub never_rises : (n : ℕ) → increase q.params ≡ 0 → (fed_times n er q).acr ≤ q.acr

abbrev pub RatesSettle : Type 0
RatesSettle = (er : ℕ) (q : Rate) → RateInBounds q → Settles er q
