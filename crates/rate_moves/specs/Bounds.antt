-- An allowed rate between its bounds. (Document 01, "Opening" and "Four moves of the allowed rate".)
use Rattle.std.specs.Prelude.{ℕ, ◌≤◌}
use Rattle.rate_params.specs.declared.params.Params.{Params}
use Rattle.rate_params.specs.Params.{peak, least, initial_used}
use Rattle.rate_moves.specs.Moves.{Rate}

-- parameters in order, and a rate between their minimum and their peak
pub record Between (p : Params) (a : ℕ) : Type 0 where
  pub low : least p ≤ initial_used p
  pub high : initial_used p ≤ peak p
  pub above : least p ≤ a
  pub below : a ≤ peak p

abbrev pub RateInBounds : Rate → Type 0
RateInBounds q = Between q.params q.acr
