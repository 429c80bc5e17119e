-- The two numbers of this edition: how many connections can be open, and the levels of matches above their leaves.
-- Every other statement says `capacity` and `levels`, so that it holds for each edition; `groups` (table/Layout) goes
-- with `capacity`. (Document 02, L4.)
use Rattle.std.specs.Prelude.{◌^◌, ◌≡◌}
use Rattle.model.specs.State.{capacity}
use Rattle.model.specs.Tournament.{levels}

pub record EditionNumbers : Type 0 where
  pub connections : capacity ≡ 1024
  pub rounds : levels ≡ 10
  -- each level halves those that are left, down to the one winner
  pub halved : capacity ≡ 2 ^ levels
