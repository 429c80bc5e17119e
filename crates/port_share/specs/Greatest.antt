-- What a share says of its capacity and its demands. (Document 02, L10.)
use Rattle.std.specs.Prelude.{ℕ, ◌+◌, ◌≤◌, ◌<◌, ◌≡◌, true, List, [], Some, None, Ok}
use Rattle.port_share.specs.Demands.{few_enough, in_range, plain_sum, cut_sum}
use Rattle.port_share.specs.Share.{fair_share}

-- of all whole numbers s is the greatest that fits: it fits, the next one does not, and neither does any other above it
pub record GreatestShare (capacity : ℕ) (ds : List ℕ) (s : ℕ) : Type 0 where
  pub fits : cut_sum s ds ≤ capacity
  pub next : capacity < cut_sum (s + 1) ds
  pub top : (t : ℕ) → cut_sum t ds ≤ capacity → t ≤ s

pub record ShareGreatest : Type 0 where
  -- a limit is the greatest, where the plain sum does not fit; and the greatest is the limit
  pub limited : (capacity : ℕ) (ds : List ℕ) (s : ℕ) → fair_share capacity ds ≡ Ok (Some s) → (capacity < plain_sum ds) × GreatestShare capacity ds s
  pub found :
      (capacity : ℕ) (ds : List ℕ) (s : ℕ) → few_enough ds ≡ true → in_range ds ≡ true → GreatestShare capacity ds s → fair_share capacity ds ≡ Ok (Some s)
  -- without a limit the plain sum fits, and so does every cut
  pub unlimited : (capacity : ℕ) (ds : List ℕ) → fair_share capacity ds ≡ Ok None → (plain_sum ds ≤ capacity) × ((t : ℕ) → cut_sum t ds ≤ capacity)
  -- no demands, no limit
  pub none : (capacity : ℕ) → fair_share capacity [] ≡ Ok None
