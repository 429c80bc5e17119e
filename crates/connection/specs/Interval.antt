-- The least time between two made cells of a connection, and between two of its out-of-rate cells.
-- (Document 02, L1 and L5.)
use Rattle.std.specs.Prelude.{ℕ, ◌+◌, Bool, true, leb, Some, None}
use Rattle.connection.specs.Parts.{Instant}

-- 100 ms or more have passed at t since the last one, if there was one
unfoldable pub rested : ℕ → (last : Instant) → Bool
rested t None = true
rested t (Some m) = leb (m + 100_000_000) t
