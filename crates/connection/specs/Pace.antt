-- One more cell of a connection. (Document 01, "Slots".)
use Rattle.std.specs.Prelude.{ℕ, ◌+◌, Bool, ◌||◌}
use Rattle.connection.specs.Parts.{Pace, Unsent, Running}

-- one more cell at t that is no forward cell; the flag says if it is a turned or made one
unfoldable pub paced : ℕ → Bool → Pace → Pace
paced t is_turned Unsent = Unsent
paced t is_turned (Running sent forward k turned) = Running t forward (k + 1) (turned || is_turned)
