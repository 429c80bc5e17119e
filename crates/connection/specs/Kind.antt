-- What kind of cell a connection sends in a slot at t. (Document 01, "Slots".)
use Rattle.std.specs.Prelude.{ℕ, Bool, true, false, cond, ◌&&◌, ◌||◌, not, eqb}
use Rattle.rate_params.specs.Params.{nrm}
use Rattle.rate_params.specs.Forward.{forward_due}
use Rattle.connection.specs.Parts.{Connection, Pace, Unsent, Running, waiting}
use Rattle.connection.specs.Ready.{backward_waits}
pub use Rattle.connection.specs.declared.kind.Kind.{Kind}
pub use Rattle.connection.specs.declared.kind.Kind.TheVariants.{Forward, Turned, Data}

-- The numbers of the kinds in a trace (document 02, L11). A slot returns the same, since document 01 gives kinds no
-- numbers. So a trace can be recorded from slots.
abbrev pub kind_number : Kind → ℕ
kind_number Forward = 1
kind_number Turned = 2
kind_number Data = 3

-- the first cell is a forward one; a later one is when it is due
unfoldable pub is_forward : ℕ → Connection → Pace → Bool
is_forward t c Unsent = true
is_forward t c (Running sent forward k turned) = forward_due (nrm c.rate.params) c.trm k forward t

-- a turned or made cell that waits goes if none went since the last forward cell, or if no data waits
unfoldable pub is_turned : Connection → Pace → Bool
is_turned c Unsent = false
is_turned c (Running sent forward k turned) = backward_waits c.destination && (not turned || eqb (waiting c.queue) 0)

unfoldable pub kind_at : ℕ → Connection → Kind
kind_at t c = cond (is_forward t c c.pace) Forward (cond (is_turned c c.pace) Turned Data)
