-- What a received RM cell makes of its connection: of its source, or of its destination.
-- (Document 01, "Four moves of the allowed rate" and "Turning cells round".)
use Rattle.std.specs.Prelude.{ℕ, cond, List, eqb}
use Rattle.cell.specs.declared.fields.Fields.{Fields}
use Rattle.connection.specs.Parts.{Connection}
use Rattle.connection.specs.Source.{after_backward_cell}
use Rattle.connection.specs.Destination.{after_forward_cell}

-- a backward RM cell moves the rate, a forward one is turned round
unfoldable pub after_rm_cell : (level : ℕ) → List ℕ → Fields → Connection → Connection
after_rm_cell level o f c = cond (eqb f.dir 1) (after_backward_cell f c) (after_forward_cell level o c)
