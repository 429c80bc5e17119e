-- Ranges in which a connection's instants and counts are added without wrapping. Every entry of a table is read
-- into them, whatever it holds. Each connection in a table that calls made lies within them.
use Rattle.std.specs.Prelude.{ℕ, ◌+◌, ◌≤◌, ◌<◌, ◌^◌, ◌≡◌, true, Some, None}
use Rattle.rate_moves.specs.declared.moves.Rate.{Rate}
use Rattle.rate.specs.Units.{largest_rate}
use Rattle.cell.specs.declared.fields.Fields.{Fields}
use Rattle.cell.specs.Name.{no_name}
use Rattle.cell.specs.Fields.{fields_fit}
use Rattle.connection.specs.Parts.{Connection, Pace, Unsent, Running, Instant}
use Rattle.connection.specs.Source.{forward_fields}

abbrev pub PaceInRange : Pace → Type 0
PaceInRange Unsent = Unit
PaceInRange (Running sent forward k turned) = (sent < 2 ^ 63) × (forward < 2 ^ 63) × (k < 65536)

abbrev pub InstantInRange : Instant → Type 0
InstantInRange None = Unit
InstantInRange (Some i) = i < 2 ^ 63

pub record InRange (c : Connection) : Type 0 where
  pub opened : c.opened < 2 ^ 63
  pub trm : c.trm < 2 ^ 32
  pub pace : PaceInRange c.pace
  pub made : InstantInRange c.destination.made.last
  pub out_of_rate : InstantInRange c.out_of_rate

-- room for one more cell in the count k, so that the range still holds after a cell that is no forward cell
abbrev pub CountHasRoom : Pace → Type 0
CountHasRoom Unsent = Unit
CountHasRoom (Running sent forward k turned) = k < 65535

-- an instant that a word of 64 bits holds, with room to spare
abbrev pub InstantBelow : Instant → Type 0
InstantBelow None = Unit
InstantBelow (Some i) = i < 2 ^ 63 + 2 ^ 40

-- The fields of a forward cell, if the allowed rate is a rate. Whatever it is, a cell can carry the fields.
pub record ForwardCarried (name : ℕ) (q : Rate) (f : Fields) : Type 0 where
  pub meant : q.acr ≤ largest_rate → f ≡ forward_fields name q
  pub fits : name < no_name → fields_fit f ≡ true
