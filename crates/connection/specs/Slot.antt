-- What a slot at t makes of the connection that it goes to, and what it writes. (Document 01, "Slots"; document 02, L6
-- and L13.)
use Rattle.std.specs.Prelude.{ℕ, List}
use Rattle.std.proofs.Math.Option.{Option, none}
use Rattle.cell.specs.Fields.{rm_cell}
use Rattle.connection_members.specs.Members.{Member}
use Rattle.connection_members.specs.Turn.{turn}
use Rattle.connection.specs.Parts.{Connection}
use Rattle.connection.specs.Kind.{Kind, Forward, Turned, Data}
use Rattle.connection.specs.Source.{sent_forward, sent_data, forward_fields}
use Rattle.connection.specs.Destination.{sent_turned, backward_cell}

unfoldable pub after : Kind → ℕ → Connection → Connection
after Forward t c = sent_forward t c
after Turned t c = sent_turned t c
after Data t c = sent_data t c

-- the member that a cell is taken from: a data cell of a path from the one whose turn it is; a channel has none
unfoldable pub member_served : Kind → Connection → List Member → Option ℕ
member_served Forward c ms = none
member_served Turned c ms = none
member_served Data c ms = turn c.name c.queue.served ms

-- what the lent buffer holds after a call: what it held, or these octets
pub data Buffer : Type 0 where
  untouched : Buffer
  written : List ℕ → Buffer

-- a forward cell carries the rate after the moves, a turned or made cell is the one that waited, and data is the
-- caller's own
unfoldable pub buffer_sent : Kind → (before now : Connection) → Buffer
buffer_sent Forward before now = written (rm_cell 0 (forward_fields now.name now.rate))
buffer_sent Turned before now = written (backward_cell before.name before.rate.params before.destination.turned before.destination.made.level)
buffer_sent Data before now = untouched
