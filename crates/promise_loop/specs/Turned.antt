-- The cells of such a loop are the engine's own. A destination of the same name, without
-- congestion, turns its forward cell round. Then the cell passes through the port. (Document 01,
-- "Turning cells round"; document 02, L10.)
use Rattle.std.specs.Prelude.{ℕ, ◌<◌, false, List}
use Rattle.rate_moves.specs.declared.moves.Rate.{Rate}
use Rattle.rate_moves.specs.Bounds.{RateInBounds}
use Rattle.cell_payload.specs.Payload.{payload_of}
use Rattle.cell.specs.Octets.{payload}
use Rattle.cell.specs.Name.{vpi_in, vci_in, no_name}
use Rattle.cell.specs.Fields.{rm_cell}
use Rattle.cell.specs.Turning.{turned_payload, turned_cell}
use Rattle.port_share.specs.Share.{Share}
use Rattle.port.specs.Port.{port_by}
use Rattle.connection.specs.Source.{forward_fields}
use Rattle.promise_loop.specs.Loop.{Unmarked}

-- a forward cell of v as a slot writes it, and what a destination sends back of it at level 0, with no EFCI
-- saved and no marked cell waiting
abbrev pub forward_cell : (v : ℕ) → Rate → List ℕ
forward_cell v q = rm_cell 0 (forward_fields v q)

abbrev pub turned_back : (v : ℕ) → Rate → List ℕ
turned_back v q = turned_cell (vpi_in v) (vci_in v) (payload_of (turned_payload 0 false (payload (forward_cell v q))))

abbrev pub TurnedUnmarked : Type 0
TurnedUnmarked = (v : ℕ) (share : Share) (q : Rate) → v < no_name → RateInBounds q → Unmarked v q.params share (port_by share (turned_back v q)).cell
