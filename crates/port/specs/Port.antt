-- The port: the share of its demands, and a passing cell held to it. (Document 02, L10: 21 and 22 come
-- before the refusals of the cell.)
use Rattle.std.specs.Prelude.{ℕ, List, Some, None, Ok, Err}
use Rattle.cell.specs.Reading.{reading}
use Rattle.port_share.specs.Share.{Share, fair_share}
use Rattle.laws.specs.Refusals.{number}
use Rattle.port.specs.Limit.{Forwarded, passed, refusal_of, limit}

-- without a limit the cell is judged all the same, and stays as it is
unfoldable pub port_by : Share → List ℕ → Forwarded
port_by (Err r) o = passed (number r) o
port_by (Ok None) o = passed (refusal_of (reading o)) o
port_by (Ok (Some s)) o = limit s o

abbrev pub port : (capacity : ℕ) (demands : List ℕ) → List ℕ → Forwarded
port capacity ds o = port_by (fair_share capacity ds) o
