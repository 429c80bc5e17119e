-- Slots send the turned and made cells that wait, with the fields that a caller knows. A turned cell has the bits
-- as they were received. (Document 01, "Turning cells round"; document 02, L1, L2, L6 and L13.)
use Rattle.std.specs.Prelude.{ℕ, ◌<◌, ◌≡◌, List}
use Rattle.std.proofs.Math.Option.{Option, none, some}
use Rattle.cell.specs.Name.{name_from}
use Rattle.cell.specs.Reading.{reading}
use Rattle.cell.specs.Returned.{Kept}
use Rattle.cell.specs.Read.{RmCell}
use Rattle.model.specs.Call.{Call, slot}
use Rattle.abr.specs.Exports.{Observation, Performs, Transcript, final_words, zeros}
use Rattle.exports.specs.Known.{Opened}
use Rattle.exports.specs.Along.{kept}
use Rattle.exports_cells.specs.Heard.{TurnedCell, Receiver, hears, nothing_heard, backward_due}

-- a turned cell has all bits as received, also the reserved bits and octets, except DIR, BN, CI, NI and the CRC-10
abbrev pub KeptFrom : Option TurnedCell → List ℕ → Type 0
KeptFrom none octets = Unit
KeptFrom (some x) octets = Kept x.received octets

-- v is open, and these octets are its cell that is due: the turned one that waits, else the made one that waits
pub record SentAsDue (cs : List Call) (os : List Observation) (v : ℕ) (d : Receiver) (octets : List ℕ) : Type 0 where
  pub opened : Opened cs os v
  pub waits : d.turned ≡ none → 0 < d.made
  pub read : reading octets ≡ RmCell (backward_due v opened.params d.made d.turned)
  pub bits : KeptFrom d.turned octets

-- after any exported calls from the zero table, a slot that returns kind 2 and the pair of v
abbrev pub ExportsTurned : Type 0
ExportsTurned =
    (cs : List Call) (os : List Observation) → Transcript cs zeros os → (t room : ℕ) (o : Observation) → Performs (slot t room) (final_words zeros os) o → o.returned.kind ≡ 2
    → let v = name_from o.returned.vpi o.returned.vci in SentAsDue cs os v (kept (hears v) nothing_heard cs os).receiver o.new
