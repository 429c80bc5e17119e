-- The destination of a connection: the cells that it turns round, and the backward cells that it makes itself.
-- (Document 01, "Turning cells round" and "Slots"; document 02, L1, L2 and L6.)
use Rattle.std.specs.Prelude.{ℕ, ◌/◌, ◌%◌, Bool, true, false, cond, ◌||◌, List, eqb, get_or, Some, None}
use Rattle.rate_params.specs.declared.params.Params.{Params}
use Rattle.rate.specs.Code.{code_of}
use Rattle.rate_params.specs.Params.{peak}
use Rattle.cell_payload.specs.declared.payload.Payload.{Payload}
use Rattle.cell_payload.specs.Payload.{octets_of, payload_of}
use Rattle.cell.specs.declared.fields.Fields.{Fields}
use Rattle.cell.specs.Name.{vpi_in, vci_in}
use Rattle.cell.specs.Octets.{payload}
use Rattle.cell.specs.Fields.{rm_cell}
use Rattle.cell.specs.Turning.{turned_payload, turned_cell}
use Rattle.connection.specs.Parts.{Connection, Destination, Waiting, Made, with_pace, with_destination}
use Rattle.connection.specs.Pace.{paced}

-- the latest data cell decides the saved EFCI
unfoldable pub after_data_cell : Bool → Connection → Connection
after_data_cell e c = with_destination c (record { efci = e; turned = c.destination.turned; made = c.destination.made })

-- the CI of a turned cell that waits: bit 5 of octet 7, which is the second of its payload
unfoldable pub waiting_ci : Waiting → Bool
waiting_ci None = false
waiting_ci (Some p) = eqb (get_or (octets_of p) 1 0 / 32 % 2) 1

-- what marks a cell that is turned now, besides its own CI and the level: the saved EFCI, and the CI of the turned cell
-- that it replaces (document 02, L2)
unfoldable pub mark_kept : Destination → Bool
mark_kept d = d.efci || waiting_ci d.turned

-- a forward cell becomes the one waiting turned cell, at this congestion level; the saved EFCI is used up
unfoldable pub after_forward_cell : (level : ℕ) → List ℕ → Connection → Connection
after_forward_cell level o c =
    with_destination c (record { efci = false; turned = Some (payload_of (turned_payload level (mark_kept c.destination) (payload o))); made = c.destination.made })

-- the same, from the words of the received payload
unfoldable pub after_forward_payload : (level : ℕ) → Payload → Connection → Connection
after_forward_payload level p c =
    with_destination c (record { efci = false; turned = Some (payload_of (turned_payload level (mark_kept c.destination) (octets_of p))); made = c.destination.made })

-- a cell made at t, at this congestion level, which refusal 16 keeps from being 0, waits in the place of an earlier
-- made one
unfoldable pub with_made : (t level : ℕ) → Connection → Connection
with_made t level c =
    with_destination c (record { efci = c.destination.efci; turned = c.destination.turned; made = record { level = level; last = Some t } })

-- its fields: its connection's VPI and VCI, DIR and BN 1, CI at level 2, NI at level 1, the code of PCR as ER; RA, CCR,
-- MCR, QL and SN 0
unfoldable pub made_fields : (name : ℕ) → Params → (level : ℕ) → Fields
made_fields v p level = record {
  vpi = vpi_in v;
  vci = vci_in v;
  dir = 1;
  bn = 1;
  ci = cond (eqb level 2) 1 0;
  ni = cond (eqb level 1) 1 0;
  ra = 0;
  er = code_of (peak p);
  ccr = 0;
  mcr = 0;
  ql = 0;
  sn = 0;
}

-- the turned cell goes before the made one
unfoldable pub made_left : Waiting → Made → Made
made_left None m = record { level = 0; last = m.last }
made_left (Some p) m = m

-- the turned or made cell that waits goes at t
unfoldable pub sent_turned : ℕ → Connection → Connection
sent_turned t c =
    with_destination (with_pace c (paced t true c.pace))
    (record { efci = c.destination.efci; turned = None; made = made_left c.destination.turned c.destination.made })

-- the backward cell that goes: the turned one that waits, else the made one
unfoldable pub backward_cell : (name : ℕ) → Params → Waiting → (level : ℕ) → List ℕ
backward_cell v p None level = rm_cell 0 (made_fields v p level)
backward_cell v p (Some w) level = turned_cell (vpi_in v) (vci_in v) w
