-- The source of a connection: the data that waits, the forward cells that it sends, in rate and out of rate, and what a
-- backward cell makes of it. (Document 01, "Opening", "Slots" and "Four moves of the allowed rate"; document 02, L5, L9
-- and L13.)
use Rattle.std.specs.Prelude.{ℕ, ◌+◌, ◌-◌, min, false, cond, List, eqb, Some}
use Rattle.std.proofs.Math.Option.{Option}
use Rattle.rate_moves.specs.declared.moves.Rate.{Rate}
use Rattle.rate.specs.Code.{rate_of, code_of}
use Rattle.rate_params.specs.Params.{peak, least}
use Rattle.rate_moves.specs.Moves.{first_cell, idle, unanswered, feedback}
use Rattle.cell.specs.declared.fields.Fields.{Fields}
use Rattle.cell.specs.Name.{vpi_in, vci_in}
use Rattle.cell.specs.Fields.{rm_cell}
use Rattle.connection_members.specs.Turn.{last_after}
use Rattle.connection.specs.Parts.{Connection, Pace, Unsent, Running, with_rate, with_pace, with_unanswered, with_queue, with_change, with_out_of_rate, enqueued, dequeued, changed, unanswered_most}
use Rattle.connection.specs.Pace.{paced}

-- an offer adds to the waiting data
unfoldable pub offered : ℕ → Connection → Connection
offered n c = with_queue c (enqueued n c.queue)

-- a data cell at t
unfoldable pub sent_data : ℕ → Connection → Connection
sent_data t c = with_queue (with_pace c (paced t false c.pace)) (dequeued 1 c.queue)

-- a path keeps the VCI of the member that was served last
unfoldable pub with_served : Option ℕ → Connection → Connection
with_served x c = with_queue c (record { cells = c.queue.cells; served = last_after x c.queue.served })

-- the moves before a forward cell at t: the first cell's; or idle, and then unanswered
unfoldable pub moved_by : (t y : ℕ) → Pace → Rate → Rate
moved_by t y Unsent q = first_cell q
moved_by t y (Running sent forward k turned) q = unanswered y (idle (t - forward) q)

-- a forward cell at t; Y stops at its most
unfoldable pub sent_forward : ℕ → Connection → Connection
sent_forward t c =
    with_unanswered (with_pace (with_rate c (moved_by t c.unanswered c.pace c.rate)) (Running t t 0 false)) (min (c.unanswered + 1) unanswered_most)

-- a forward cell: its connection's VPI and VCI; the codes of PCR as ER, of ACR as CCR, and of MCR; the five bits, QL
-- and SN 0
unfoldable pub forward_fields : (name : ℕ) → Rate → Fields
forward_fields v q = record {
  vpi = vpi_in v;
  vci = vci_in v;
  dir = 0;
  bn = 0;
  ci = 0;
  ni = 0;
  ra = 0;
  er = code_of (peak q.params);
  ccr = code_of q.acr;
  mcr = code_of (least q.params);
  ql = 0;
  sn = 0;
}

-- an out-of-rate cell at t (document 02, L5; source rule 11) changes nothing but its own instant
unfoldable pub after_out_of_rate : ℕ → Connection → Connection
after_out_of_rate t c = with_out_of_rate c (Some t)

-- its octets: CLP 1, and the fields of a slot's forward cell with the allowed rate as it stands
unfoldable pub out_of_rate_cell : Connection → List ℕ
out_of_rate_cell c = rm_cell 1 (forward_fields c.name c.rate)

-- the rate record after a backward cell's feedback
abbrev pub fed_back : Fields → Rate → Rate
fed_back f q = feedback (eqb f.ci 1) (eqb f.ni 1) (rate_of f.er) q

-- feedback, and what it changed (document 02, L9); the answer of a destination, BN 0, clears Y as well
unfoldable pub after_backward_cell : Fields → Connection → Connection
after_backward_cell f c =
    with_unanswered (with_change (with_rate c (fed_back f c.rate)) (changed c.rate.acr (fed_back f c.rate).acr)) (cond (eqb f.bn 0) 0 c.unanswered)
