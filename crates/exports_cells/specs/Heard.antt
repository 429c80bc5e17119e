-- What a caller knows of the receiving side of one connection, from the calls and what they returned: the
-- congestion level, the saved EFCI, the turned cell that waits, with the octets that were received, and the made
-- cell that waits. (Document 01, "Turning cells round"; document 02, L1, L2, L6 and L13.)
use Rattle.std.specs.Prelude.{ℕ, Bool, false, cond, ◌&&◌, ◌||◌, List, eqb}
use Rattle.std.proofs.Math.Option.{Option, none, some}
use Rattle.rate.specs.Code.{code_of}
use Rattle.rate_params.specs.declared.params.Params.{Params}
use Rattle.rate_params.specs.Params.{peak}
use Rattle.cell.specs.Name.{name_from, vpi_in, vci_in, address_name}
use Rattle.cell.specs.Fields.{cell_name}
use Rattle.cell.specs.Reading.{reading}
use Rattle.cell.specs.declared.fields.Fields.{Fields}
use Rattle.cell.specs.Read.{Reading, Refused, DataCell, RmCell}
use Rattle.model.specs.Call.{Call, opening, closing, receiving, offering, levelling, slot, making, out_of_rate, opening_path, adding, offering_member, removing}
use Rattle.model.specs.Aspects.{Sort, opener, closer, arrival, slot_at, another, sort_of, Asked, asks_made, asks_out_of_rate, asks_none, asked_of}
use Rattle.abr.specs.Exports.{Observation}
use Rattle.exports.specs.Returned.{no_member, member_seen, connection_of}
use Rattle.abr_answers.specs.Reply.{Reply}

-- a turned cell that waits: the octets of the forward cell that was received, and the fields that it will be read with
pub record TurnedCell : Type 0 where
  pub received : List ℕ
  pub fields : Fields

-- `efci` is the EFCI of the last data cell since the open and the last forward cell. `turned` is the turned cell
-- that waits. `made` is the level at which the made cell that waits was made, 0 if none waits.
pub record Receiver : Type 0 where
  pub efci : Bool
  pub turned : Option TurnedCell
  pub made : ℕ

abbrev pub nothing_waits : Receiver
nothing_waits = record { efci = false; turned = none; made = 0 }

-- whether the turned cell that waits has CI 1
abbrev pub ci_waits : Option TurnedCell → Bool
ci_waits none = false
ci_waits (some x) = eqb x.fields.ci 1

-- A forward cell of v with these fields, turned at this level. CI is 1 if its own CI or the saved EFCI is 1, if
-- the turned cell that it replaces has CI 1 (L2), or at level 2. NI is 1 if its own NI is 1, or at level 1.
abbrev pub turned_fields : (v level : ℕ) → Receiver → Fields → Fields
turned_fields v level d g = record {
  vpi = vpi_in v;
  vci = vci_in v;
  dir = 1;
  bn = 0;
  ci = cond (d.efci || ci_waits d.turned || eqb level 2) 1 g.ci;
  ni = cond (eqb level 1) 1 g.ni;
  ra = g.ra;
  er = g.er;
  ccr = g.ccr;
  mcr = g.mcr;
  ql = g.ql;
  sn = g.sn;
}

-- it waits, and the saved EFCI is used up
abbrev pub turned_at : (v level : ℕ) → List ℕ → Fields → Receiver → Receiver
turned_at v level o g d = record { efci = false; turned = some (record { received = o; fields = turned_fields v level d g }); made = d.made }

-- a backward cell of v has gone: the turned one before the made one
abbrev pub gone_from : (efci : Bool) (made : ℕ) → Option TurnedCell → Receiver
gone_from e m none = record { efci = e; turned = none; made = 0 }
gone_from e m (some x) = record { efci = e; turned = none; made = m }

abbrev pub received_from : (v : ℕ) → (member : ℕ → Bool) → (level : ℕ) → List ℕ → Reading → Receiver → Receiver
received_from v f level o (Refused n) d = d
received_from v f level o (DataCell vpi vci e) d = cond (eqb (connection_of f (address_name vpi vci)) v) (record { efci = e; turned = d.turned; made = d.made }) d
received_from v f level o (RmCell g) d = cond (eqb (cell_name g) v) (cond (eqb g.dir 1) d (turned_at v level o g d)) d

-- an open or a close, a received cell, a slot: kind 2 is a turned or made cell
abbrev pub receiver_by : (v : ℕ) → (member : ℕ → Bool) → (level : ℕ) → Reply → Receiver → Sort → Receiver
receiver_by v f level r d (opener u t p) = cond (eqb u v) nothing_waits d
receiver_by v f level r d (closer u) = cond (eqb u v) nothing_waits d
receiver_by v f level r d (arrival o) = received_from v f level o (reading o) d
receiver_by v f level r d (slot_at t) = cond (eqb r.kind 2 && eqb (name_from r.vpi r.vci) v) (gone_from d.efci d.made d.turned) d
receiver_by v f level r d another = d

-- a made cell of v
abbrev pub made_for : (v level : ℕ) → Receiver → Asked → Receiver
made_for v level d (asks_made u t) = cond (eqb u v) (record { efci = d.efci; turned = d.turned; made = level }) d
made_for v level d (asks_out_of_rate u t) = d
made_for v level d asks_none = d

-- after a call that was not refused
abbrev pub receiver_after : (v : ℕ) → (member : ℕ → Bool) → (level : ℕ) → Call → Reply → Receiver → Receiver
receiver_after v f level c r d = made_for v level (receiver_by v f level r d (sort_of c)) (asked_of c)

abbrev pub level_after : Call → ℕ → ℕ
level_after (opening vpi vci t p) k = k
level_after (closing vpi vci) k = k
level_after (receiving o) k = k
level_after (offering vpi vci n) k = k
level_after (levelling l) k = l
level_after (slot t room) k = k
level_after (making vpi vci t) k = k
level_after (out_of_rate vpi vci t room) k = k
level_after (opening_path vpi t p) k = k
level_after (adding vpi vci) k = k
level_after (offering_member vpi vci n) k = k
level_after (removing vpi vci) k = k

-- what a caller keeps for v: the members and the level are the engine's
pub record Heard : Type 0 where
  pub member : ℕ → Bool
  pub level : ℕ
  pub receiver : Receiver

abbrev pub hears : (v : ℕ) → Call → Observation → Heard → Heard
hears v c o k =
    let a = eqb o.returned.refusal 0 in
    record {
      member = member_seen c o k.member;
      level = cond a (level_after c k.level) k.level;
      receiver = cond a (receiver_after v k.member k.level c o.returned k.receiver) k.receiver;
    }

abbrev pub nothing_heard : Heard
nothing_heard = record { member = no_member; level = 0; receiver = nothing_waits }

-- the fields of a cell of v made at this level, where v is open with these parameters: BN 1, CI 1 at level 2, NI 1
-- at level 1, ER the code of PCR
abbrev pub made_due : (v : ℕ) → Params → (level : ℕ) → Fields
made_due v p level = record {
  vpi = vpi_in v;
  vci = vci_in v;
  dir = 1;
  bn = 1;
  ci = cond (eqb level 2) 1 0;
  ni = cond (eqb level 1) 1 0;
  ra = 0;
  er = code_of (peak p);
  ccr = 0;
  mcr = 0;
  ql = 0;
  sn = 0;
}

-- the backward cell that goes next: the turned one that waits, else the made one
abbrev pub backward_due : (v : ℕ) → Params → (made : ℕ) → Option TurnedCell → Fields
backward_due v p level none = made_due v p level
backward_due v p level (some x) = x.fields
