-- The format admits every cell that is written, so the far end takes it in. This is stated for what
-- abr_slot, abr_out_of_rate and abr_write_rm return and for the lent buffer. (Document 01, "The cell, 53
-- octets"; document 02, L5 to L7.)
use Rattle.std.specs.Prelude.{ℕ, ◌/◌, ◌%◌, ◌≡◌, ◌≢◌, Bool, true, false, ◌||◌, List, eqb}
use Rattle.cell.specs.declared.fields.Fields.{Fields}
use Rattle.cell.specs.Octets.{octet}
use Rattle.cell.specs.Admitted.{Admitted}
use Rattle.cell.specs.Form.{Framed, Blank}
use Rattle.model.specs.Call.{Call}
use Rattle.model.specs.Aspects.{Lent, for_slot, for_out_of_rate, not_lent, lent_of}
use Rattle.abr_answers.specs.Cells.{write_refusal, octets_after}
use Rattle.abr.specs.Exports.{Observation, Transcript, zeros}
use Rattle.promise_lists.specs.Demand3.{InPlace}
use Rattle.promise_cells.specs.Forms.{clp_of}
use Rattle.abr_answers.specs.Reply.{Reply}

-- whether a call wrote its buffer, by what it returned: a slot of kind 1 or 2 (a forward or a turned cell), or an
-- out-of-rate cell that was not refused
abbrev pub wrote_for : Lent → Reply → Bool
wrote_for (for_slot t) r = eqb r.kind 1 || eqb r.kind 2
wrote_for (for_out_of_rate v) r = eqb r.refusal 0
wrote_for not_lent r = false

abbrev pub wrote_cell : Call → Reply → Bool
wrote_cell c r = wrote_for (lent_of c) r

-- the CLP of what it writes: 1 out of rate (document 02, L5)
abbrev pub clp_written : Call → ℕ
clp_written c = clp_of c

-- An RM cell that the format admits, with GFC 0 and both checks right. Reserved bits are 0 and reserved octets
-- 0x6A. Only a turned cell, with DIR 1 and BN 0, keeps those received.
pub record WrittenCell (clp : ℕ) (octets : List ℕ) : Type 0 where
  pub admitted : Admitted octets
  pub framed : Framed clp octets
  pub blank : octet 7 octets / 64 % 4 ≢ 2 → Blank octets

pub record WritesAdmitted (c : Call) (o : Observation) : Type 0 where
  pub cell : wrote_cell c o.returned ≡ true → WrittenCell (clp_written c) o.new
  pub nothing : wrote_cell c o.returned ≡ false → o.new ≡ o.old

pub record WrittenAdmitted : Type 0 where
  -- in every list of exported calls from the zero table
  pub calls : (cs : List Call) (os : List Observation) → Transcript cs zeros os → InPlace WritesAdmitted cs os
  -- what abr_write_rm leaves if it returns 0
  pub writes : (f : Fields) (old new : List ℕ) (r : ℕ) → r ≡ write_refusal f old → new ≡ octets_after f old → r ≡ 0 → Admitted new × Framed 0 new × Blank new
