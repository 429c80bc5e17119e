-- The forward cells that exported calls write: a slot's of kind 1, and those out of rate.
-- (Document 01, "Slots"; document 02, L5, L6 and L13.)
use Rattle.std.specs.Prelude.{ℕ, ◌≡◌, List}
use Rattle.rate.specs.Code.{code_of}
use Rattle.rate_params.specs.declared.params.Params.{Params}
use Rattle.rate_params.specs.Params.{peak, least}
use Rattle.cell.specs.Name.{name_from, vpi_in, vci_in, address_name}
use Rattle.cell.specs.Reading.{reading}
use Rattle.cell.specs.declared.fields.Fields.{Fields}
use Rattle.cell.specs.Read.{RmCell}
use Rattle.model.specs.Call.{Call, slot, out_of_rate}
use Rattle.abr_answers.specs.declared.calls.AbrAllowed.{AbrAllowed}
use Rattle.abr.specs.Contract.{ReturnsAllowed}
use Rattle.abr.specs.Exports.{Observation, Performs, Transcript, final_words, zeros}
use Rattle.exports.specs.Known.{Opened}

-- the fields of a forward cell of v at this allowed rate: the codes of PCR as ER, of the rate as CCR, and of
-- MCR; the five bits, QL and SN 0
abbrev pub forward_expected : (v acr : ℕ) → Params → Fields
forward_expected v acr p = record {
  vpi = vpi_in v;
  vci = vci_in v;
  dir = 0;
  bn = 0;
  ci = 0;
  ni = 0;
  ra = 0;
  er = code_of (peak p);
  ccr = code_of acr;
  mcr = code_of (least p);
  ql = 0;
  sn = 0;
}

-- v is open, and these octets are its forward cell by its own parameters. A minimum of 0 is
-- 0x0000, whatever code the open gave.
pub record ForwardAt (cs : List Call) (os : List Observation) (v acr : ℕ) (octets : List ℕ) : Type 0 where
  pub opened : Opened cs os v
  pub read : reading octets ≡ RmCell (forward_expected v acr opened.params)
  pub no_minimum : least opened.params ≡ 0 → (forward_expected v acr opened.params).mcr ≡ 0x0000

-- after any exported calls from the zero table, and one call more
pub record ExportsForward : Type 0 where
  -- a slot that returns kind 1: its cell carries the rate that the slot returned, which is that after the moves
  pub slots :
      (cs : List Call) (os : List Observation) → Transcript cs zeros os → (t room : ℕ) (o : Observation) → Performs (slot t room) (final_words zeros os) o → o.returned.kind ≡ 1
      → ForwardAt cs os (name_from o.returned.vpi o.returned.vci) o.returned.acr o.new
  -- an out-of-rate cell: the rate as it stands, which abr_acr gives
  pub out_of_rate_cells :
      (cs : List Call) (os : List Observation) → Transcript cs zeros os → (vpi vci t room : ℕ) (o : Observation) → Performs (out_of_rate vpi vci t room) (final_words zeros os) o
      → o.returned.refusal ≡ 0 → (a : AbrAllowed) → ReturnsAllowed (address_name vpi vci) (final_words zeros os) a → ForwardAt cs os (address_name vpi vci) a.acr o.new
