-- The change that abr_acr returns is that of the connection's last accepted backward cell, new rate less old. It
-- lies between MCR − PCR and PCR − MCR. An open begins without a change, and it is 0 until the first such cell
-- (BeforeFeedback.antt). (Document 02, L9.)
use Rattle.std.specs.Prelude.{ℕ, ◌≡◌, ◌≢◌, List, pos, ◌-ℤ◌, ◌≤ℤ◌}
use Rattle.std.proofs.Math.Option.{none, some}
use Rattle.rate_params.specs.declared.params.Params.{Params}
use Rattle.rate_params.specs.Params.{peak, least, initial_used}
use Rattle.cell.specs.declared.fields.Fields.{Fields}
use Rattle.cell.specs.Read.{RmCell}
use Rattle.cell.specs.Name.{address_name}
use Rattle.cell.specs.Fields.{cell_name}
use Rattle.cell.specs.Reading.{reading}
use Rattle.model.specs.Call.{Call, closing, receiving}
use Rattle.promise_traces.specs.Traces.{Opening}
use Rattle.abr_answers.specs.declared.calls.AbrAllowed.{AbrAllowed}
use Rattle.abr.specs.Contract.{ReturnsAllowed}
use Rattle.abr.specs.Exports.{Observation, Performs, Transcript, final_words, zeros}
use Rattle.laws.specs.All.{All}
use Rattle.promise_cells.specs.Changes.{NotFedBack}
use Rattle.exports.specs.Exports.{params_observed}

pub record ChangeWithin (p : Params) (a : AbrAllowed) : Type 0 where
  pub refusal : a.refusal ≡ 0
  pub low : (pos (least p) -ℤ pos (peak p)) ≤ℤ a.change
  pub high : a.change ≤ℤ (pos (peak p) -ℤ pos (least p))

pub record ChangeNone (p : Params) (a : AbrAllowed) : Type 0 where
  pub refusal : a.refusal ≡ 0
  pub acr : a.acr ≡ initial_used p
  pub change : a.change ≡ pos 0

-- the call is no backward cell of v, and does not close it; it may be a slot that sends a forward cell of v
pub record Unfeeding (v : ℕ) (c : Call) : Type 0 where
  pub not_fed_back : NotFedBack v c
  pub not_closed : (vpi vci : ℕ) → c ≡ closing vpi vci → address_name vpi vci ≢ v

-- after any exported calls from the zero table
pub record ExportsChangeBounds : Type 0 where
  pub bounded :
      (cs : List Call) (os : List Observation) → Transcript cs zeros os → (v : ℕ) (p : Params) → params_observed v none cs os ≡ some p → (a : AbrAllowed) → ReturnsAllowed v (final_words zeros os) a
      → ChangeWithin p a
  -- and an open, of a channel or a path, that returned 0
  pub opens :
      (cs : List Call) (os : List Observation) → Transcript cs zeros os → (c : Call) (v : ℕ) (p : Params) → Opening c v p → (o : Observation) → Performs c (final_words zeros os) o
      → o.returned.refusal ≡ 0 → (a : AbrAllowed) → ReturnsAllowed v o.table a → ChangeNone p a
  -- and a received backward cell of an open connection, then any calls that neither feed it again nor close it:
  -- the change is from the rate before that cell to the rate right after it
  pub last :
      (cs : List Call) (os : List Observation) → Transcript cs zeros os → (octets : List ℕ) (f : Fields) → reading octets ≡ RmCell f → f.dir ≡ 1
      → (o : Observation) → Performs (receiving octets) (final_words zeros os) o
      → (a b : AbrAllowed) → ReturnsAllowed (cell_name f) (final_words zeros os) a → ReturnsAllowed (cell_name f) o.table b → a.refusal ≡ 0
      → (ds : List Call) (ps : List Observation) → Transcript ds o.table ps → All (Unfeeding (cell_name f)) ds
      → (d : AbrAllowed) → ReturnsAllowed (cell_name f) (final_words o.table ps) d → d.change ≡ (pos b.acr -ℤ pos a.acr)
