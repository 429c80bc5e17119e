-- What the last backward cell changed, for exported calls. It is said of what abr_acr returns before a call
-- and after it. (Document 02, L9.)
use Rattle.std.specs.Prelude.{ℕ, ◌≡◌, List, pos, ◌-ℤ◌}
use Rattle.cell.specs.declared.fields.Fields.{Fields}
use Rattle.cell.specs.Read.{RmCell}
use Rattle.cell.specs.Fields.{cell_name}
use Rattle.cell.specs.Reading.{reading}
use Rattle.model.specs.Call.{Call, receiving}
use Rattle.abr_answers.specs.declared.calls.AbrAllowed.{AbrAllowed}
use Rattle.abr.specs.Contract.{ReturnsAllowed}
use Rattle.abr.specs.Exports.{Observation, Performs, Transcript, final_words, zeros}
use Rattle.promise_cells.specs.Changes.{NotFedBack}

-- still open, and the change is the rate after the call less the rate before it
pub record ChangedBy (a b : AbrAllowed) : Type 0 where
  pub refusal : b.refusal ≡ 0
  pub change : b.change ≡ (pos b.acr -ℤ pos a.acr)

-- After any exported calls from the zero table, and one call more:
pub record ExportsChanges : Type 0 where
  -- a received backward cell of a connection that was open
  pub fed_back :
      (cs : List Call) (os : List Observation) → Transcript cs zeros os → (octets : List ℕ) (f : Fields) → reading octets ≡ RmCell f → f.dir ≡ 1
      → (o : Observation) → Performs (receiving octets) (final_words zeros os) o
      → (a b : AbrAllowed) → ReturnsAllowed (cell_name f) (final_words zeros os) a → ReturnsAllowed (cell_name f) o.table b → a.refusal ≡ 0 → ChangedBy a b
  -- every other call leaves the change, if the connection was open and still is
  pub kept :
      (cs : List Call) (os : List Observation) → Transcript cs zeros os → (v : ℕ) (c : Call) → NotFedBack v c → (o : Observation) → Performs c (final_words zeros os) o
      → (a b : AbrAllowed) → ReturnsAllowed v (final_words zeros os) a → ReturnsAllowed v o.table b → a.refusal ≡ 0 → b.refusal ≡ 0 → b.change ≡ a.change
