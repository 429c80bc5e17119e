-- What the last backward cell of a connection changed, as reading its allowed rate gives it. (Document 02, L9.)
use Rattle.std.specs.Prelude.{ℕ, ◌≡◌, ◌≢◌, List, pos, ◌-ℤ◌, ◌≤ℤ◌}
use Rattle.std.proofs.Math.Option.{Option, none, some}
use Rattle.rate_params.specs.declared.params.Params.{Params}
use Rattle.rate_params.specs.Params.{peak, least, initial_used}
use Rattle.cell.specs.declared.fields.Fields.{Fields}
use Rattle.cell.specs.Read.{RmCell}
use Rattle.cell.specs.Name.{address_name}
use Rattle.cell.specs.Fields.{cell_name}
use Rattle.cell.specs.Reading.{reading}
use Rattle.connection_members.specs.Path.{path_vci}
use Rattle.connection.specs.declared.parts.Change.{Change}
use Rattle.connection.specs.Parts.{changed}
use Rattle.connection.specs.Change.{difference}
use Rattle.model.specs.Answers.{Acr, NotOpen, Rate, Accepted}
use Rattle.model.specs.State.{empty}
use Rattle.model.specs.Call.{Call, opening, receiving, opening_path}
use Rattle.model.specs.Aspects.{Sort, opener, closer, arrival, slot_at, another, sort_of}
use Rattle.model.specs.Step.{step}
use Rattle.model.specs.Queries.{acr_of}
use Rattle.model.specs.Run.{final, params_given}

-- not open; or a change between MCR − PCR and PCR − MCR of the parameters that the open gave
pub data ChangeBounded : Option Params → Acr → Type 0 where
  not_open : ChangeBounded none NotOpen
  between :
      {p : Params} {a : ℕ} {x : Change} → (pos (least p) -ℤ pos (peak p)) ≤ℤ difference x → difference x ≤ℤ (pos (peak p) -ℤ pos (least p))
      → ChangeBounded (some p) (Rate a x)

-- the answer after a backward cell that met the rate a: the new rate, and the change from a to it
pub record ChangedFrom (a : ℕ) (r : Acr) : Type 0 where
  pub after : ℕ
  pub is : r ≡ Rate after (changed a after)

-- the call is no backward cell of the connection of v
abbrev pub NoFeedback : ℕ → Sort → Type 0
NoFeedback v (opener u t p) = Unit
NoFeedback v (closer u) = Unit
NoFeedback v (arrival o) = (f : Fields) → reading o ≡ RmCell f → f.dir ≡ 1 → cell_name f ≢ v
NoFeedback v (slot_at t) = Unit
NoFeedback v another = Unit

abbrev pub NotFedBack : ℕ → Call → Type 0
NotFedBack v c = NoFeedback v (sort_of c)

-- after any list of calls cs from the empty table
pub record Changes : Type 0 where
  pub bounded : (cs : List Call) (v : ℕ) → ChangeBounded (params_given v cs) (acr_of (final empty cs) v)
  -- no change as soon as a connection is opened, a path as well as a channel
  pub opens :
      (cs : List Call) (vpi vci t n : ℕ) (p : Params) → let o = step (final empty cs) (opening vpi vci t p) in
      o.answer ≡ Accepted n → acr_of o.state (address_name vpi vci) ≡ Rate (initial_used p) (changed (initial_used p) (initial_used p))
  pub opens_path :
      (cs : List Call) (vpi t n : ℕ) (p : Params) → let o = step (final empty cs) (opening_path vpi t p) in
      o.answer ≡ Accepted n → acr_of o.state (address_name vpi path_vci) ≡ Rate (initial_used p) (changed (initial_used p) (initial_used p))
  -- a backward cell of an open connection: from the rate read before it to the one read after it
  pub fed_back :
      (cs : List Call) (o : List ℕ) (f : Fields) (a : ℕ) (x : Change) → reading o ≡ RmCell f → f.dir ≡ 1 → acr_of (final empty cs) (cell_name f) ≡ Rate a x
      → ChangedFrom a (acr_of (step (final empty cs) (receiving o)).state (cell_name f))
  -- no other call touches it while the connection stays open
  pub kept :
      (cs : List Call) (c : Call) (v a b : ℕ) (x y : Change) → NotFedBack v c
      → acr_of (final empty cs) v ≡ Rate a x → acr_of (step (final empty cs) c).state v ≡ Rate b y → y ≡ x
