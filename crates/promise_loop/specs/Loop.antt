-- A source and a port that all its backward cells pass, in every list of calls. The allowed rate settles,
-- and follows a change of the share. This holds for channels and paths. (Document 01, "Four moves of the
-- allowed rate"; document 02, L10.)
use Rattle.std.specs.Prelude.{ℕ, suc, ◌+◌, ◌-◌, ◌*◌, ◌≤◌, ◌<◌, min, ◌≡◌, ◌≢◌, Bool, List, [], ◌∷◌}
use Rattle.std.proofs.Math.Option.{some}
use Rattle.rate.specs.Code.{rate_of}
use Rattle.rate_params.specs.declared.params.Params.{Params}
use Rattle.rate_params.specs.Params.{crm, adtf_time}
use Rattle.cell.specs.declared.fields.Fields.{Fields}
use Rattle.cell.specs.Read.{RmCell}
use Rattle.cell.specs.Name.{address_name}
use Rattle.cell.specs.Fields.{cell_name}
use Rattle.cell.specs.Reading.{reading}
use Rattle.port_share.specs.Share.{Share}
use Rattle.port.specs.Port.{port_by}
use Rattle.connection.specs.declared.parts.Connection.{Connection}
use Rattle.connection.specs.declared.parts.Pace.TheVariants.{Running}
use Rattle.connection.specs.declared.kind.Kind.TheVariants.{Forward}
use Rattle.model.specs.State.{State, taken, empty, find}
use Rattle.model.specs.Answers.{Sent}
use Rattle.model.specs.Call.{Call, closing, receiving, slot}
use Rattle.model.specs.Step.{step}
use Rattle.model.specs.Run.{final, params_given, allowed}
use Rattle.promise_lists.specs.Demand3.{NotAbove}
use Rattle.promise_service.specs.Restart.{increase}
use Rattle.promise_cells.specs.Changes.{NotFedBack}
use Rattle.promise_loop.specs.Settled.{feedback_bound}
use Rattle.promise_loop.specs.Share.{port_rate, settled}

-- a backward cell of v as a port with this share leaves it, whatever marks and ER it has; for `port capacity
-- demands` the share is `fair_share capacity demands`
pub record FromPort (v : ℕ) (share : Share) (o : List ℕ) : Type 0 where
  pub before : List ℕ
  pub fields : Fields
  pub read : reading before ≡ RmCell fields
  pub backward : fields.dir ≡ 1
  pub name : cell_name fields ≡ v
  pub left : o ≡ (port_by share before).cell

-- such a cell without marks, whose ER before the port was not below what this port allows: no
-- other on the way allows less
pub record Unmarked (v : ℕ) (p : Params) (share : Share) (o : List ℕ) : Type 0 where
  pub from_port : FromPort v share o
  pub ci : from_port.fields.ci ≡ 0
  pub ni : from_port.fields.ni ≡ 0
  pub er : port_rate p share ≤ rate_of from_port.fields.er

-- n of these calls on the table s are backward cells of v, each of them a `Cell`; for each other call `Other`
-- holds on the table that it meets
pub data Feedbacks (v : ℕ) (Cell : List ℕ → Type 0) (Other : State → Call → Type 0) : State → ℕ → List Call → Type 0 where
  ended : {s : State} → Feedbacks v Cell Other s 0 []
  fed_back :
      {s : State} {n : ℕ} {o : List ℕ} {cs : List Call} → Cell o → Feedbacks v Cell Other (step s (receiving o)).state n cs
      → Feedbacks v Cell Other s (suc n) (receiving o ∷ cs)
  other_call :
      {s : State} {n : ℕ} {c : Call} {cs : List Call} → NotFedBack v c → Other s c → Feedbacks v Cell Other (step s c).state n cs
      → Feedbacks v Cell Other s n (c ∷ cs)

-- the call does not close v
pub record NotClosed (v : ℕ) (s : State) (c : Call) : Type 0 where
  pub other_name : (vpi vci : ℕ) → c ≡ closing vpi vci → address_name vpi vci ≢ v

-- reading the rate of v gives the same before and after the call
pub record RateKept (v : ℕ) (s : State) (c : Call) : Type 0 where
  pub same : allowed v (step s c).state ≡ allowed v s

-- enough for the moves before a forward cell at t to leave the rate: it is not the first, at most ADTF has passed
-- since the last, and fewer than CRM are unanswered or CDF is zero
pub record Unmoved (t : ℕ) (d : Connection) : Type 0 where
  pub sent : ℕ
  pub forward : ℕ
  pub k : ℕ
  pub turned : Bool
  pub later : d.pace ≡ Running sent forward k turned
  pub recent : t - forward ≤ adtf_time d.rate.params
  pub answered : d.rate.params.c ≢ 7 → d.unanswered < crm d.rate.params

-- The call does not close v. If it is a slot that sends a forward cell of v, the cell's moves leave
-- the rate. A caller knows this from the instants of these cells, and from how many went since the
-- last backward cell with BN 0.
pub record NotLowered (v : ℕ) (s : State) (c : Call) : Type 0 where
  pub not_closed : NotClosed v s c
  pub forward_cell :
      (t room acr n : ℕ) (d : Connection) → c ≡ slot t room → (step s c).answer ≡ Sent v v Forward acr n → find v s.entries ≡ taken d → Unmoved t d

-- after the calls cs from the empty table v is open under p, at the rate a
pub record OpenAt (cs : List Call) (v : ℕ) (p : Params) (a : ℕ) : Type 0 where
  pub given : params_given v cs ≡ some p
  pub rate : allowed v (final empty cs) ≡ some a

-- and after further calls, where s is the table after cs; where a move of its own lowered the rate, the count
-- starts again after that move
pub record Loop (s : State) (v : ℕ) (p : Params) (a : ℕ) (share : Share) : Type 0 where
  -- once one backward cell came from the port, the rate is never above the settled one, whatever marks the cells
  -- carry and whatever else moves the rate
  pub never_above : (n : ℕ) (ds : List Call) → Feedbacks v (FromPort v share) (NotClosed v) s (suc n) ds → NotAbove (some (settled p share)) (allowed v (final s ds))
  -- n + 1 backward cells without marks add as many increases, up to the settled rate, if nothing else moves the rate
  pub rises :
      (n : ℕ) (ds : List Call) → Feedbacks v (Unmarked v p share) (RateKept v) s (suc n) ds
      → allowed v (final s ds) ≡ some (min (settled p share) (a + suc n * increase p))
  -- so `feedback_bound` of them bring it there from any rate, and more leave it there, if the
  -- increase is at least one unit
  pub reached :
      (n : ℕ) (ds : List Call) → 1 ≤ increase p → feedback_bound p ≤ n → Feedbacks v (Unmarked v p share) (RateKept v) s n ds
      → allowed v (final s ds) ≡ some (settled p share)
  pub stays : (n : ℕ) (ds : List Call) → a ≡ settled p share → Feedbacks v (Unmarked v p share) (RateKept v) s n ds → allowed v (final s ds) ≡ some (settled p share)
  -- another share from some call on is reached likewise, wherever the rate was then
  pub followed :
      (m n : ℕ) (other : Share) (ds es : List Call) → Feedbacks v (FromPort v share) (NotClosed v) s m ds → 1 ≤ increase p → feedback_bound p ≤ n
      → Feedbacks v (Unmarked v p other) (RateKept v) (final s ds) n es → allowed v (final (final s ds) es) ≡ some (settled p other)
  -- nothing else moves the rate where no forward cell of v lowers it
  pub kept : (n : ℕ) (ds : List Call) → Feedbacks v (Unmarked v p share) (NotLowered v) s n ds → Feedbacks v (Unmarked v p share) (RateKept v) s n ds

abbrev pub ClosedLoop : Type 0
ClosedLoop = (cs : List Call) (v a : ℕ) (share : Share) (p : Params) → OpenAt cs v p a → Loop (final empty cs) v p a share
