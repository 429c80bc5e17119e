-- The leaf that an open, a received cell and a slot return is the connection's place in the tournament: the lowest
-- free one when it was opened, its own until its close, and no other connection's meanwhile. This is stated by what a
-- caller keeps of the calls and what they returned. (Document 02, L4. Beyond the documents' demands.)
use Rattle.std.specs.Prelude.{ℕ, ◌≤◌, ◌<◌, ◌≡◌, cond, List, eqb}
use Rattle.std.proofs.Math.Option.{Option, none, some}
use Rattle.rate_params.specs.declared.params.Params.{Params}
use Rattle.cell.specs.Name.{address_name}
use Rattle.connection_members.specs.Path.{path_of}
use Rattle.model.specs.State.{capacity}
use Rattle.model.specs.Call.{Call, receiving, slot}
use Rattle.model.specs.Aspects.{Sort, opener, closer, arrival, slot_at, another, sort_of}
use Rattle.abr_answers.specs.declared.status.AbrConnection.{AbrConnection}
use Rattle.abr.specs.Contract.{ReturnsStatus, ReturnsAt}
use Rattle.abr.specs.Exports.{Observation, Performs, Transcript, final_words, zeros}
use Rattle.promise_traces.specs.Traces.{Opening}
use Rattle.exports.specs.Along.{kept}
use Rattle.exports.specs.Known.{Opened, KnownMember, name_in}
use Rattle.exports.specs.Returned.{no_member, members_seen, connection_of, connection_returned}
use Rattle.exports_progress.specs.PassedOver.{counts_open}
use Rattle.exports_orders.specs.Noted.{noted}

-- the leaf of v: what an open of it returned, and none after its close
abbrev pub leaf_by : (v leaf : ℕ) → Option ℕ → Sort → Option ℕ
leaf_by v l k (opener u t p) = cond (eqb u v) (some l) k
leaf_by v l k (closer u) = cond (eqb u v) none k
leaf_by v l k (arrival o) = k
leaf_by v l k (slot_at t) = k
leaf_by v l k another = k

abbrev pub leaf_noted : (v : ℕ) → Call → Observation → Option ℕ → Option ℕ
leaf_noted v c o k = noted (λ d j. leaf_by v o.besides.leaf j (sort_of d)) c o k

-- after all calls of a list
abbrev pub leaf_kept : (v : ℕ) → List Call → List Observation → Option ℕ
leaf_kept v cs os = kept (leaf_noted v) none cs os

-- a name keeps a leaf, and a leaf is some name's
pub record HasLeaf (cs : List Call) (os : List Observation) (v : ℕ) : Type 0 where
  pub leaf : ℕ
  pub is_kept : leaf_kept v cs os ≡ some leaf

pub record LeafTaken (cs : List Call) (os : List Observation) (l : ℕ) : Type 0 where
  pub name : ℕ
  pub is_kept : leaf_kept name cs os ≡ some l

-- every leaf below this one is taken, and this one is not
pub record LowestFree (cs : List Call) (os : List Observation) (l : ℕ) : Type 0 where
  pub below : (i : ℕ) → i < l → LeafTaken cs os i
  pub not_taken : (v : ℕ) → leaf_kept v cs os ≡ some l → ⊥
  pub few : l ≤ kept counts_open 0 cs os

-- what abr_at answers for the leaf of v
pub record AnswersFor (v l : ℕ) (r : AbrConnection) : Type 0 where
  pub refusal : r.refusal ≡ 0
  pub name : address_name r.vpi r.vci ≡ v
  pub leaf : r.leaf ≡ l

-- after any exported calls cs from the zero table
pub record ExportsLeaves : Type 0 where
  pub range : (cs : List Call) (os : List Observation) → Transcript cs zeros os → (v l : ℕ) → leaf_kept v cs os ≡ some l → l < capacity
  -- no two connections have one leaf
  pub apart : (cs : List Call) (os : List Observation) → Transcript cs zeros os → (u v l : ℕ) → leaf_kept u cs os ≡ some l → leaf_kept v cs os ≡ some l → u ≡ v
  -- an open name has a leaf, and a name with a leaf is open
  pub of_open : (cs : List Call) (os : List Observation) → Transcript cs zeros os → (v : ℕ) → Opened cs os v → HasLeaf cs os v
  pub is_open : (cs : List Call) (os : List Observation) → Transcript cs zeros os → (v l : ℕ) → leaf_kept v cs os ≡ some l → Opened cs os v
  -- an open more, of a channel or of a path
  pub lowest :
      (cs : List Call) (os : List Observation) → Transcript cs zeros os → (c : Call) (v : ℕ) (p : Params) → Opening c v p → (o : Observation) → Performs c (final_words zeros os) o
      → o.returned.refusal ≡ 0 → LowestFree cs os o.besides.leaf
  -- a slot more that returned a cell: the leaf of the connection that it names, for a member's data cell of its path
  pub sent :
      (cs : List Call) (os : List Observation) → Transcript cs zeros os → (t room : ℕ) (o : Observation) → Performs (slot t room) (final_words zeros os) o → (o.returned.kind ≡ 0 → ⊥)
      → leaf_kept (connection_returned (members_seen no_member cs os) o.returned) cs os ≡ some o.besides.leaf
  -- a received cell more that returned 0: the leaf of its pair or, if that is a member, of its path
  pub received :
      (cs : List Call) (os : List Observation) → Transcript cs zeros os → (octets : List ℕ) (o : Observation) → Performs (receiving octets) (final_words zeros os) o → o.returned.refusal ≡ 0
      → leaf_kept (connection_of (members_seen no_member cs os) (name_in octets)) cs os ≡ some o.besides.leaf
  -- abr_status returns the leaf of a name that is open, and of a member's name that of its path
  pub status :
      (cs : List Call) (os : List Observation) → Transcript cs zeros os → (v l : ℕ) → leaf_kept v cs os ≡ some l → (r : AbrConnection) → ReturnsStatus v (final_words zeros os) r
      → r.leaf ≡ l
  pub member_status :
      (cs : List Call) (os : List Observation) → Transcript cs zeros os → (x : ℕ) → KnownMember cs os x → (r : AbrConnection) → ReturnsStatus x (final_words zeros os) r
      → leaf_kept (path_of x) cs os ≡ some r.leaf
  -- abr_at finds the name that keeps a leaf, and returns 11 for a leaf that none keeps
  pub at_taken :
      (cs : List Call) (os : List Observation) → Transcript cs zeros os → (v l : ℕ) → leaf_kept v cs os ≡ some l → (r : AbrConnection) → ReturnsAt l (final_words zeros os) r
      → AnswersFor v l r
  pub at_free :
      (cs : List Call) (os : List Observation) → Transcript cs zeros os → (l : ℕ) → ((v : ℕ) → leaf_kept v cs os ≡ some l → ⊥) → (r : AbrConnection) → ReturnsAt l (final_words zeros os) r
      → r.refusal ≡ 11
