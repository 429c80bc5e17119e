-- The members of a path are served in turn, so none is more than one data cell ahead of
-- another. (Document 02, L13.)
use Rattle.std.specs.Prelude.{ℕ, ◌+◌, ◌≤◌, ◌<◌, ◌≡◌, true, false, cond, ◌&&◌, Bool, List, [], ◌∷◌, eqb}
use Rattle.std.proofs.Math.Option.{some}
use Rattle.connection_members.specs.Path.{is_path, path_of}
use Rattle.connection_members.specs.Members.{cells_of, owner}
use Rattle.connection_members.specs.Turn.{turn}
use Rattle.connection.specs.declared.parts.Connection.{Connection}
use Rattle.connection.specs.declared.kind.Kind.{Kind}
use Rattle.connection.specs.declared.kind.Kind.TheVariants.{Data}
use Rattle.model.specs.State.{State, taken, empty, find}
use Rattle.model.specs.Answers.{Answer, Refused, Accepted, Closed, Idle, Sent}
use Rattle.model.specs.Call.{Call, slot}
use Rattle.model.specs.Aspects.{Sort, opener, closer, arrival, slot_at, another, sort_of}
use Rattle.model.specs.Step.{step}
use Rattle.model.specs.Run.{final, is_accepted}
use Rattle.model.specs.Conservation.{data_in, sum_over}

-- 1 of a slot that sends a data cell and answers the name x
unfoldable pub data_told : (x : ℕ) → Answer → ℕ
data_told x (Refused n) = 0
data_told x (Accepted n) = 0
data_told x (Closed n k) = 0
data_told x Idle = 0
data_told x (Sent v y k a n) = cond (eqb y x) (data_in k) 0

-- the data cells of the pair x in a list of calls
abbrev pub data_cells_of : (x : ℕ) → State → List Call → ℕ
data_cells_of x s cs = sum_over (λ c a. data_told x a) s cs

-- a slot finds data on both members a and b of the path v, and v is not closed; any other
-- call may come between the slots
abbrev pub GoOn : (v a b : ℕ) → (waits : ℕ → ℕ) → (accepted : Bool) → Sort → Type 0
GoOn v a b f y (opener u t p) = Unit
GoOn v a b f y (closer u) = (y && eqb u v) ≡ false
GoOn v a b f y (arrival o) = Unit
GoOn v a b f y (slot_at t) = (0 < f a) × (0 < f b)
GoOn v a b f y another = Unit

abbrev pub BothGoOn : (v a b : ℕ) → State → Call → Type 0
BothGoOn v a b s c = GoOn v a b (λ x. cells_of x s.members) (is_accepted (step s c).answer) (sort_of c)

abbrev pub Stretch : (v a b : ℕ) → State → List Call → Type 0
Stretch v a b s [] = Unit
Stretch v a b s (c ∷ cs) = BothGoOn v a b s c × Stretch v a b (step s c).state cs

-- after any list of calls cs from the empty table
pub record Fairness : Type 0 where
  -- a path's data cell is that of the member whose turn it is, and the slot answers its name; for a channel
  -- it answers the channel's own
  pub in_turn :
      (cs : List Call) (t room v x acr n : ℕ) (c : Connection) → let s = final empty cs in
      find v s.entries ≡ taken c → (step s (slot t room)).answer ≡ Sent v x Data acr n → is_path v ≡ true → turn v c.queue.served s.members ≡ some x
  pub own :
      (cs : List Call) (t room v x acr n : ℕ) → (step (final empty cs) (slot t room)).answer ≡ Sent v x Data acr n → is_path v ≡ false → x ≡ v
  -- so the name that any slot answers says where it goes: to that connection, or to the path
  -- that the name is a member of
  pub goes :
      (cs : List Call) (t room v x acr n : ℕ) (k : Kind) → (step (final empty cs) (slot t room)).answer ≡ Sent v x k acr n → v ≡ owner x (final empty cs).members
  -- in any stretch ds of calls after them, of two members of one path
  pub fair :
      (cs ds : List Call) (a b : ℕ) → let s = final empty cs in
      path_of a ≡ path_of b → Stretch (path_of a) a b s ds → (data_cells_of a s ds ≤ data_cells_of b s ds + 1) × (data_cells_of b s ds ≤ data_cells_of a s ds + 1)
