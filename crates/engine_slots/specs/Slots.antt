-- What a slot that goes to an entry writes and leaves.
use Rattle.std.specs.Prelude.{ℕ, ◌+◌, ◌≤◌, ◌<◌, ◌≡◌, List, get_or}
use Rattle.rate_moves.specs.declared.moves.Rate.{Rate}
use Rattle.rate.specs.Units.{largest_rate}
use Rattle.cell.specs.Fields.{rm_cell}
use Rattle.connection.specs.declared.parts.Connection.{Connection}
use Rattle.connection.specs.Parts.{waiting}
use Rattle.connection.specs.declared.kind.Kind.{Kind}
use Rattle.connection.specs.declared.kind.Kind.TheVariants.{Data}
use Rattle.connection.specs.Kind.{kind_at}
use Rattle.connection.specs.Source.{forward_fields}
use Rattle.model.specs.State.{State, free, taken, position, holds}
use Rattle.model.specs.Invariant.{WellFormed}
use Rattle.model.specs.Tournament.{levels, winner_at, winner_word}
use Rattle.table.specs.Layout.{words}
use Rattle.table.specs.Loading.{first_line}
use Rattle.model.specs.Answers.{SlotAnswer}
use Rattle.model.specs.Details.{slot_answer}
use Rattle.model.specs.Step.{send_step}
use Rattle.engine.specs.Contract.{buffer_content}

-- a forward cell, if the allowed rate is a rate, as that of every connection that calls made is
pub record ForwardIn (clp name : ℕ) (q : Rate) (new : List ℕ) : Type 0 where
  pub is : q.acr ≤ largest_rate → new ≡ rm_cell clp (forward_fields name q)

-- What a slot at t leaves, in a state whose last accepted time is t, where it goes to this connection, which sends a
-- cell of kind k.
abbrev pub SlotLeaves : Kind → (t : ℕ) → State → Connection → (after : List ℕ) (r : SlotAnswer) (old new : List ℕ) → Type 0
SlotLeaves k t s c m r old new =
    (m ≡ words (send_step s t c.name c k).state) × (r ≡ slot_answer s (send_step s t c.name c k)) × (new ≡ buffer_content (send_step s t c.name c k).buffer old)

-- the connection in entry i of such a state, which is the winner of the tournament
pub record SendsFrom (t i : ℕ) (s : State) (c : Connection) : Type 0 where
  pub reached : WellFormed s
  pub timed : s.last ≡ t
  pub here : get_or s.entries i free ≡ taken c
  pub place : position (holds c.name) s.entries ≡ i
  pub leads : winner_word (winner_at s.entries levels 1) ≡ i + 1

-- a forward cell, or a turned or made one
pub record SendsKind (k : Kind) (t i : ℕ) (before after : List ℕ) (r : SlotAnswer) (old new : List ℕ) : Type 0 where
  pub sends : (s : State) (c : Connection) → SendsFrom t i s c → before ≡ words s → kind_at t c ≡ k → SlotLeaves k t s c after r old new

-- data, from what the first line shows of the connection; the buffer stays
pub record SendsData (t i : ℕ) (d : Connection) (before after : List ℕ) (r : SlotAnswer) : Type 0 where
  pub sends : (s : State) (c : Connection) → SendsFrom t i s c → before ≡ words s → kind_at t c ≡ Data → d ≡ first_line c → 0 < waiting c.queue → (old : List ℕ) → SlotLeaves Data t s c after r old old

-- a cell of any kind; it is data only where some waits
pub record Sends (t i : ℕ) (before after : List ℕ) (r : SlotAnswer) (old new : List ℕ) : Type 0 where
  pub sends :
      (s : State) (c : Connection) → SendsFrom t i s c → before ≡ words s → (kind_at t c ≡ Data → 0 < waiting c.queue) → SlotLeaves (kind_at t c) t s c after r old new
