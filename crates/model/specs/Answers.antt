-- What the calls answer, as documents 01 and 02 describe it: the answers of calls that change the table, then those of
-- the readings. (Document 01, "Slots" and "Refused because of the state"; document 02, L4, L8, L9, L12 and L13.)
use Rattle.std.specs.Prelude.{ℕ, Bool}
use Rattle.connection.specs.declared.parts.Change.{Change}
use Rattle.connection.specs.declared.parts.Connection.{Connection}
use Rattle.connection.specs.declared.kind.Kind.{Kind}

-- A refusal has only its number. An accepted call says how many comparisons it made in the tournament. A close also
-- says how many data cells waited. A slot that sends also gives the connection that it goes to, the name that it
-- answers, the kind of cell, and the allowed rate afterwards. For a data cell of a path the name is the member's.
pub data Answer : Type 0 where
  Refused : (refusal : ℕ) → Answer
  Accepted : (comparisons : ℕ) → Answer
  Closed : (comparisons cells : ℕ) → Answer
  Idle : Answer
  Sent : (connection name : ℕ) → Kind → (acr comparisons : ℕ) → Answer

-- An open, a received cell and a slot, with what the documents do not ask for: the leaf of the connection, what was
-- received, and what was sent.
pub data OpenAnswer : Type 0 where
  OpenRefused : (refusal : ℕ) → OpenAnswer
  Opened : (comparisons leaf : ℕ) → OpenAnswer

-- The kind of a backward cell is that of the turned one that it was; acr is the allowed rate afterwards.
pub data ReceiveAnswer : Type 0 where
  ReceiveRefused : (refusal : ℕ) → ReceiveAnswer
  Received : (comparisons : ℕ) → Kind → (name leaf acr : ℕ) → ReceiveAnswer

-- A cell that the connection made itself has the kind of a turned one, and made says which it is.
pub data SlotAnswer : Type 0 where
  SlotRefused : (refusal : ℕ) → SlotAnswer
  IdleSlot : SlotAnswer
  SentCell : (name : ℕ) → Kind → (acr comparisons leaf acr_before : ℕ) → (made : Bool) → SlotAnswer

-- a connection's allowed rate, with those before and after the last backward cell
pub data Acr : Type 0 where
  NotOpen : Acr
  Rate : (acr : ℕ) → Change → Acr

-- the rate codes that a connection's open gave
pub data Contract : Type 0 where
  NoContract : Contract
  Codes : (pcr mcr icr : ℕ) → Contract

-- What a pair or a leaf stands for: an open connection, or a member with the connection of its path. What waits is
-- the pair's own. ready is the ready instant, 2^64 - 1 for never.
pub data Status : Type 0 where
  NothingOpen : Status
  Open : (name : ℕ) → (member : Bool) → (waiting leaf ready : ℕ) → Connection → Status

pub data MemberStatus : Type 0 where
  NoMember : MemberStatus
  AMember : (name waiting : ℕ) → MemberStatus
