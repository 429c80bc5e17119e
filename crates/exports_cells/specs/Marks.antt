-- Exported calls lose no mark between a received forward cell and the next turned cell sent on its connection, and
-- they invent none. The cell, the level that the caller set and the data cells before the cell tell a caller
-- whether a mark came. (Document 01, "Turning cells round"; document 02, L2 and L6.)
use Rattle.std.specs.Prelude.{ℕ, ◌≡◌, ◌≢◌, true, List, ◌∷◌, ◌++◌}
use Rattle.cell.specs.Name.{name_from}
use Rattle.cell.specs.Fields.{cell_name}
use Rattle.cell.specs.Reading.{reading}
use Rattle.cell.specs.declared.fields.Fields.{Fields}
use Rattle.cell.specs.Read.{RmCell}
use Rattle.model.specs.Call.{Call, receiving, slot}
use Rattle.model.specs.Aspects.{Sort, opener, closer, arrival, slot_at, another, sort_of}
use Rattle.abr.specs.Exports.{Observation, Performs, Transcript, final_words, zeros}
use Rattle.promise_lists.specs.Demand3.{InPlace}
use Rattle.exports.specs.Along.{kept}
use Rattle.exports_cells.specs.Heard.{Heard, hears, nothing_heard}

-- a forward cell is turned with CI 1: its own CI, the saved EFCI of the data cell before it, or level 2
pub data MarkHeard (f : Fields) (k : Heard) : Type 0 where
  with_ci : f.ci ≡ 1 → MarkHeard f k
  with_efci : k.receiver.efci ≡ true → MarkHeard f k
  at_level2 : k.level ≡ 2 → MarkHeard f k

-- a call that neither closes v nor returns a turned cell of it, kind 2
abbrev pub QuietReturned : ℕ → Observation → Sort → Type 0
QuietReturned v o (opener u t p) = Unit
QuietReturned v o (closer u) = u ≢ v
QuietReturned v o (arrival q) = Unit
QuietReturned v o (slot_at t) = o.returned.kind ≡ 2 → name_from o.returned.vpi o.returned.vci ≢ v
QuietReturned v o another = Unit

abbrev pub QuietSeen : ℕ → Call → Observation → Type 0
QuietSeen v c o = QuietReturned v o (sort_of c)

-- the octets are read as a turned cell of v with CI 1: a made cell has BN 1
pub record MarkIn (v : ℕ) (octets : List ℕ) : Type 0 where
  pub fields : Fields
  pub read : reading octets ≡ RmCell fields
  pub name : cell_name fields ≡ v
  pub backward : fields.dir ≡ 1
  pub turned : fields.bn ≡ 0
  pub ci : fields.ci ≡ 1

-- After any exported calls a marked forward cell is taken in. Then come any calls that neither close its
-- connection nor return a turned cell of it. Then a slot returns one.
abbrev pub ExportsNoMarkLost : Type 0
ExportsNoMarkLost =
    (cs ds : List Call) (os ps : List Observation) (octets : List ℕ) (f : Fields) (o p : Observation) (t room : ℕ) → Transcript cs zeros os → Performs (receiving octets) (final_words zeros os) o
    → Transcript ds o.table ps → Performs (slot t room) (final_words o.table ps) p → reading octets ≡ RmCell f → f.dir ≡ 0 → o.returned.refusal ≡ 0
    → MarkHeard f (kept (hears (cell_name f)) nothing_heard cs os) → InPlace (QuietSeen (cell_name f)) ds ps
    → p.returned.kind ≡ 2 → name_from p.returned.vpi p.returned.vci ≡ cell_name f → MarkIn (cell_name f) p.new

-- a forward cell is turned with NI 1: its own NI, or level 1
pub data NiHeard (f : Fields) (k : Heard) : Type 0 where
  with_ni : f.ni ≡ 1 → NiHeard f k
  at_level1 : k.level ≡ 1 → NiHeard f k

-- a quiet call by which no forward cell of v is taken in: NI of a replaced cell is not kept
pub record QuietLast (v : ℕ) (c : Call) (o : Observation) : Type 0 where
  pub quiet : QuietSeen v c o
  pub no_forward : (octets : List ℕ) (f : Fields) → c ≡ receiving octets → reading octets ≡ RmCell f → cell_name f ≡ v → f.dir ≡ 0 → o.returned.refusal ≢ 0

-- one of these calls took in a forward cell of v with a `Mark`, by what was known before it;
-- every call after it is a `Since`
pub record TakenInWithMark (Mark : Fields → Heard → Type 0) (Since : Call → Observation → Type 0) (v : ℕ) (first : Heard) (cs : List Call) (os : List Observation) : Type 0 where
  pub before : List Call
  pub octets : List ℕ
  pub since : List Call
  pub calls : cs ≡ before ++ (receiving octets ∷ since)
  pub seen : List Observation
  pub taken : Observation
  pub seen_since : List Observation
  pub observed : os ≡ seen ++ (taken ∷ seen_since)
  pub accepted : taken.returned.refusal ≡ 0
  pub fields : Fields
  pub read : reading octets ≡ RmCell fields
  pub name : cell_name fields ≡ v
  pub forward : fields.dir ≡ 0
  pub mark : Mark fields (kept (hears v) first before seen)
  pub quiet : InPlace Since since seen_since

-- after any exported calls from the zero table, a slot that returns kind 2 and writes a
-- turned cell (a made one has BN 1)
pub record ExportsNoMarkInvented : Type 0 where
  pub ci :
      (cs : List Call) (os : List Observation) → Transcript cs zeros os → (t room : ℕ) (o : Observation) → Performs (slot t room) (final_words zeros os) o → o.returned.kind ≡ 2
      → (f : Fields) → reading o.new ≡ RmCell f → f.bn ≡ 0 → f.ci ≡ 1
      → let v = name_from o.returned.vpi o.returned.vci in TakenInWithMark MarkHeard (QuietSeen v) v nothing_heard cs os
  pub ni :
      (cs : List Call) (os : List Observation) → Transcript cs zeros os → (t room : ℕ) (o : Observation) → Performs (slot t room) (final_words zeros os) o → o.returned.kind ≡ 2
      → (f : Fields) → reading o.new ≡ RmCell f → f.bn ≡ 0 → f.ni ≡ 1
      → let v = name_from o.returned.vpi o.returned.vci in TakenInWithMark NiHeard (QuietLast v) v nothing_heard cs os
