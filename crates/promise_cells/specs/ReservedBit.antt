-- No rate code that a call writes has its reserved bit set. (Document 02, L7.)
use Rattle.std.specs.Prelude.{ℕ, ◌<◌, ◌≡◌, true, List}
use Rattle.cell.specs.declared.fields.Fields.{Fields}
use Rattle.cell.specs.Octets.{octet, AreOctets}
use Rattle.cell.specs.Fields.{fields_fit, rm_cell}
use Rattle.connection.specs.Slot.{Buffer, untouched, written}
use Rattle.model.specs.State.{empty}
use Rattle.model.specs.Call.{Call}
use Rattle.model.specs.Aspects.{Sort, opener, closer, arrival, slot_at, another, sort_of}
use Rattle.model.specs.Step.{step}
use Rattle.model.specs.Run.{final}
use Rattle.laws.specs.All.{All}

-- bit 15 of ER, CCR and MCR is the top bit of octets 8, 10 and 12
abbrev pub TopBitsClear : List ℕ → Type 0
TopBitsClear o = (octet 8 o < 128) × (octet 10 o < 128) × (octet 12 o < 128)

-- what holds of the cell that a call wrote, if it wrote one
abbrev pub WrittenAs : (List ℕ → Type 0) → Buffer → Type 0
WrittenAs P untouched = Unit
WrittenAs P (written o) = P o

abbrev pub WrittenClear : Buffer → Type 0
WrittenClear b = WrittenAs TopBitsClear b

-- a received cell consists of octets, which C's type ensures
abbrev pub OctetsIn : Sort → Type 0
OctetsIn (opener v t p) = Unit
OctetsIn (closer v) = Unit
OctetsIn (arrival o) = AreOctets o
OctetsIn (slot_at t) = Unit
OctetsIn another = Unit

abbrev pub OfOctets : Call → Type 0
OfOctets c = OctetsIn (sort_of c)

-- after any list of calls from the empty table, whatever the next call is; and in every cell
-- that is written from its fields
pub record NoReservedBit : Type 0 where
  pub calls : (cs : List Call) → All OfOctets cs → (c : Call) → WrittenClear (step (final empty cs) c).buffer
  pub writes : (f : Fields) → fields_fit f ≡ true → TopBitsClear (rm_cell 0 f)
