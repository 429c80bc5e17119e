-- No mark is invented. What a turned cell says of congestion was received, or set here, since the last turned cell
-- of its connection went. (Document 01, "Turning cells round"; document 02, L2 and L13.)
use Rattle.std.specs.Prelude.{ℕ, ◌≡◌, ◌≢◌, true, List, [], ◌∷◌, ◌++◌}
use Rattle.cell.specs.Name.{address_name}
use Rattle.cell.specs.Fields.{cell_name}
use Rattle.cell.specs.Reading.{reading}
use Rattle.cell.specs.declared.fields.Fields.{Fields}
use Rattle.cell.specs.Read.{Reading, Refused, DataCell, RmCell}
use Rattle.connection_members.specs.Members.{owner}
use Rattle.connection.specs.declared.kind.Kind.TheVariants.{Turned}
use Rattle.connection.specs.Slot.{written}
use Rattle.model.specs.State.{State, empty}
use Rattle.model.specs.Answers.{Answer, Sent}
use Rattle.model.specs.Call.{Call, receiving, slot}
use Rattle.model.specs.Aspects.{Sort, opener, closer, arrival, slot_at, another, sort_of}
use Rattle.model.specs.Step.{step}
use Rattle.model.specs.Run.{final, is_accepted}
use Rattle.laws.specs.All.{All}
use Rattle.promise_cells.specs.ReservedBit.{OfOctets}

-- what a connection keeps of congestion: the CI and the NI of the turned cell that waits, and the saved EFCI
pub data Mark : Type 0 where
  ci ni efci : Mark

-- A cell does not end the mark of v. The saved EFCI ends with the next data cell and with a forward cell, NI with
-- a forward cell. CI goes on to the cell that replaces (L2).
abbrev pub SparedByData : Mark → (v owner : ℕ) → Type 0
SparedByData ci v u = Unit
SparedByData ni v u = Unit
SparedByData efci v u = u ≢ v

abbrev pub SparedByForward : Mark → (v : ℕ) → Fields → Type 0
SparedByForward ci v f = Unit
SparedByForward ni v f = f.dir ≡ 0 → cell_name f ≢ v
SparedByForward efci v f = f.dir ≡ 0 → cell_name f ≢ v

abbrev pub SparedByCell : Mark → (v : ℕ) → State → Reading → Type 0
SparedByCell m v s (Refused n) = Unit
SparedByCell m v s (DataCell vpi vci e) = SparedByData m v (owner (address_name vpi vci) s.members)
SparedByCell m v s (RmCell f) = SparedByForward m v f

-- a slot that sends a turned cell of v ends the two that it carries
abbrev pub SparedBySlot : Mark → (v : ℕ) → Answer → Type 0
SparedBySlot ci v a = (x acr n : ℕ) → a ≢ Sent v x Turned acr n
SparedBySlot ni v a = (x acr n : ℕ) → a ≢ Sent v x Turned acr n
SparedBySlot efci v a = Unit

-- and a close ends all; no other call does
abbrev pub SparedBySort : Mark → (v : ℕ) → State → Answer → Sort → Type 0
SparedBySort m v s a (opener u t p) = Unit
SparedBySort m v s a (closer u) = u ≢ v
SparedBySort m v s a (arrival o) = SparedByCell m v s (reading o)
SparedBySort m v s a (slot_at t) = SparedBySlot m v a
SparedBySort m v s a another = Unit

abbrev pub Spared : Mark → (v : ℕ) → State → Call → Answer → Type 0
Spared m v s c a = SparedBySort m v s a (sort_of c)

-- no accepted call of the list ends it
abbrev pub AllSpared : Mark → (v : ℕ) → State → List Call → Type 0
AllSpared m v s [] = Unit
AllSpared m v s (c ∷ cs) = (is_accepted (step s c).answer ≡ true → Spared m v s c (step s c).answer) × AllSpared m v (step s c).state cs

-- a call of the list took a cell in that brought the mark, and no call since ended it
pub record MarkBrought (Brings : List Call → List ℕ → Type 0) (m : Mark) (v : ℕ) (cs : List Call) : Type 0 where
  pub before : List Call
  pub octets : List ℕ
  pub since : List Call
  pub splits : cs ≡ before ++ (receiving octets ∷ since)
  pub accepted : is_accepted (step (final empty before) (receiving octets)).answer ≡ true
  pub brought : Brings before octets
  pub spared : AllSpared m v (step (final empty before) (receiving octets)).state since

-- a data cell of v, or of one of its members, with EFCI 1
pub record BringsEfci (v : ℕ) (before : List Call) (o : List ℕ) : Type 0 where
  pub vpi : ℕ
  pub vci : ℕ
  pub read : reading o ≡ DataCell vpi vci true
  pub owned : owner (address_name vpi vci) (final empty before).members ≡ v

-- its last data cell had EFCI 1, and no forward cell came since
abbrev pub EfciCame : (v : ℕ) → List Call → Type 0
EfciCame v cs = MarkBrought (BringsEfci v) efci v cs

-- why a forward cell is turned with CI 1, or with NI 1
pub data SetsCi (v : ℕ) (before : List Call) (f : Fields) : Type 0 where
  with_ci : f.ci ≡ 1 → SetsCi v before f
  with_efci : EfciCame v before → SetsCi v before f
  at_level2 : (final empty before).level ≡ 2 → SetsCi v before f

pub data SetsNi (v : ℕ) (before : List Call) (f : Fields) : Type 0 where
  with_ni : f.ni ≡ 1 → SetsNi v before f
  at_level1 : (final empty before).level ≡ 1 → SetsNi v before f

-- a forward cell of v with such a reason
pub record Brings (Sets : (v : ℕ) → List Call → Fields → Type 0) (v : ℕ) (before : List Call) (o : List ℕ) : Type 0 where
  pub fields : Fields
  pub read : reading o ≡ RmCell fields
  pub forward : fields.dir ≡ 0
  pub name : cell_name fields ≡ v
  pub sets : Sets v before fields

abbrev pub CiCame : (v : ℕ) → List Call → Type 0
CiCame v cs = MarkBrought (Brings SetsCi v) ci v cs

abbrev pub NiCame : (v : ℕ) → List Call → Type 0
NiCame v cs = MarkBrought (Brings SetsNi v) ni v cs

-- After any list of calls from the empty table, in a turned cell that a slot sends: a made one has BN 1.
abbrev pub NoMarkInvented : Type 0
NoMarkInvented =
    (cs : List Call) (v t room x acr n : ℕ) (o : List ℕ) (f : Fields) → All OfOctets cs → (step (final empty cs) (slot t room)).answer ≡ Sent v x Turned acr n
    → (step (final empty cs) (slot t room)).buffer ≡ written o → reading o ≡ RmCell f → f.bn ≡ 0 → (f.ci ≡ 1 → CiCame v cs) × (f.ni ≡ 1 → NiCame v cs)
