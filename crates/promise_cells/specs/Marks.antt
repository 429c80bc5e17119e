-- No CI is lost between a received forward cell and the next turned cell sent on its connection. (Document 01,
-- "Turning cells round"; document 02, L2 and L6.)
use Rattle.std.specs.Prelude.{ℕ, ◌≡◌, ◌≢◌, true, List, [], ◌∷◌}
use Rattle.cell.specs.Octets.{AreOctets}
use Rattle.cell.specs.Fields.{cell_name}
use Rattle.cell.specs.Reading.{reading}
use Rattle.cell.specs.declared.fields.Fields.{Fields}
use Rattle.cell.specs.Read.{RmCell}
use Rattle.connection.specs.declared.parts.Connection.{Connection}
use Rattle.connection.specs.declared.kind.Kind.TheVariants.{Turned}
use Rattle.connection.specs.Slot.{Buffer, written}
use Rattle.model.specs.State.{State, taken, empty, find}
use Rattle.model.specs.Answers.{Answer, Sent}
use Rattle.model.specs.Call.{Call, receiving, slot}
use Rattle.model.specs.Aspects.{Sort, opener, closer, arrival, slot_at, another, sort_of}
use Rattle.model.specs.Step.{step}
use Rattle.model.specs.Run.{final}

-- a forward cell is turned with CI 1: its own CI, the saved EFCI of the data cell before it, or level 2
pub data MarkCame (f : Fields) (c : Connection) (level : ℕ) : Type 0 where
  with_ci : f.ci ≡ 1 → MarkCame f c level
  with_efci : c.destination.efci ≡ true → MarkCame f c level
  at_level2 : level ≡ 2 → MarkCame f c level

-- a call that neither closes v nor sends a turned cell of it; a received cell consists of octets
abbrev pub QuietSort : ℕ → Answer → Sort → Type 0
QuietSort v a (opener u t p) = Unit
QuietSort v a (closer u) = u ≢ v
QuietSort v a (arrival o) = AreOctets o
QuietSort v a (slot_at t) = (x acr n : ℕ) → a ≢ Sent v x Turned acr n
QuietSort v a another = Unit

abbrev pub Quiet : ℕ → Call → Answer → Type 0
Quiet v c a = QuietSort v a (sort_of c)

abbrev pub AllQuiet : ℕ → State → List Call → Type 0
AllQuiet v s [] = Unit
AllQuiet v s (c ∷ cs) = Quiet v c (step s c).answer × AllQuiet v (step s c).state cs

-- what was written is read as a turned cell of v with CI 1: a made cell has BN 1
pub record MarkWritten (v : ℕ) (b : Buffer) : Type 0 where
  pub octets : List ℕ
  pub buffer : b ≡ written octets
  pub fields : Fields
  pub read : reading octets ≡ RmCell fields
  pub name : cell_name fields ≡ v
  pub backward : fields.dir ≡ 1
  pub turned : fields.bn ≡ 0
  pub ci : fields.ci ≡ 1

-- After any list of calls cs from the empty table comes a marked forward cell of an open connection. Then come any
-- calls ds that neither close it nor send a turned cell of it. Then a slot sends one.
abbrev pub NoMarkLost : Type 0
NoMarkLost =
    (cs : List Call) (o : List ℕ) (f : Fields) (c : Connection) (ds : List Call) (t room x acr n : ℕ) → AreOctets o → reading o ≡ RmCell f → f.dir ≡ 0
    → find (cell_name f) (final empty cs).entries ≡ taken c → MarkCame f c (final empty cs).level
    → let s = (step (final empty cs) (receiving o)).state in
    AllQuiet (cell_name f) s ds → (step (final s ds) (slot t room)).answer ≡ Sent (cell_name f) x Turned acr n → MarkWritten (cell_name f) (step (final s ds) (slot t room)).buffer
