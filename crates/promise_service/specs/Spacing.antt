-- No cell comes early. A slot goes to a connection only when a gap at its allowed rate has passed since its last
-- cell. (Document 01, "Slots".)
use Rattle.std.specs.Prelude.{ℕ, ◌+◌, ◌≤◌, ◌≡◌, List}
use Rattle.std.proofs.Math.Option.{some}
use Rattle.rate.specs.Gap.{gap}
use Rattle.connection.specs.declared.parts.Connection.{Connection}
use Rattle.connection.specs.declared.parts.Pace.{Pace}
use Rattle.connection.specs.declared.parts.Pace.TheVariants.{Unsent, Running}
use Rattle.model.specs.State.{taken, empty, find}
use Rattle.model.specs.Call.{Call, slot, goes_to}
use Rattle.model.specs.Step.{step}
use Rattle.model.specs.Run.{final}

-- before the first cell, not before the opening time
abbrev pub NotEarly : (t : ℕ) → Connection → Pace → Type 0
NotEarly t c Unsent = c.opened ≤ t
NotEarly t c (Running sent forward k turned) = sent + gap c.rate.acr ≤ t

-- after any list of calls from the empty table
abbrev pub Spacing : Type 0
Spacing =
    (cs : List Call) (t room v : ℕ) (c : Connection) → find v (final empty cs).entries ≡ taken c
    → goes_to (step (final empty cs) (slot t room)).answer ≡ some v → NotEarly t c c.pace
