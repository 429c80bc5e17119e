-- A slot sends only what there is: a turned cell if a turned or made one waits, data if data
-- waits. (Document 01, "Slots".)
use Rattle.std.specs.Prelude.{ℕ, ◌<◌, ◌≡◌, true, List}
use Rattle.connection.specs.declared.parts.Connection.{Connection}
use Rattle.connection.specs.declared.kind.Kind.{Kind}
use Rattle.connection.specs.declared.kind.Kind.TheVariants.{Forward, Turned, Data}
use Rattle.connection.specs.Parts.{waiting}
use Rattle.connection.specs.Ready.{backward_waits}
use Rattle.model.specs.State.{taken, empty, find}
use Rattle.model.specs.Answers.{Sent}
use Rattle.model.specs.Call.{Call, slot}
use Rattle.model.specs.Step.{step}
use Rattle.model.specs.Run.{final}

abbrev pub Waited : Kind → Connection → Type 0
Waited Forward c = Unit
Waited Turned c = backward_waits c.destination ≡ true
Waited Data c = 0 < waiting c.queue

-- after any list of calls from the empty table
abbrev pub SentWaited : Type 0
SentWaited =
    (cs : List Call) (t room v x acr n : ℕ) (k : Kind) (c : Connection) → find v (final empty cs).entries ≡ taken c
    → (step (final empty cs) (slot t room)).answer ≡ Sent v x k acr n → Waited k c
