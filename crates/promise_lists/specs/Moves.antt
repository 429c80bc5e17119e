-- Only four moves change an allowed rate. A connection's own forward cells make the first three, its own backward
-- cells the fourth. (Document 01, "Four moves of the allowed rate".)
use Rattle.std.specs.Prelude.{ℕ, ◌-◌, ◌≡◌, Bool, List, eqb}
use Rattle.rate_moves.specs.declared.moves.Rate.{Rate}
use Rattle.rate.specs.Code.{rate_of}
use Rattle.rate_moves.specs.Moves.{first_cell, idle, unanswered, feedback}
use Rattle.cell.specs.declared.fields.Fields.{Fields}
use Rattle.cell.specs.Read.{RmCell}
use Rattle.cell.specs.Fields.{cell_name}
use Rattle.cell.specs.Reading.{reading}
use Rattle.connection.specs.declared.parts.Connection.{Connection}
use Rattle.connection.specs.declared.parts.Pace.TheVariants.{Unsent, Running}
use Rattle.connection.specs.declared.kind.Kind.TheVariants.{Forward}
use Rattle.model.specs.State.{taken, empty, find}
use Rattle.model.specs.Answers.{Answer, Accepted, Sent}
use Rattle.model.specs.Call.{Call, receiving, slot}
use Rattle.model.specs.Step.{step}
use Rattle.model.specs.Run.{final}

-- what a call with this answer may make of the rate record of the connection v, which is d before it
pub data Moves (v : ℕ) (d : Connection) : Call → Answer → Rate → Type 0 where
  stays : {c : Call} {a : Answer} → Moves v d c a d.rate
  first : {t room acr n : ℕ} → d.pace ≡ Unsent → Moves v d (slot t room) (Sent v v Forward acr n) (first_cell d.rate)
  later :
      {t room acr n sent forward k : ℕ} {turned : Bool} → d.pace ≡ Running sent forward k turned
      → Moves v d (slot t room) (Sent v v Forward acr n) (unanswered d.unanswered (idle (t - forward) d.rate))
  fed :
      {o : List ℕ} {n : ℕ} (f : Fields) → reading o ≡ RmCell f → cell_name f ≡ v → f.dir ≡ 1
      → Moves v d (receiving o) (Accepted n) (feedback (eqb f.ci 1) (eqb f.ni 1) (rate_of f.er) d.rate)

-- after any list of calls from the empty table, of a connection that is open before and after the next call
abbrev pub FourMoves : Type 0
FourMoves =
    (cs : List Call) (c : Call) (v : ℕ) (d e : Connection) → find v (final empty cs).entries ≡ taken d → find v (step (final empty cs) c).state.entries ≡ taken e
    → Moves v d c (step (final empty cs) c).answer e.rate
