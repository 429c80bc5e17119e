-- Each exported call is refused in the order that the documents give.
-- (Document 01, "Refused because of the input" and "Refused because of the state"; document 02, each request.)
-- The conditions are those of the definitions, on the state whose words the calls before left (`last` of
-- ExportsAreRun). exports_orders says each of them of what a caller knows from the calls and what they returned. It
-- says those of reading a cell of the cell's octets.
use Rattle.std.specs.Prelude.{ℕ, cond, List, eqb}
use Rattle.std.proofs.Math.Option.{Option, none, some}
use Rattle.model.specs.State.{empty}
use Rattle.model.specs.Call.{Call}
use Rattle.model.specs.Run.{final}
use Rattle.model.specs.Orders.{OrderOf}
use Rattle.abr.specs.Exports.{Observation, Performs, Transcript, final_words, zeros}
use Rattle.abr_answers.specs.Reply.{Reply}

-- 0 is no refusal
abbrev pub refusal_returned : Reply → Option ℕ
refusal_returned r = cond (eqb r.refusal 0) none (some r.refusal)

-- after any exported calls from the zero table, and one call more
abbrev pub ExportsInOrder : Type 0
ExportsInOrder =
    (cs : List Call) (os : List Observation) → Transcript cs zeros os → (c : Call) (o : Observation) → Performs c (final_words zeros os) o
    → OrderOf (final empty cs) c (refusal_returned o.returned)
