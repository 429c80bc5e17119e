-- The exported calls in a row make a transcript, from the words at entry to the words at exit.
use Rattle.std.specs.Prelude.{ℕ, ◌≡◌, List, [], ◌∷◌, length}
use Rattle.cell.specs.Name.{address_name}
use Rattle.model.specs.Call.{Call, opening, closing, receiving, offering, levelling, slot, making, out_of_rate}
use Rattle.table_tournament.specs.Next.{GivesNext, GivesSlotTime}
use Rattle.abr_answers.specs.declared.calls.AbrAllowed.{AbrAllowed}
use Rattle.abr.specs.Contract.{ReturnsAllowed}
use Rattle.abr.specs.Exports.{Observation, Transcript}
use Rattle.abr_composed.specs.declared.Arguments.{Arguments}

-- The slot is passed the time that was asked for. It finds the lent buffer as it is at entry. The out-of-rate cell
-- finds it as the slot leaves it.
abbrev pub each_calls : Arguments → (passed : ℕ) (received old between : List ℕ) → List Call
each_calls a passed received old between =
    opening a.vpi a.vci a.time a.params ∷ offering a.vpi a.vci a.cells ∷ levelling a.level ∷ receiving received ∷ slot passed (length old)
    ∷ out_of_rate a.vpi a.vci a.time (length between) ∷ making a.vpi a.vci a.time ∷ closing a.vpi a.vci ∷ []

-- What was observed of each call on the way. The next ready instant and the slot's time are asked for before the
-- slot. The ACR is read before the close.
pub record EachCall (a : Arguments) (received before after : List ℕ) (r : AbrAllowed) (old new : List ℕ) : Type 0 where
  pub opened : Observation
  pub offered : Observation
  pub levelled : Observation
  pub taken : Observation
  pub sent : Observation
  pub left : Observation
  pub made : Observation
  pub closed : Observation
  pub next : ℕ
  pub asked : GivesNext taken.table next
  pub passed : ℕ
  pub timed : GivesSlotTime taken.table a.time a.lag passed
  pub rate : ReturnsAllowed (address_name a.vpi a.vci) made.table r
  pub table : closed.table ≡ after
  pub buffer : left.new ≡ new
  pub transcript : Transcript (each_calls a passed received old sent.new) before (opened ∷ offered ∷ levelled ∷ taken ∷ sent ∷ left ∷ made ∷ closed ∷ [])
