-- What a call wrote may pass abr_limit: it is accepted, keeps all but ER and the CRC-10, and asks for no more than
-- before; a backward cell for no more than the rate. So a destination may lower ER of what its slot wrote. (Document
-- 02, L10; ATM Forum TM 4.0, behaviour of a destination.)
use Rattle.std.specs.Prelude.{ℕ, ◌≤◌, ◌≡◌, true, List}
use Rattle.rate.specs.Code.{rate_of}
use Rattle.cell.specs.Admitted.{Admitted}
use Rattle.cell.specs.Reading.{reading}
use Rattle.cell.specs.declared.fields.Fields.{Fields}
use Rattle.cell.specs.Read.{RmCell}
use Rattle.port.specs.Limit.{passed, limit}
use Rattle.port.specs.Limited.{fields_with_er, SameButEr}
use Rattle.model.specs.Call.{Call}
use Rattle.abr.specs.Exports.{Observation, Transcript, zeros}
use Rattle.promise_lists.specs.Demand3.{InPlace}
use Rattle.exports_cells.specs.Written.{wrote_cell}

-- what abr_limit returns and leaves of these octets
pub record AsksNoMore (rate : ℕ) (before : List ℕ) (returned : ℕ) (after : List ℕ) : Type 0 where
  pub accepted : returned ≡ 0
  pub admitted : Admitted after
  -- it was an RM cell with these fields, and is one with all of them but ER
  pub asked : Fields
  pub asks : reading before ≡ RmCell asked
  pub er : ℕ
  pub reads : reading after ≡ RmCell (fields_with_er er asked)
  pub octets : SameButEr before after
  pub lower : rate_of er ≤ rate_of asked.er
  pub limited : asked.dir ≡ 1 → rate_of er ≤ rate

-- of every cell that a call wrote, whatever the rate
pub record LimitsWritten (c : Call) (o : Observation) : Type 0 where
  pub is : wrote_cell c o.returned ≡ true → (rate n : ℕ) (after : List ℕ) → passed n after ≡ limit rate o.new → AsksNoMore rate o.new n after

-- in every list of exported calls from the zero table
abbrev pub WrittenLimited : Type 0
WrittenLimited = (cs : List Call) (os : List Observation) → Transcript cs zeros os → InPlace LimitsWritten cs os
