-- What the cells in the lent buffer carry, for exported calls: their connection's address, and no reserved bit.
-- (Document 02, L6 and L7.)
use Rattle.std.specs.Prelude.{ℕ, ◌≡◌, true, List}
use Rattle.cell.specs.Name.{name_from}
use Rattle.model.specs.Call.{Call}
use Rattle.model.specs.Aspects.{Lent, for_slot, for_out_of_rate, not_lent, lent_of}
use Rattle.abr.specs.Exports.{Observation, Transcript, zeros}
use Rattle.promise_lists.specs.Demand3.{InPlace}
use Rattle.promise_cells.specs.ReservedBit.{TopBitsClear}
use Rattle.exports.specs.Known.{name_in}
use Rattle.exports_cells.specs.Written.{wrote_cell}
use Rattle.abr_answers.specs.Reply.{Reply}

-- The name that a call's cell is to carry: the pair that the slot returned, or the pair that an out-of-rate cell
-- was asked for. No other call writes.
abbrev pub name_for : Lent → Reply → ℕ
name_for (for_slot t) r = name_from r.vpi r.vci
name_for (for_out_of_rate v) r = v
name_for not_lent r = 0

abbrev pub name_due : Call → Reply → ℕ
name_due c r = name_for (lent_of c) r

abbrev pub CarriesDue : Call → Observation → Type 0
CarriesDue c o = wrote_cell c o.returned ≡ true → name_in o.new ≡ name_due c o.returned

-- in every list of exported calls from the zero table
abbrev pub ExportsCarryNames : Type 0
ExportsCarryNames = (cs : List Call) (os : List Observation) → Transcript cs zeros os → InPlace CarriesDue cs os

abbrev pub CarriesNoBit : Call → Observation → Type 0
CarriesNoBit c o = wrote_cell c o.returned ≡ true → TopBitsClear o.new

abbrev pub ExportsNoReservedBit : Type 0
ExportsNoReservedBit = (cs : List Call) (os : List Observation) → Transcript cs zeros os → InPlace CarriesNoBit cs os
