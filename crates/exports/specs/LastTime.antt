-- The last accepted time as a caller knows it: that of the last open, slot, making or out-of-rate cell that
-- returned 0. An idle slot counts too. Before the first it is 0.
-- (Document 01, "Refused because of the state", 14; document 02, L1, L5 and L13.)
use Rattle.std.specs.Prelude.{ℕ, cond, List, eqb}
use Rattle.model.specs.Call.{Call}
use Rattle.model.specs.Times.{time_after}
use Rattle.abr.specs.Exports.{Observation}
use Rattle.exports.specs.Along.{kept}

abbrev pub time_noted : Call → Observation → ℕ → ℕ
time_noted c o last = cond (eqb o.returned.refusal 0) (time_after c last) last

abbrev pub last_time : List Call → List Observation → ℕ
last_time cs os = kept time_noted 0 cs os
