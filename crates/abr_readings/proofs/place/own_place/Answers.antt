use Rattle.abr_readings.proofs.PlaceCases.{own_is}
use Rattle.abr_readings.proofs.place.own_place.Goals as goal

pub returns : goal.returns
returns c = let a = c.args in own_is a.t.now a.i a.name c.kind_shown.ensures
