use Rattle.abr_readings.proofs.LimitCases.{limits-are}
use Rattle.abr_readings.proofs.limits.limits_at.Goals as goal

pub returns : goal.returns
returns c =
    limits-are c.params_at-p.ensures c.part.ensures c.initial_of.ensures
