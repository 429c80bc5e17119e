-- CRM and the initial rate used, of parameters that an open takes.
use Rattle.std.specs.Prelude.{◌≡◌, ◌<◌, ◌≤◌}
use Rattle.rate_params.specs.declared.params.Params.{Params}
use Rattle.rate_params.specs.Params.{least, initial, initial_used, crm}
use Rattle.abr_readings.specs.declared.limits.Limits.{Limits}

pub record LimitsOf (p : Params) (g : Limits) : Type 0 where
  pub most : 0 < p.tbe → p.n < 32 → g.crm ≡ crm p
  pub used : least p ≤ initial p → g.icr ≡ initial_used p
