use Rattle.abr_readings.proofs.EntryCases.{read-nowhere, read-there}
use Rattle.abr.proofs.connections.abr_at.Goals as goal

pub limits_at-requires : goal.limits_at-requires
limits_at-requires c = c.in-Some.ensures.inside

pub read_entry-requires : goal.read_entry-requires
read_entry-requires c = c.in-Some.ensures.inside

pub returns-in-None : goal.returns-in-None
returns-in-None c = read-nowhere c.in-None.ensures.points c.not_open.ensures

pub returns-in-Some : goal.returns-in-Some
returns-in-Some c = read-there c.in-Some.ensures.points c.in-Some.ensures.inside c.limits_at.ensures c.read_entry.ensures
