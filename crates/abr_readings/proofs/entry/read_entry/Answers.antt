use Rattle.abr_readings.proofs.EntryCases.{change-in-range, entry-made}
use Rattle.abr_readings.proofs.entry.read_entry.Goals as goal

pub overflow_sub-result : goal.overflow_sub-result
overflow_sub-result c =
    let a = c.args in change-in-range a.t.now a.place a.limits

pub returns : goal.returns
returns c =
    let a = c.args in
    entry-made a.t.now a.place a.limits c.params_at-params.ensures c.high_shown-tag.ensures c.sent_shown.ensures c.sent_shown-2.ensures c.ready_shown.ensures
    c.instant_shown.ensures c.instant_shown-2.ensures c.high_shown.ensures c.high_shown-2.ensures
