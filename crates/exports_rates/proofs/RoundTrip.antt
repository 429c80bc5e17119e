-- What a caller records before feedback keeps to TBE.
use mathlib.Core.Path.{sym, ap, ◌∙◌}
use Rattle.model.specs.State.{empty}
use Rattle.model.specs.Step.{step}
use Rattle.model.specs.Run.{final}
use Rattle.abr.specs.Exports.{then}
use Rattle.abr.proofs.Exports.{exports-are-run}
use Rattle.promise_traces.specs.Traces.{trace_cells}
use Rattle.promise_traces.proofs.RoundTrip.{own-round-trip}
use Rattle.exports.specs.Returned.{no_member, members_seen}
use Rattle.exports.proofs.Returned.{knows_after}
use Rattle.exports.proofs.Recorded.{recorded-sent}
use Rattle.exports_rates.specs.RoundTrip.{RecordedTripBounded}
use Rattle.exports.proofs.Transport.{sees, stands, was-accepted}
use Rattle.exports.proofs.Known.{members-known}

pub recorded-trip-bounded : RecordedTripBounded
recorded-trip-bounded before after c v p os ps o rs k x (then q u) z r n earlier y later rest e =
    let w = sees (stands before os x) q in
    let s = (step (final empty before) c).state in
    let m = knows_after w.well_formed c (members_seen no_member before os) (members-known before os x) _ w.accepted in
    let sent = recorded-sent v after s w.next.well_formed _ m o.table w.next.table ps rs (exports-are-run.onward s w.next.well_formed after o.table ps u w.next.table).0 r in
    own-round-trip before c v p after k (was-accepted w z) n earlier y later rest (ap trace_cells (sym sent) ∙ e)
