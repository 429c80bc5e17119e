-- The examples compute.
use mathlib.Core.Path.{refl}
use Rattle.rate.specs.Gap.{gap}
use Rattle.rate_params.specs.Params.{within, trm_times, trm_time}
use Rattle.trace.specs.Numbers.{read_on, written, written_all}
use Rattle.trace_judge.specs.Rules.{with_sent, too_soon, broken_rule, judged_from}
use Rattle.trace_judge.specs.Octets.{ranged, rate_read, kind_read, since_read, most_since, prepended, record_then, cells_parsed, verdict_of, trm_read, n_read}
use Rattle.trace_judge.specs.Examples.{Ends, Forms, Ranges, Order, Sooner, Due}

-- every definition that they use
computing : Unit {0}
unfolding gap within trm_times trm_time read_on written written_all with_sent too_soon broken_rule judged_from ranged rate_read kind_read since_read most_since prepended record_then cells_parsed verdict_of trm_read n_read
computing = tt

pub ends : Ends
unfolding computing
ends = record { is_24 = refl; empty = refl; n_alone = refl; no_cell = refl; no_kind = refl; no_rate = refl; one_cell = refl; in_number = refl; before_tenth = refl }

pub forms : Forms
unfolding computing
forms = record { is_23 = refl; long = refl; long_zero = refl; tenth_zero = refl; over = refl; more = refl; widest = refl }

pub ranges : Ranges
unfolding computing
ranges = record { is_25 = refl; n_low = refl; n_high = refl; trm_high = refl; first_time = refl; kind_low = refl; kind_high = refl; rate_most = refl; rate_high = refl; time_most = refl; time_high = refl }

pub order : Order
unfolding computing
order = record { broken_then_cut = refl; broken_then_long = refl; broken_then_high = refl }

pub sooner : Sooner
unfolding computing
sooner = record { data_first = refl; backward_first = refl; at_gap = refl; before_gap = refl; at_rounded = refl; before_rounded = refl; first_at_zero = refl; later_at_zero = refl; lowest = refl; first = refl }

pub due : Due
unfolding computing
due = record { second = refl; missed = refl; early = refl; at_trm = refl; after_trm = refl; before_trm = refl; one_since = refl }
