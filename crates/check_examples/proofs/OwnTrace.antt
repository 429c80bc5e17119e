-- The trace, computed.
use mathlib.Core.Path.{refl}
use Rattle.trace.specs.Numbers.{read_on, written, written_all}
use Rattle.trace_judge.specs.Rules.{with_sent, too_soon, broken_rule, judged_from}
use Rattle.trace_judge.specs.Octets.{ranged, rate_read, kind_read, since_read, most_since, prepended, record_then, cells_parsed, verdict_of, trm_read, n_read}
use Rattle.connection.specs.Interval.{rested}
use Rattle.connection.specs.Source.{after_out_of_rate}
use Rattle.connection.specs.Destination.{with_made, made_left, sent_turned}
use Rattle.model.specs.State.{with_level}
use Rattle.model.specs.Step.{refuse, discard, close_step, level_step, idle_step, make_step, send_out_of_rate, out_of_rate_step}
use Rattle.model.specs.Queries.{entry_acr, acr_of}
use Rattle.model.specs.Run.{is_accepted}
use Rattle.promise_traces.specs.InRate.{acr_in, cell_in, at_slot, sent_by, closes_connection, sent_from}
use Rattle.promise_traces.specs.Written.{cell_numbers}
use Rattle.promise_traces.specs.Traces.{later_cells, trace_cells}
use Rattle.check_examples.specs.OwnTrace.{OwnTrace}
use Rattle.check_examples.proofs.Witness.{computing}

pub own-trace : OwnTrace
unfolding computing read_on written written_all with_sent too_soon broken_rule judged_from ranged rate_read kind_read since_read most_since prepended record_then cells_parsed verdict_of trm_read n_read rested with_made after_out_of_rate made_left sent_turned with_level refuse discard close_step level_step idle_step make_step send_out_of_rate out_of_rate_step entry_acr acr_of is_accepted acr_in cell_in at_slot sent_by closes_connection sent_from cell_numbers later_cells trace_cells
own-trace = record {
  opens = refl;
  cells = refl;
  octets = refl;
  passes = refl;
  zero_cells = refl;
  zero_passes = refl;
  data_first = refl;
  not_heeded = refl;
  trm_missed = refl;
  forward_again = refl;
}
