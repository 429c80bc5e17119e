-- Sending out of rate, computed.
use mathlib.Core.Path.{refl}
use Rattle.connection.specs.Interval.{rested}
use Rattle.connection.specs.Source.{after_out_of_rate, out_of_rate_cell, forward_fields}
use Rattle.connection.specs.Slot.{buffer_sent}
use Rattle.connection_members.specs.Members.{without}
use Rattle.model.specs.Step.{refuse, discard, close_step, idle_step, send_out_of_rate, out_of_rate_step}
use Rattle.check_examples.specs.OutOfRateCalls.{OutOfRateCalls}
use Rattle.check_examples.proofs.Witness.{computing}

pub out-of-rate-calls : OutOfRateCalls
unfolding computing rested after_out_of_rate out_of_rate_cell forward_fields buffer_sent refuse discard without close_step idle_step send_out_of_rate out_of_rate_step
out-of-rate-calls = record {
  at_zero = (refl, refl);
  at_rate = (refl, refl);
  short = refl;
  late = refl;
  not_open = refl;
  soon = refl;
  rested = refl;
  reopened = refl;
  earlier = refl;
  short_late = refl;
  short_not_open = refl;
  short_earlier = refl;
  short_soon = refl;
  late_not_open = refl;
  late_soon = refl;
  not_open_earlier = refl;
  earlier_soon = refl;
  slot_earlier = refl;
  passed_over = refl;
  first_cell = refl;
  first_written = refl;
  goes_on = refl;
}
