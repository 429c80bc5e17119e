-- Calls on pairs, computed.
use mathlib.Core.Path.{refl}
use Rattle.cell.specs.Turning.{turned_marks, turned_payload, turned_cell}
use Rattle.connection.specs.Interval.{rested}
use Rattle.connection.specs.Source.{after_out_of_rate, forward_fields}
use Rattle.connection.specs.Destination.{with_made, made_fields, waiting_ci, mark_kept, after_forward_cell, made_left, sent_turned, backward_cell}
use Rattle.connection.specs.Slot.{buffer_sent}
use Rattle.model.specs.State.{with_level}
use Rattle.connection_members.specs.Members.{without}
use Rattle.model.specs.Step.{refuse, discard, close_step, level_step, make_step, send_out_of_rate, out_of_rate_step}
use Rattle.model.specs.Queries.{entry_acr, acr_of}
use Rattle.check_examples.specs.AddressCalls.{AddressCalls}
use Rattle.check_examples.proofs.Witness.{computing}

pub address-calls : AddressCalls
unfolding computing turned_marks turned_payload turned_cell rested with_made made_fields after_out_of_rate waiting_ci mark_kept after_forward_cell made_left sent_turned forward_fields backward_cell buffer_sent with_level refuse discard without close_step level_step make_step send_out_of_rate out_of_rate_step entry_acr acr_of
address-calls = record {
  reserved = refl;
  reserved_first = refl;
  vpi_over = refl;
  vci_over = refl;
  lowest = refl;
  greatest = refl;
  again = refl;
  beside = refl;
  other_vpi = refl;
  other_cell = refl;
  folded_open = refl;
  folded_close = refl;
  folded_offer = refl;
  folded_make = refl;
  folded_out_of_rate = refl;
  folded_acr = refl;
  closed = refl;
  offered = refl;
  made = refl;
  out_of_rate_plain = refl;
  lower_name = refl;
  forward = (refl, refl);
  turned = (refl, refl);
  made_sent = (refl, refl);
}
