-- Making a backward cell, computed.
use mathlib.Core.Path.{refl}
use Rattle.cell.specs.Turning.{turned_marks, turned_payload, turned_cell}
use Rattle.connection.specs.Interval.{rested}
use Rattle.connection.specs.Destination.{with_made, made_fields, waiting_ci, mark_kept, after_forward_cell, made_left, sent_turned, backward_cell}
use Rattle.connection.specs.Slot.{buffer_sent}
use Rattle.model.specs.State.{with_level}
use Rattle.model.specs.Step.{refuse, level_step, make_step}
use Rattle.check_examples.specs.Makings.{Makings}
use Rattle.check_examples.proofs.Witness.{computing}

pub makings : Makings
unfolding computing turned_marks turned_payload turned_cell rested with_made made_fields after_forward_cell waiting_ci mark_kept made_left sent_turned backward_cell buffer_sent with_level refuse level_step make_step
makings = record {
  not_open = refl;
  uncongested = refl;
  congested = refl;
  earlier = refl;
  soon = refl;
  rested = refl;
  late_not_open = refl;
  not_open_earlier = refl;
  earlier_uncongested = refl;
  uncongested_soon = refl;
  slot_earlier = refl;
  first_cell = refl;
  turned_first = (refl, refl);
  made_next = (refl, refl);
  made_at_level2 = refl;
}
