-- A path with three members, computed.
use mathlib.Core.Path.{refl}
use Rattle.connection_members.specs.Members.{cells_where, without, with_member, with_cells, owner}
use Rattle.cell.specs.Turning.{turned_marks, turned_payload, turned_cell}
use Rattle.connection.specs.Destination.{after_data_cell, waiting_ci, mark_kept, after_forward_cell, made_left, sent_turned, backward_cell}
use Rattle.connection.specs.Slot.{buffer_sent}
use Rattle.model.specs.State.{entry_cells}
use Rattle.model.specs.Call.{closed_cells}
use Rattle.model.specs.Step.{refuse, discard, open_path_step, close_step, with_offer, without_one, add_step, of_member, offer_member_step, remove_step, data_cell_step}
use Rattle.model.specs.Run.{is_accepted}
use Rattle.model.specs.Conservation.{offered_to, closed_on, data_in, data_slot_of}
use Rattle.check_paths.specs.PathSlots.{PathSlots}
use Rattle.check_examples.proofs.Witness.{computing}

pub path-slots : PathSlots
unfolding computing cells_where without with_member with_cells owner turned_marks turned_payload turned_cell after_data_cell waiting_ci mark_kept after_forward_cell made_left sent_turned backward_cell buffer_sent entry_cells closed_cells refuse discard open_path_step close_step with_offer without_one add_step of_member offer_member_step remove_step data_cell_step is_accepted offered_to closed_on data_in data_slot_of
path-slots = record {
  forward = refl;
  lowest = refl;
  second = refl;
  third = refl;
  round = refl;
  passed_over = refl;
  alone = refl;
  goes = refl;
  removal = refl;
  goes_on = refl;
  closed = refl;
  begins_anew = refl;
  channel = refl;
  offered = refl;
  slots = refl;
  waiting = refl;
  discarded = refl;
  turned = refl;
  carries = refl;
}
