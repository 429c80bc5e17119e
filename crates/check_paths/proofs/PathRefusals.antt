-- The refusals of the calls on paths and members, computed.
use mathlib.Core.Path.{refl}
use Rattle.connection_members.specs.Members.{cells_where, without, with_member, with_cells, owner}
use Rattle.cell.specs.Turning.{turned_marks, turned_payload, turned_cell}
use Rattle.connection.specs.Interval.{rested}
use Rattle.connection.specs.Source.{after_out_of_rate}
use Rattle.connection.specs.Destination.{with_made, after_data_cell, waiting_ci, mark_kept, after_forward_cell}
use Rattle.model.specs.State.{with_level}
use Rattle.model.specs.Step.{refuse, discard, open_path_step, close_step, with_offer, without_one, add_step, of_member, offer_member_step, remove_step, data_cell_step, level_step, make_step, send_out_of_rate, out_of_rate_step}
use Rattle.model.specs.Queries.{entry_acr, acr_of}
use Rattle.check_paths.specs.PathRefusals.{PathRefusals}
use Rattle.check_examples.proofs.Witness.{computing}

pub path-refusals : PathRefusals
unfolding computing cells_where without with_member with_cells owner turned_marks turned_payload turned_cell rested with_made after_out_of_rate after_data_cell waiting_ci mark_kept after_forward_cell with_level refuse discard open_path_step close_step with_offer without_one add_step of_member offer_member_step remove_step data_cell_step level_step make_step send_out_of_rate out_of_rate_step entry_acr acr_of
path-refusals = record {
  opens = refl;
  reserved_bit = refl;
  vpi_over = refl;
  late = refl;
  again = refl;
  earlier = refl;
  not_on_six = refl;
  late_on_member = refl;
  on_member = refl;
  on_channel = refl;
  low = refl;
  no_path = refl;
  channel_without_path = refl;
  added_vpi_over = refl;
  added_vci_over = refl;
  channel = refl;
  twice = refl;
  added = refl;
  offer_no_path = refl;
  offer_vpi_over = refl;
  offer_vci_over_no_path = refl;
  offer_vci_over = refl;
  offer_no_member = refl;
  offer_on_six = refl;
  overfull = refl;
  beside = refl;
  remove_no_path = refl;
  remove_vpi_over = refl;
  remove_vci_over_no_path = refl;
  remove_vci_over = refl;
  remove_no_member = refl;
  removed = refl;
  plain_offer = refl;
  plain_close = refl;
  plain_make = refl;
  plain_out_of_rate = refl;
  plain_acr = refl;
  own_offer = refl;
  own_make = refl;
  own_out_of_rate = refl;
  own_close = refl;
  member_rm = refl;
  path_data = refl;
  member_data = refl;
  path_rm = refl;
}
