-- The comparisons of single calls, each computed.
use mathlib.Core.Path.{refl}
use Rattle.model.specs.State.{with_level}
use Rattle.model.specs.Tournament.{instant_winner, leaf_winner, first, winner_at, winner_word, ends, replayed_from, replayed}
use Rattle.model.specs.Call.{comparisons}
use Rattle.connection_members.specs.Members.{cells_where, without, with_member, with_cells, owner}
use Rattle.connection.specs.Destination.{after_data_cell}
use Rattle.model.specs.Step.{refuse, discard, open_path_step, close_step, with_offer, without_one, add_step, of_member, offer_member_step, remove_step, data_cell_step, level_step, idle_step}
use Rattle.check_counts.specs.Counts.{Counts}
use Rattle.check_examples.proofs.Witness.{computing}

pub counts : Counts
unfolding computing cells_where with_member with_cells owner after_data_cell open_path_step with_offer without_one add_step of_member offer_member_step remove_step data_cell_step with_level instant_winner leaf_winner first winner_at winner_word ends replayed_from replayed comparisons refuse discard without close_step level_step idle_step
counts = record {
  opened = refl;
  opened_beside = refl;
  nothing_offered = refl;
  only_ready = refl;
  winner_offered = refl;
  neighbour_loses = refl;
  lower_name_wins = refl;
  second_lost = refl;
  second_left = refl;
  winner_closed = refl;
  cell_sent = refl;
  idle_slot = refl;
  level_set = refl;
  not_open = refl;
  path_opened = refl;
  member_added = refl;
  member_offered = refl;
  member_removed = refl;
  idle_removed = refl;
  member_marked = refl;
}
