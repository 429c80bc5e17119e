-- The two lists of the witness, computed.
use Prim.Native.Nat.{ℕ}
use mathlib.Core.Path.{◌≡◌, refl, sym, ◌∙◌}
use mathlib.Core.List.{List}
use mathlib.Core.Option.{Option, none, some}
use lib.ListN.{take}
use lib.Dec.{lit≤}
use Rattle.rate.specs.Code.{reserved_clear, codes_clear, rate_of, code_below, code_of}
use Rattle.rate_params.specs.Params.{within, rates_fit, codes_fit, numbers_fit, params_fit, tbe_fits, frtt_fits, initial_used, crm, trm_times, trm_time}
use Rattle.rate.specs.Gap.{gap}
use Rattle.rate_moves.specs.Moves.{first_cell, idle, reduced_by, unanswered, rate_by_marks, feedback, mark_level}
use Rattle.cell_crc.specs.Remainder.{bring, divide, remainder, bits, octet_bits}
use Rattle.cell_crc.specs.Checks.{header_check, payload_check}
use Rattle.cell.specs.Name.{address_name}
use Rattle.cell.specs.Header.{header_right, header}
use Rattle.cell.specs.Fields.{fields_of, rates_clear, with_crc, rm_cell, crc_right}
use Rattle.cell.specs.Reading.{reading}
use Rattle.connection_members.specs.Path.{is_path}
use Rattle.connection_members.specs.Members.{any_where}
use Rattle.connection_members.specs.Turn.{first_from, or_else, turn, after_serving, last_after}
use Rattle.connection.specs.Parts.{fresh}
use Rattle.connection.specs.Pace.{paced}
use Rattle.connection.specs.Source.{offered, after_backward_cell, moved_by, sent_forward, sent_data, with_served}
use Rattle.connection.specs.Destination.{with_made, made_left, sent_turned}
use Rattle.connection.specs.Received.{after_rm_cell}
use Rattle.connection.specs.Slot.{after, member_served}
use Rattle.connection.specs.Ready.{waits, backward_waits, any_waits, last_before, ready_from, ready_instant}
use Rattle.connection.specs.Kind.{is_forward, is_turned, kind_at}
use Rattle.model.specs.State.{empty, position, is_free, holds, find, with_entry_of, with_opened, room_left, with_time, with_members}
use Rattle.model.specs.Winner.{candidate_from, candidate, better, winner}
use Rattle.model.specs.Call.{receiving, slot, goes_to}
use Rattle.model.specs.Step.{accept, replay, of_open, open_address, open_step, offer_step, read_step, receive_step, name_answered, send_from, send_step, serve_entry, serve, slot_step, step}
use Rattle.model.specs.Run.{run, final, allowed, entry_rate}
use Rattle.promise_lists.specs.Congestion.{Backward, AtLeastAsCongested}
use Rattle.promise_lists.specs.Demand3.{InPlace, SamePlace, equal, congested}
use Rattle.check_examples.specs.Witness.{unmarked, congested_cell, path_unmarked, path_stopped, path_start, path_calls, last_slot, Witness}
use Rattle.laws.specs.Require.{require}
use Rattle.connection_members.specs.Members.{cells_where, with_member, with_cells}
use Rattle.connection.specs.Interval.{rested}
use Rattle.model.specs.State.{with_level}
use Rattle.model.specs.Step.{open_path_step, with_offer, add_step, of_member, offer_member_step, level_step, make_step}

-- its unfolding line opens all that these calls compute with, wherever it is itself unfolded
unfoldable pub computing : Unit {0}
unfolding reserved_clear codes_clear rate_of code_below code_of within rates_fit codes_fit numbers_fit params_fit tbe_fits frtt_fits initial_used crm trm_times trm_time gap first_cell idle reduced_by unanswered rate_by_marks feedback mark_level bring divide remainder bits octet_bits header_check payload_check address_name header_right header fields_of rates_clear with_crc rm_cell crc_right reading fresh offered after_backward_cell after_rm_cell waits backward_waits any_waits last_before ready_from ready_instant is_forward is_turned kind_at moved_by paced sent_forward sent_data after member_served with_served is_path any_where first_from or_else turn after_serving last_after empty position is_free holds find with_entry_of with_opened room_left with_time with_members candidate_from candidate better winner goes_to accept replay require of_open open_address open_step offer_step read_step receive_step name_answered send_from send_step serve_entry serve slot_step step entry_rate
computing = tt

backward : Backward congested_cell
unfolding computing
backward = record { is_rm = refl; is_backward = refl }

backward_stopped : Backward path_stopped
unfolding computing
backward_stopped = record { is_rm = refl; is_backward = refl }

more_congested : AtLeastAsCongested congested_cell unmarked
unfolding computing
more_congested = record {
  right_first = record { size = refl; header = refl; crc = refl };
  right_second = record { size = refl; header = refl; crc = refl };
  clear_first = refl;
  clear_second = refl;
  rest = record { start = refl; dir_bn = refl; ra_reserved = refl; middle = refl; reserved = refl };
  rate = lit≤ tt;
  level = lit≤ tt;
}

stopped : AtLeastAsCongested path_stopped path_unmarked
unfolding computing
stopped = record {
  right_first = record { size = refl; header = refl; crc = refl };
  right_second = record { size = refl; header = refl; crc = refl };
  clear_first = refl;
  clear_second = refl;
  rest = record { start = refl; dir_bn = refl; ra_reserved = refl; middle = refl; reserved = refl };
  rate = lit≤ tt;
  level = lit≤ tt;
}

-- with the path
served : last_slot path_unmarked ≡ some 33
unfolding computing cells_where with_member with_cells rested with_made made_left sent_turned open_path_step with_offer add_step of_member offer_member_step level_step make_step with_level
served = refl

served_stopped : last_slot path_stopped ≡ some 33
unfolding computing cells_where with_member with_cells rested with_made made_left sent_turned open_path_step with_offer add_step of_member offer_member_step level_step make_step with_level
served_stopped = refl

path_above : allowed 65_542 (final empty (path_calls path_unmarked)) ≡ some 48384
unfolding computing cells_where with_member with_cells rested with_made made_left sent_turned open_path_step with_offer add_step of_member offer_member_step level_step make_step with_level
path_above = refl

path_at_zero : allowed 65_542 (final empty (path_calls path_stopped)) ≡ some 0
unfolding computing cells_where with_member with_cells rested with_made made_left sent_turned open_path_step with_offer add_step of_member offer_member_step level_step make_step with_level
path_at_zero = refl

made_sent : goes_to (step (final empty (take 6 path_start)) (slot 34_000_000 53)).answer ≡ some 65_542
unfolding computing cells_where with_member with_cells rested with_made made_left sent_turned open_path_step with_offer add_step of_member offer_member_step level_step make_step with_level
made_sent = refl

received : (o : List ℕ) → Option ℕ
received o = goes_to (step (final empty path_start) (receiving o)).answer

not_served : received path_unmarked ≡ none
unfolding computing received cells_where with_member with_cells rested with_made made_left sent_turned open_path_step with_offer add_step of_member offer_member_step level_step make_step with_level
not_served = refl

not_served_stopped : received path_stopped ≡ none
unfolding computing received cells_where with_member with_cells rested with_made made_left sent_turned open_path_step with_offer add_step of_member offer_member_step level_step make_step with_level
not_served_stopped = refl

path_same_place : InPlace SamePlace (run empty (path_calls path_unmarked)) (run empty (path_calls path_stopped))
unfolding received
path_same_place = (refl, (refl, (refl, (refl, (refl, (refl, (refl, (refl, (refl, (not_served ∙ sym not_served_stopped, (served ∙ sym served_stopped, tt)))))))))))

pub witness : Witness
unfolding computing
witness = record {
  comparable = (equal, (equal, (equal, (congested backward more_congested, (equal, tt)))));
  same_place = (refl, (refl, (refl, (refl, (refl, tt)))));
  above = refl;
  under = refl;
  path_comparable = (equal, (equal, (equal, (equal, (equal, (equal, (equal, (equal, (equal, (congested backward_stopped stopped, (equal, tt)))))))))));
  path_same_place = path_same_place;
  path_above = path_above;
  path_at_zero = path_at_zero;
  made_sent = made_sent;
  channel_served = served_stopped;
}
