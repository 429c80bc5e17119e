-- Each number computes.
use mathlib.Core.Path.{refl}
use Rattle.laws.specs.Numbers.{DocumentNumbers}

pub document-numbers : DocumentNumbers
document-numbers = record {
  of_length = refl;
  of_header_check = refl;
  of_payload_type = refl;
  of_crc = refl;
  of_protocol = refl;
  of_range = refl;
  of_time = refl;
  of_too_large = refl;
  of_low_vci = refl;
  of_not_open = refl;
  of_already_open = refl;
  of_full = refl;
  of_time_backward = refl;
  of_too_much_data = refl;
  of_not_congested = refl;
  of_made_too_soon = refl;
  of_out_of_rate_too_soon = refl;
  of_reserved_bit = refl;
  of_double = refl;
  of_too_many_demands = refl;
  of_demand_too_large = refl;
  of_trace_number = refl;
  of_trace_end = refl;
  of_trace_range = refl;
  of_members_full = refl;
  of_already_member = refl;
  of_not_a_member = refl;
  of_tbe = refl;
  of_frtt = refl;
}
