-- The documents' numbers of the refusals, one by one: a number that changed in the code and in `number` together would
-- contradict this. (Document 01, "Refused because of the input" and "Refused because of the state"; document 02.)
use Rattle.std.specs.Prelude.{◌≡◌}
use Rattle.laws.specs.Refusals.{number, Length, HeaderCheck, PayloadType, Crc, Protocol, Range, Time, TooLarge, LowVci, NotOpen, AlreadyOpen, Full, TimeBackward, TooMuchData, NotCongested, MadeTooSoon, OutOfRateTooSoon, ReservedBit, Double, TooManyDemands, DemandTooLarge, TraceNumber, TraceEnd, TraceRange, MembersFull, AlreadyMember, NotAMember, Tbe, Frtt}

pub record DocumentNumbers : Type 0 where
  pub of_length : number Length ≡ 1
  pub of_header_check : number HeaderCheck ≡ 2
  pub of_payload_type : number PayloadType ≡ 4
  pub of_crc : number Crc ≡ 5
  pub of_protocol : number Protocol ≡ 6
  pub of_range : number Range ≡ 7
  pub of_time : number Time ≡ 8
  pub of_too_large : number TooLarge ≡ 9
  pub of_low_vci : number LowVci ≡ 10
  pub of_not_open : number NotOpen ≡ 11
  pub of_already_open : number AlreadyOpen ≡ 12
  pub of_full : number Full ≡ 13
  pub of_time_backward : number TimeBackward ≡ 14
  pub of_too_much_data : number TooMuchData ≡ 15
  pub of_not_congested : number NotCongested ≡ 16
  pub of_made_too_soon : number MadeTooSoon ≡ 17
  pub of_out_of_rate_too_soon : number OutOfRateTooSoon ≡ 18
  pub of_reserved_bit : number ReservedBit ≡ 19
  pub of_double : number Double ≡ 20
  pub of_too_many_demands : number TooManyDemands ≡ 21
  pub of_demand_too_large : number DemandTooLarge ≡ 22
  pub of_trace_number : number TraceNumber ≡ 23
  pub of_trace_end : number TraceEnd ≡ 24
  pub of_trace_range : number TraceRange ≡ 25
  pub of_members_full : number MembersFull ≡ 26
  pub of_already_member : number AlreadyMember ≡ 27
  pub of_not_a_member : number NotAMember ≡ 28
  pub of_tbe : number Tbe ≡ 29
  pub of_frtt : number Frtt ≡ 30
