-- The numbers of the refusals in the documents. (Document 01, "Refused because of the input" and "Refused because of
-- the state"; document 02.)
use Rattle.std.specs.Prelude.{ℕ, Result, Ok, Err}
pub use Rattle.laws.specs.declared.refusals.Refusal.{Refusal}
pub use Rattle.laws.specs.declared.refusals.Refusal.TheVariants.{Length, HeaderCheck, PayloadType, Crc, Protocol, Range, Time, TooLarge, LowVci, NotOpen, AlreadyOpen, Full, TimeBackward, TooMuchData, NotCongested, MadeTooSoon, OutOfRateTooSoon, ReservedBit, Double, TooManyDemands, DemandTooLarge, TraceNumber, TraceEnd, TraceRange, MembersFull, AlreadyMember, NotAMember, Tbe, Frtt}

abbrev pub number : Refusal → ℕ
number Length = 1
number HeaderCheck = 2
number PayloadType = 4
number Crc = 5
number Protocol = 6
number Range = 7
number Time = 8
number TooLarge = 9
number LowVci = 10
number NotOpen = 11
number AlreadyOpen = 12
number Full = 13
number TimeBackward = 14
number TooMuchData = 15
number NotCongested = 16
number MadeTooSoon = 17
number OutOfRateTooSoon = 18
number ReservedBit = 19
number Double = 20
number TooManyDemands = 21
number DemandTooLarge = 22
number TraceNumber = 23
number TraceEnd = 24
number TraceRange = 25
number MembersFull = 26
number AlreadyMember = 27
number NotAMember = 28
number Tbe = 29
number Frtt = 30

-- the number of a refusal, and 0 where nothing was refused
abbrev pub refusal_or_0 : Result Unit Refusal → ℕ
refusal_or_0 (Ok u) = 0
refusal_or_0 (Err r) = number r
