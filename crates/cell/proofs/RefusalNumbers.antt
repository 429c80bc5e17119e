-- The number of a refusal is never 0.
use Rattle.std.proofs.Common.{◌<◌, arith}
use Rattle.laws.specs.declared.refusals.Refusal.{Refusal}
use Rattle.laws.specs.declared.refusals.Refusal.TheVariants.{Length, HeaderCheck, PayloadType, Crc, Protocol, Range, Time, TooLarge, LowVci, NotOpen, AlreadyOpen, Full, TimeBackward, TooMuchData, NotCongested, MadeTooSoon, OutOfRateTooSoon, ReservedBit, Double, TooManyDemands, DemandTooLarge, TraceNumber, TraceEnd, TraceRange, MembersFull, AlreadyMember, NotAMember, Tbe, Frtt}
use Rattle.laws.specs.Refusals.{number}

pub number-above-0 : (r : Refusal) → 0 < number r
number-above-0 Length = omega arith
number-above-0 HeaderCheck = omega arith
number-above-0 PayloadType = omega arith
number-above-0 Crc = omega arith
number-above-0 Protocol = omega arith
number-above-0 Range = omega arith
number-above-0 Time = omega arith
number-above-0 TooLarge = omega arith
number-above-0 LowVci = omega arith
number-above-0 NotOpen = omega arith
number-above-0 AlreadyOpen = omega arith
number-above-0 Full = omega arith
number-above-0 TimeBackward = omega arith
number-above-0 TooMuchData = omega arith
number-above-0 NotCongested = omega arith
number-above-0 MadeTooSoon = omega arith
number-above-0 OutOfRateTooSoon = omega arith
number-above-0 ReservedBit = omega arith
number-above-0 Double = omega arith
number-above-0 TooManyDemands = omega arith
number-above-0 DemandTooLarge = omega arith
number-above-0 TraceNumber = omega arith
number-above-0 TraceEnd = omega arith
number-above-0 TraceRange = omega arith
number-above-0 MembersFull = omega arith
number-above-0 AlreadyMember = omega arith
number-above-0 NotAMember = omega arith
number-above-0 Tbe = omega arith
number-above-0 Frtt = omega arith
