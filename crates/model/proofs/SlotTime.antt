-- The time that is passed to a slot.
use native.Mathlib.Omega.{arith}
use Rattle.model.specs.SlotTime.{SlotTime}

pub slot-time : SlotTime
slot-time = record {
  each = λ s now lag. record {
    not_after = omega arith;
    within = omega arith;
    since = λ h. omega arith;
    early = λ h. omega arith;
    ready = λ a b c. omega arith;
    idle = λ h. omega arith;
  };
  no_lag = λ s now. omega arith;
}
