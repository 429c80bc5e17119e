-- The reserved bit, computed.
use mathlib.Core.Path.{refl}
use Rattle.model.specs.Step.{refuse}
use Rattle.check_examples.specs.ReservedCalls.{ReservedCalls}
use Rattle.check_examples.proofs.Witness.{computing}

pub reserved-calls : ReservedCalls
unfolding computing refuse
reserved-calls = record {
  low = refl;
  peak = refl;
  minimum = refl;
  initial = refl;
  far_away = refl;
  wide = refl;
  wide_beside = refl;
  bad_crc = refl;
  bad_protocol = refl;
  flagged_cell = refl;
  explicit = refl;
  current = refl;
  least = refl;
  unknown = refl;
  taken = refl;
}
