-- They are so, computed.
use mathlib.Core.Path.{refl}
use Rattle.cell.specs.Fields.{fields_fit}
use Rattle.cell.specs.Writing.{writing}
use Rattle.check_examples.specs.Readings.{Readings}
use Rattle.check_examples.proofs.Witness.{computing}

pub readings : Readings
unfolding computing fields_fit writing
readings = record {
  size = refl;
  check = refl;
  four = refl;
  five = refl;
  seven = refl;
  crc = refl;
  protocol = refl;
  reserved = refl;
  zero = refl;
  one = refl;
  two = refl;
  three = refl;
  short = refl;
  unfit = refl;
  fit = refl;
  whole = refl;
}
