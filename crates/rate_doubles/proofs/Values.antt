-- The doubles of specs/Values.antt, computed.
use mathlib.Core.Path.{refl}
use lib.Ieee.{round}
use Rattle.rate.specs.Code.{rate_of, code_below, code_of}
use Rattle.rate_doubles.specs.Import.{split_at, accepted, of_fraction}
use Rattle.rate_doubles.specs.Values.{Values}

pub values : Values
unfolding rate_of code_below code_of split_at accepted of_fraction round
values = record {
  one = refl;
  before_one = refl;
  after_one = refl;
  thousand = refl;
  thousand_and_half = refl;
  largest = refl;
  before_top = refl;
  top = refl;
  zero = refl;
  minus_zero = refl;
  half = refl;
  minus_one = refl;
}
