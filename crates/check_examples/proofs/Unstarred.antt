-- The unstarred lines hold, by computation from the definitions.
use mathlib.Core.Path.{refl}
use Rattle.model.specs.Step.{refuse, idle_step}
use Rattle.check_examples.specs.Unstarred.{Unstarred}
use Rattle.check_examples.proofs.Witness.{computing}

pub unstarred : Unstarred
unfolding computing refuse idle_step
unstarred = record {
  thirty = (refl, refl);
  thirty_one = (refl, refl);
  before_trm = (refl, refl);
  at_trm = refl;
  idle_before_trm = (refl, refl);
  idle_at_trm = refl;
  at_adtf = refl;
  after_adtf = refl;
  last_open = refl;
  late_open = refl;
  last_slot = refl;
  late_slot = refl;
  lowest_vci = refl;
  reserved_vci = refl;
}
