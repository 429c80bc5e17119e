-- As many members as there can be, computed.
use mathlib.Core.Path.{refl}
use Rattle.connection_members.specs.Members.{with_member}
use Rattle.model.specs.Step.{refuse, open_path_step, add_step}
use Rattle.check_counts.specs.Crowded.{Crowded}
use Rattle.check_examples.proofs.Witness.{computing}

pub crowded : Crowded
unfolding computing with_member refuse open_path_step add_step
crowded = record { last = refl; channel = refl; twice = refl; one_more = refl }
