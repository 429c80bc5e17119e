-- The data cells of one name, computed.
use mathlib.Core.Path.{refl}
use Rattle.model.specs.State.{entry_cells}
use Rattle.model.specs.Call.{closed_cells}
use Rattle.connection_members.specs.Members.{without}
use Rattle.model.specs.Step.{refuse, discard, close_step}
use Rattle.model.specs.Run.{is_accepted}
use Rattle.model.specs.Conservation.{offered_to, closed_on, data_in, data_slot_of}
use Rattle.check_examples.specs.ConservedCalls.{ConservedCalls}
use Rattle.check_examples.proofs.Witness.{computing}

pub conserved-calls : ConservedCalls
unfolding computing refuse discard without close_step is_accepted closed_cells offered_to closed_on data_in data_slot_of entry_cells
conserved-calls = record { overfull = refl; forward = refl; waited = refl; offered = refl; slots = refl; waiting = refl; closed = refl; other = (refl, refl, refl, refl) }
