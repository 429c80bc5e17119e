-- The lists that go beyond the promises on service, computed.
use mathlib.Core.Path.{refl}
use Rattle.cell.specs.Turning.{turned_marks, turned_payload}
use Rattle.connection.specs.Destination.{waiting_ci, mark_kept, after_forward_cell, made_left, sent_turned}
use Rattle.model.specs.Call.{goes_to, kind_sent}
use Rattle.connection_members.specs.Members.{without}
use Rattle.model.specs.Step.{refuse, discard, close_step, idle_step}
use Rattle.check_examples.specs.Limits.{Limits}
use Rattle.check_examples.proofs.Witness.{computing}

pub limits : Limits
unfolding computing turned_marks turned_payload waiting_ci mark_kept after_forward_cell made_left sent_turned goes_to kind_sent without refuse discard close_step idle_step
limits = record { passed_over = refl; starved = refl; three_without = refl; behind_idle = refl; without_idle = refl }
