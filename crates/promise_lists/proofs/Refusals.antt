-- A refusal leaves table and buffer as they were.
use Prim.Native.Nat.{ℕ, ◌<◌}
use mathlib.Core.Path.{◌≡◌, refl, subst}
use mathlib.Core.Option.{some}
use Rattle.model.specs.State.{State}
use Rattle.model.specs.Call.{Call, Outcome, refusal}
use Rattle.model.specs.Step.{refuse, accept, replay, discard, send_from, send_step, idle_step, send_out_of_rate}
use Rattle.model.proofs.Reached.{reached-well-formed}
use Rattle.model.proofs.Shown.{Shown, refusing, accepting, discarding, idling, serving, serving_out_of_rate, shown}
use Rattle.promise_lists.specs.Refusals.{Unchanged, RefusedUnchanged}
use Rattle.promise_lists.proofs.Pairs.{none≢some}

pub shown-refused : {s : State} {c : Call} {o : Outcome} → Shown s c o → (n : ℕ) → refusal o.answer ≡ some n → Unchanged s n o
unfolding refuse accept replay discard send_from send_step idle_step send_out_of_rate refusal
shown-refused (refusing c m h) n e = let q : m ≡ n = cc in record { table = refl; buffer = refl; number = subst (λ (k : ℕ). 0 < k) q h }
shown-refused (accepting c k r l g) n e = absurd (none≢some e)
shown-refused (discarding c k x u r l i g) n e = absurd (none≢some e)
shown-refused (idling t room g) n e = absurd (none≢some e)
shown-refused (serving t room i u g b) n e = absurd (none≢some e)
shown-refused (serving_out_of_rate a b t room d f g) n e = absurd (none≢some e)

pub refused-unchanged : RefusedUnchanged
refused-unchanged cs c n e = shown-refused (shown (reached-well-formed cs) c) n e
