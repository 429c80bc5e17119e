-- The last accepted time is what a caller keeps of it.
use Prim.Native.Nat.{ℕ}
use mathlib.Core.Path.{◌≡◌, refl, sym, subst, ◌∙◌}
use mathlib.Core.Bool.{cond}
use mathlib.Core.List.{List}
use Rattle.model.specs.State.{State, empty}
use Rattle.model.specs.Call.{Call}
use Rattle.model.specs.Step.{step}
use Rattle.model.specs.Run.{final, is_accepted}
use Rattle.model.specs.Times.{time_after}
use Rattle.model.proofs.Times.{times-count}
use Rattle.abr.specs.Exports.{Observation, Transcript, zeros}
use Rattle.exports.specs.LastTime.{time_noted, last_time}
use Rattle.exports.proofs.Transport.{Keeps, stands-first, kept-so}

abbrev pub TimeIs : ℕ → State → Type 0
TimeIs l s = l ≡ s.last

pub keeps-time : Keeps time_noted TimeIs
keeps-time = record {
  goes = λ s c o k m z.
      (λ i. cond (z.accepted i) (time_after c (m i)) (m i))
      ∙ sym (subst (λ (x : State). (step x c).state.last ≡ cond (is_accepted (step x c).answer) (time_after c x.last) x.last) z.reached (times-count z.calls c));
}

none_yet : TimeIs 0 empty
unfolding empty
none_yet = refl

pub last-time : (cs : List Call) (os : List Observation) → Transcript cs zeros os → last_time cs os ≡ (final empty cs).last
last-time cs os t = kept-so time_noted TimeIs keeps-time empty zeros stands-first 0 none_yet cs os t
