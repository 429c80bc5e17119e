-- Whose time counts, and what rate a slot answers: read off what each call can do.
use Prim.Native.Nat.{ℕ}
use mathlib.Core.Path.{◌≡◌, refl, ◌∙◌}
use mathlib.Core.Bool.{cond}
use mathlib.Core.Option.{Option}
use borrow.Author.Tests.{eq-eqb}
use Rattle.connection.specs.declared.parts.Connection.{Connection}
use Rattle.connection.specs.declared.kind.Kind.{Kind}
use Rattle.connection.specs.Kind.{kind_at}
use Rattle.connection.specs.Source.{with_served}
use Rattle.connection.specs.Slot.{after, member_served}
use Rattle.connection.proofs.Keeps.{after_same}
use Rattle.model.specs.State.{State, taken, empty, find, with_entry_of, with_opened, with_time, with_level, with_members}
use Rattle.model.specs.Invariant.{NamesUnique}
use Rattle.model.specs.Call.{Call, Outcome}
use Rattle.model.specs.Step.{refuse, accept, replay, discard, with_offer, without_one, send_from, send_step, send_out_of_rate, idle_step}
use Rattle.model.specs.Run.{final, is_accepted, entry_rate}
use Rattle.model.specs.Times.{time_after, TimesCount, RateStands, AnsweredRate}
use Rattle.model.proofs.Effects.{Effect, refuses, opens, closes, offers, receives_data, receives_rm, sets_level, idles, sends, makes, sends_out_of_rate, opens_path, adds, offers_member, removes, effect}
use Rattle.model.proofs.Frames.{put-read}
use Rattle.model.proofs.Reached.{reached-well-formed}
use Rattle.model.proofs.Shown.{Shown, refusing, accepting, discarding, idling, serving, serving_out_of_rate, shown}

pub effect-time : {s : State} {c : Call} {o : Outcome} → Effect s c o → o.state.last ≡ cond (is_accepted o.answer) (time_after c s.last) s.last
unfolding is_accepted refuse accept replay discard idle_step send_out_of_rate send_step send_from with_offer without_one with_entry_of with_opened with_time with_level with_members
effect-time (refuses c n h) = refl
effect-time (opens a b t p g) = refl
effect-time (closes a b d f) = refl
effect-time (offers a b n d f c h) = refl
effect-time (receives_data o a b e u d r c z f) = refl
effect-time (receives_rm o q d r f) = refl
effect-time (sets_level l h) = refl
effect-time (idles t room g b) = refl
effect-time (sends t room i u g b) = refl
effect-time (makes a b t d f g h m) = refl
effect-time (sends_out_of_rate a b t room d f g h) = refl
effect-time (opens_path a t p g) = refl
effect-time (adds a b d f j) = refl
effect-time (offers_member a b n d f i h) = refl
effect-time (removes a b d f i) = refl

pub times-count : TimesCount
times-count cs c = effect-time (effect (final empty cs) (reached-well-formed cs).unique c)

sent-rate :
    (s : State) → NamesUnique s.entries → (t u : ℕ) (d : Connection) → find u s.entries ≡ taken d → (k : Kind) (x : Option ℕ)
    → RateStands (send_from s t u d k x).answer (send_from s t u d k x).state
unfolding send_from with_members entry_rate with_served
sent-rate s a t u d f k x = put-read entry_rate u u s a d (with_served x (after k t d)) f (after_same k t d).name ∙ rw (eq-eqb u u refl) refl

shown-rate : {s : State} → NamesUnique s.entries → {c : Call} {o : Outcome} → Shown s c o → RateStands o.answer o.state
unfolding refuse accept replay discard idle_step send_out_of_rate send_step with_time
shown-rate a (refusing c n h) = tt
shown-rate a (accepting c n r l g) = tt
shown-rate a (discarding c n x u r l e g) = tt
shown-rate a (idling t room g) = tt
shown-rate {s} a (serving t room i u g b) = sent-rate (with_time t s) a t u b.holder b.found (kind_at t b.holder) (member_served (kind_at t b.holder) b.holder s.members)
shown-rate a (serving_out_of_rate x y t room d f g) = tt

pub answered-rate : AnsweredRate
answered-rate cs c = shown-rate (reached-well-formed cs).unique (shown (reached-well-formed cs) c)
