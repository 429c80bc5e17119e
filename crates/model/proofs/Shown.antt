-- What a call answers and writes: the cases of an effect that a theorem about answers and buffers tells apart.
use Prim.Native.Nat.{ℕ, ◌<◌, ◌≤◌}
use mathlib.Core.Path.{◌≡◌, refl}
use mathlib.Core.Option.{some}
use native.Mathlib.Nat.{le_refl}
use Rattle.cell.specs.Name.{address_name}
use Rattle.connection_members.specs.Path.{path_of}
use Rattle.connection.specs.declared.parts.Connection.{Connection}
use Rattle.connection.specs.Kind.{kind_at}
use Rattle.model.specs.State.{State, taken, find, with_entry_of, with_opened, with_time, with_level, with_members}
use Rattle.model.specs.Invariant.{WellFormed}
use Rattle.model.specs.Winner.{Chosen}
use Rattle.model.specs.Call.{Call, slot, out_of_rate, Outcome}
use Rattle.model.specs.Aspects.{not_lent, lent_of, members_of, discards_from}
use Rattle.model.specs.Step.{refuse, accept, replay, discard, with_offer, without_one, send_step, send_out_of_rate, idle_step, step}
use Rattle.model.proofs.Effects.{Timely, Effect, refuses, opens, closes, offers, receives_data, receives_rm, sets_level, idles, sends, makes, sends_out_of_rate, opens_path, adds, offers_member, removes, effect}

pub data Shown (s : State) : Call → Outcome → Type 0 where
  refusing : (c : Call) (n : ℕ) → 0 < n → Shown s c (refuse s n)
  -- accepted, with no cell: of another table, and the cells that it discards, if it discards any
  accepting : (c : Call) (n : ℕ) (r : State) → lent_of c ≡ not_lent → s.last ≤ r.last → Shown s c (accept n r)
  discarding :
      (c : Call) (n x u : ℕ) (r : State) → lent_of c ≡ not_lent → discards_from (members_of c) ≡ some u → s.last ≤ r.last
      → Shown s c (discard n x s r)
  idling : (t room : ℕ) → Timely s t → Shown s (slot t room) (idle_step (with_time t s))
  serving :
      (t room i u : ℕ) → Timely s t → (b : Chosen t i u s.entries)
      → Shown s (slot t room) (send_step (with_time t s) t u b.holder (kind_at t b.holder))
  serving_out_of_rate :
      (a b t room : ℕ) (d : Connection) → find (address_name a b) s.entries ≡ taken d → Timely s t
      → Shown s (out_of_rate a b t room) (send_out_of_rate (with_time t s) t (address_name a b) d)

pub effect-shown : {s : State} {c : Call} {o : Outcome} → Effect s c o → Shown s c o
unfolding replay with_offer without_one with_entry_of with_opened with_time with_level with_members
effect-shown (refuses c n h) = refusing c n h
effect-shown (opens a b t p g) = accepting _ _ _ refl g.timely.since
effect-shown (closes a b d f) = discarding _ _ _ (address_name a b) _ refl refl (le_refl _)
effect-shown (offers a b n d f i h) = accepting _ _ _ refl (le_refl _)
effect-shown (receives_data o a b e u d r i z f) = accepting _ _ _ refl (le_refl _)
effect-shown (receives_rm o q d r f) = accepting _ _ _ refl (le_refl _)
effect-shown (sets_level l h) = accepting _ _ _ refl (le_refl _)
effect-shown (idles t room g b) = idling t room g
effect-shown (sends t room i u g b) = serving t room i u g b
effect-shown (makes a b t d f g h m) = accepting _ _ _ refl g.since
effect-shown (sends_out_of_rate a b t room d f g h) = serving_out_of_rate a b t room d f g
effect-shown (opens_path a t p g) = accepting _ _ _ refl g.timely.since
effect-shown (adds a b d f j) = accepting _ _ _ refl (le_refl _)
effect-shown (offers_member a b n d f i h) = accepting _ _ _ refl (le_refl _)
effect-shown (removes a b d f i) = discarding _ _ _ (path_of (address_name a b)) _ refl refl (le_refl _)

pub shown : {s : State} → WellFormed s → (c : Call) → Shown s c (step s c)
shown {s} w c = effect-shown (effect s w.unique c)
