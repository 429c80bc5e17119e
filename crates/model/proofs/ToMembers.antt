-- What a call makes of the members of paths: the cases of an effect that a theorem about members tells apart.
use Prim.Native.Nat.{ℕ, ◌+◌}
use mathlib.Core.Path.{◌≡◌}
use mathlib.Core.Bool.{true}
use mathlib.Core.List.{List}
use Rattle.connection_members.specs.Members.{Member, is_member, cells_of, with_member, without_member, without_path, with_cells}
use Rattle.connection_members.specs.Turn.{after_serving}
use Rattle.connection.specs.declared.parts.Connection.{Connection}
use Rattle.connection.specs.declared.kind.Kind.{Kind}
use Rattle.connection.specs.Kind.{kind_at}
use Rattle.connection.specs.Slot.{member_served}
use Rattle.model.specs.State.{State, taken, find, with_entry_of, with_opened, with_time, with_level, with_members}
use Rattle.model.specs.Invariant.{WellFormed}
use Rattle.model.specs.Call.{Call, Outcome, Answer, Refused, Accepted, Closed, Idle, Sent}
use Rattle.model.specs.Aspects.{OnMembers, of_closed, of_added, of_offered, of_removed, of_slot, of_none, members_of}
use Rattle.model.specs.Step.{refuse, accept, replay, discard, with_offer, without_one, name_answered, send_from, send_step, send_out_of_rate, idle_step, step}
use Rattle.model.proofs.Effects.{Effect, refuses, opens, closes, offers, receives_data, receives_rm, sets_level, idles, sends, makes, sends_out_of_rate, opens_path, adds, offers_member, removes, effect}

-- from those of the table s to these, by a call that is about this of them and has this answer
pub data ToMembers (s : State) : OnMembers → Answer → List Member → Type 0 where
  refused_kept : {k : OnMembers} (n : ℕ) → ToMembers s k (Refused n) s.members
  none_touched : (n : ℕ) → ToMembers s of_none (Accepted n) s.members
  idle_kept : ToMembers s of_slot Idle s.members
  all_closed : (v n k : ℕ) → ToMembers s (of_closed v) (Closed n k) (without_path v s.members)
  one_added : (x n : ℕ) → ToMembers s (of_added x) (Accepted n) (with_member x s.members)
  one_offered :
      (x n k : ℕ) → is_member x s.members ≡ true → ToMembers s (of_offered x n) (Accepted k) (with_cells x (cells_of x s.members + n) s.members)
  one_removed : (x n k : ℕ) → ToMembers s (of_removed x) (Closed n k) (without_member x s.members)
  one_served :
      (u : ℕ) (d : Connection) (k : Kind) (acr n : ℕ) → find u s.entries ≡ taken d
      → ToMembers s of_slot (Sent u (name_answered u (member_served k d s.members)) k acr n) (after_serving (member_served k d s.members) s.members)

pub effect-to-members : {s : State} {c : Call} {o : Outcome} → Effect s c o → ToMembers s (members_of c) o.answer o.state.members
unfolding refuse accept replay discard send_step send_from idle_step send_out_of_rate with_offer without_one with_entry_of with_opened with_time with_level with_members
effect-to-members (refuses c n h) = refused_kept n
effect-to-members (opens a b t p g) = none_touched _
effect-to-members (closes a b d f) = all_closed _ _ _
effect-to-members (offers a b n d f i h) = none_touched _
effect-to-members (receives_data o a b e u d r i z f) = none_touched _
effect-to-members (receives_rm o q d r f) = none_touched _
effect-to-members (sets_level l h) = none_touched _
effect-to-members (idles t room g b) = idle_kept
effect-to-members (sends t room i u g b) = one_served u b.holder (kind_at t b.holder) _ _ b.found
effect-to-members (makes a b t d f g h m) = none_touched _
effect-to-members (sends_out_of_rate a b t room d f g h) = none_touched _
effect-to-members (opens_path a t p g) = none_touched _
effect-to-members (adds a b d f j) = one_added _ _
effect-to-members (offers_member a b n d f i h) = one_offered _ _ _ i
effect-to-members (removes a b d f i) = one_removed _ _ _

pub to-members : {s : State} → WellFormed s → (c : Call) → ToMembers s (members_of c) (step s c).answer (step s c).state.members
to-members {s} w c = effect-to-members (effect s w.unique c)
