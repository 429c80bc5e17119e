-- No call touches a connection that it does not name.
use Prim.Native.Nat.{ℕ}
use mathlib.Core.Path.{◌≡◌, refl, sym, ap, ◌∙◌}
use mathlib.Core.Logic.{◌≢◌}
use mathlib.Core.Bool.{Bool, true, false, cond, ◌&&◌, not}
use mathlib.Core.List.{List}
use mathlib.Core.Option.{Option, none, some}
use lib.Dec.{eqb}
use borrow.Author.Tests.{eqb-false, ne_eqb}
use Rattle.cell.specs.Name.{address_name}
use Rattle.cell.specs.Fields.{cell_name}
use Rattle.connection_members.specs.Path.{path_vci, path_of}
use Rattle.connection_members.specs.Members.{Member, named, on_path, is_member, without, with_member, with_cells}
use Rattle.connection_members.specs.Turn.{turn, after_serving}
use Rattle.connection_members.specs.Invariant.{Rising}
use Rattle.connection_members.proofs.Lists.{without-member, without-cells-of, with-member-any, with-member-cells, with-cells-any, with-cells-of}
use Rattle.connection_members.proofs.Turns.{turn-picks}
use Rattle.connection.specs.declared.parts.Connection.{Connection}
use Rattle.connection.specs.declared.kind.Kind.{Kind}
use Rattle.connection.specs.declared.kind.Kind.TheVariants.{Forward, Turned, Data}
use Rattle.connection.specs.Parts.{fresh}
use Rattle.connection.specs.Source.{offered, after_out_of_rate, with_served}
use Rattle.connection.specs.Destination.{with_made, after_data_cell}
use Rattle.connection.specs.Received.{after_rm_cell}
use Rattle.connection.specs.Slot.{after, member_served}
use Rattle.connection.specs.Kind.{kind_at}
use Rattle.connection.proofs.Keeps.{work-same, after_same}
use Rattle.model.specs.State.{State, Entry, taken, empty, find, with_entry_of, with_time, with_level, with_members}
use Rattle.model.specs.Invariant.{NamesUnique, WellFormed}
use Rattle.model.proofs.Frames.{put-read, with-opened-read, freed-read}
use Rattle.model.specs.Call.{Call, Outcome, goes_to}
use Rattle.model.specs.Aspects.{OnMembers}
use Rattle.model.specs.Step.{refuse, accept, replay, discard, with_offer, without_one, name_answered, send_from, send_step, idle_step, send_out_of_rate, step}
use Rattle.model.specs.Run.{final}
use Rattle.model.specs.Answers.{Answer}
use Rattle.model.proofs.Effects.{Effect, refuses, opens, closes, offers, receives_data, receives_rm, sets_level, idles, sends, makes, sends_out_of_rate, opens_path, adds, offers_member, removes, effect}
use Rattle.model.proofs.Reached.{reached-well-formed}
use Rattle.model.proofs.ToMembers.{ToMembers, refused_kept, none_touched, idle_kept, all_closed, one_added, one_offered, one_removed, one_served, to-members}
use Rattle.promise_lists.specs.Interference.{read_name, concerns, answers_name, touches, SameMember, NoInterference, touched}

same : Entry → Entry
same x = x

-- a reading of another name
other : (u v : ℕ) (x y : Entry) → some u ≢ some v → cond (eqb u v) x y ≡ y
other u v x y n = rw (ne_eqb u v (λ e. n (ap some e)))

pub put_other :
    (v u : ℕ) (s : State) → NamesUnique s.entries → (d e : Connection) → find u s.entries ≡ taken d → e.name ≡ d.name → some u ≢ some v
    → find v (with_entry_of u (taken e) s).entries ≡ find v s.entries
unfolding same
put_other v u s a d e f n h = put-read same v u s a d e f n ∙ other u v _ _ h

effect-other :
    (v : ℕ) {s : State} → NamesUnique s.entries → {c : Call} {o : Outcome} → Effect s c o → concerns s.members c o.answer ≢ some v
    → find v o.state.entries ≡ find v s.entries
unfolding same concerns read_name refuse accept replay discard send_from send_step idle_step send_out_of_rate with_time with_level with_members with_offer without_one with_served goes_to fresh offered after_data_cell with_made after_out_of_rate
effect-other v a (refuses c n z) h = refl
effect-other v {s} a (opens vpi vci t p g) h = with-opened-read same v s (fresh (address_name vpi vci) t p) g.new g.room ∙ other (address_name vpi vci) v _ _ h
effect-other v {s} a (closes vpi vci d f) h = freed-read same v (address_name vpi vci) s a ∙ other (address_name vpi vci) v _ _ h
effect-other v {s} a (offers vpi vci n d f i b) h = put_other v (address_name vpi vci) s a d (offered n d) f refl h
effect-other v {s} a (receives_data o vpi vci e u d r i z f) h = put_other v u s a d (after_data_cell e d) f refl (rw (r, z) at h)
effect-other v {s} a (receives_rm o q d r f) h =
    put_other v (cell_name q) s a d (after_rm_cell s.level o q d) f (work-same s.level o q d).name (rw r at h)
effect-other v a (sets_level l b) h = refl
effect-other v a (idles t room g b) h = refl
effect-other v {s} a (sends t room i u g b) h =
    let k = kind_at t b.holder in
    put_other v u (with_time t s) a b.holder (with_served _ (after k t b.holder)) b.found (after_same k t b.holder).name h
effect-other v {s} a (makes vpi vci t d f g b m) h = put_other v (address_name vpi vci) (with_time t s) a d (with_made t s.level d) f refl h
effect-other v {s} a (sends_out_of_rate vpi vci t room d f g b) h = put_other v (address_name vpi vci) (with_time t s) a d (after_out_of_rate t d) f refl h
effect-other v {s} a (opens_path vpi t p g) h = with-opened-read same v s (fresh (address_name vpi path_vci) t p) g.new g.room ∙ other (address_name vpi path_vci) v _ _ h
effect-other v {s} a (adds vpi vci d f j) h = refl
effect-other v {s} a (offers_member vpi vci n d f i b) h = put_other v (path_of (address_name vpi vci)) s a d (offered n d) f refl h
effect-other v {s} a (removes vpi vci d f i) h = put_other v (path_of (address_name vpi vci)) s a d _ f refl h

-- Members.
kept : (x : ℕ) (ms : List Member) → SameMember x ms ms
kept x ms = record { member = refl; cells = refl }

without-kept : (x : ℕ) (f : ℕ → Bool) (ms : List Member) → f x ≡ false → SameMember x ms (without f ms)
without-kept x f ms e =
    record { member = without-member x f ms ∙ rw e (and-true (is_member x ms)); cells = without-cells-of x f ms ∙ rw e }
  where
    and-true : (b : Bool) → (b && not false) ≡ b
    and-true true = refl
    and-true false = refl

with-cells-kept : (x y n : ℕ) (ms : List Member) → Rising ms → is_member y ms ≡ true → eqb y x ≡ false → SameMember x ms (with_cells y n ms)
with-cells-kept x y n ms r i e = record { member = with-cells-any (named x) y n ms; cells = with-cells-of x y n ms r i ∙ rw e }

with-member-kept : (x y : ℕ) (ms : List Member) → eqb y x ≡ false → SameMember x ms (with_member y ms)
with-member-kept x y ms e = record { member = with-member-any (named x) y ms ∙ rw e; cells = with-member-cells (named x) y ms }

swapped : (x y : ℕ) → eqb x y ≡ false → eqb y x ≡ false
swapped x y e = ne_eqb y x (λ q. eqb-false x y e (sym q))

-- a slot takes from no other member than the one it names
served-kept :
    (x u : ℕ) (k : Kind) (c : Connection) (ms : List Member) → Rising ms → eqb (name_answered u (member_served k c ms)) x ≡ false
    → SameMember x ms (after_serving (member_served k c ms) ms)
unfolding member_served name_answered after_serving
served-kept x u Forward c ms r e = kept x ms
served-kept x u Turned c ms r e = kept x ms
served-kept x u Data c ms r e = go (turn c.name c.queue.served ms) refl e
  where
    go : (o : Option ℕ) → turn c.name c.queue.served ms ≡ o → eqb (name_answered u o) x ≡ false → SameMember x ms (after_serving o ms)
    go none q e = kept x ms
    go (some y) q e = with-cells-kept x y _ ms r (turn-picks c.name c.queue.served ms y q).member e

members-same :
    (x : ℕ) {s : State} → WellFormed s → {k : OnMembers} {a : Answer} {ms : List Member} → ToMembers s k a ms → touched x a k ≡ false → SameMember x s.members ms
unfolding answers_name
members-same x {s} w (refused_kept n) h = kept x s.members
members-same x {s} w (none_touched n) h = kept x s.members
members-same x {s} w idle_kept h = kept x s.members
members-same x {s} w (all_closed v n k) h = without-kept x (on_path v) s.members (swapped v (path_of x) h)
members-same x {s} w (one_added y n) h = with-member-kept x y s.members h
members-same x {s} w (one_offered y n k i) h = with-cells-kept x y _ s.members w.members.valid.rising i h
members-same x {s} w (one_removed y n k) h = without-kept x (named y) s.members (swapped y x h)
members-same x {s} w (one_served u d k acr n f) h = served-kept x u k d s.members w.members.valid.rising h

members_kept :
    (cs : List Call) (c : Call) (x : ℕ) → let s = final empty cs in
    touches x c (step s c).answer ≡ false → SameMember x s.members (step s c).state.members
unfolding touches
members_kept cs c x h = let w = reached-well-formed cs in members-same x w (to-members w c) h

pub no-interference : NoInterference
no-interference = record {
  connections = λ cs c u h. let a = (reached-well-formed cs).unique in effect-other u a (effect (final empty cs) a c) h;
  members = members_kept;
}
