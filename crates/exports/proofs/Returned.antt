-- What a caller knows of members is so, and with it the connection that a slot went to.
use Prim.Native.Nat.{ℕ}
use mathlib.Core.Path.{◌≡◌, refl, sym, ap, ◌∙◌}
use mathlib.Core.Bool.{Bool, true, false, ◌&&◌, ◌||◌, not, cond}
use mathlib.Core.List.{List}
use mathlib.Core.Option.{Option, none, some}
use native.Mathlib.Omega.{arith}
use lib.Dec.{eqb}
use Rattle.cell.specs.Name.{name_from, vpi_in, vci_in}
use Rattle.connection_members.specs.Path.{path_of}
use Rattle.connection_members.specs.Members.{Member, named, on_path, any_where, is_member}
use Rattle.connection_members.specs.Turn.{turn, after_serving}
use Rattle.connection_members.proofs.Lists.{without-member, with-member-any, with-cells-any}
use Rattle.connection_members.proofs.Turns.{turn-picks}
use Rattle.connection.specs.declared.parts.Connection.{Connection}
use Rattle.connection.specs.declared.kind.Kind.{Kind}
use Rattle.connection.specs.declared.kind.Kind.TheVariants.{Forward, Turned, Data}
use Rattle.connection.specs.Kind.{kind_at}
use Rattle.connection.specs.Slot.{member_served}
use Rattle.model.specs.State.{State, empty, taken, is_free, find, with_time}
use Rattle.model.specs.Invariant.{WellFormed}
use Rattle.model.specs.Answers.{Answer, Refused, Accepted, Closed, Idle, Sent}
use Rattle.model.specs.Call.{Call, Outcome, goes_to}
use Rattle.model.specs.Step.{refuse, accept, replay, discard, name_answered, send_from, send_step, idle_step, send_out_of_rate, step}
use Rattle.model.specs.Run.{is_accepted}
use Rattle.model.proofs.Frames.{name_of}
use Rattle.model.proofs.Shown.{Shown, refusing, accepting, discarding, idling, serving, serving_out_of_rate, shown}
use Rattle.model.proofs.ToMembers.{ToMembers, refused_kept, none_touched, idle_kept, all_closed, one_added, one_offered, one_removed, one_served, to-members}
use Rattle.abr_answers.specs.Reply.{reply_of}
use Rattle.model.specs.Aspects.{OnMembers, of_closed, of_added, of_offered, of_removed, of_slot, of_none, members_of}
use Rattle.exports.specs.Returned.{member_after, no_member, connection_of, went_to, member_by}

-- who is a member after a call
serving-keeps : (x : ℕ) (o : Option ℕ) (ms : List Member) → is_member x (after_serving o ms) ≡ is_member x ms
unfolding after_serving
serving-keeps x none ms = refl
serving-keeps x (some y) ms = with-cells-any (named x) y _ ms

members-after :
    {s : State} {k : OnMembers} {a : Answer} {ms : List Member} → ToMembers s k a ms → (x : ℕ)
    → is_member x ms ≡ cond (is_accepted a) (member_by k (λ y. is_member y s.members) x) (is_member x s.members)
unfolding is_accepted
members-after (refused_kept n) x = refl
members-after (none_touched n) x = refl
members-after idle_kept x = refl
members-after {s} (all_closed v n k) x = without-member x (on_path v) s.members
members-after {s} (one_added y n) x = with-member-any (named x) y s.members
members-after {s} (one_offered y n k i) x = with-cells-any (named x) y _ s.members
members-after {s} (one_removed y n k) x = without-member x (named y) s.members
members-after {s} (one_served u d k acr n f) x = serving-keeps x (member_served k d s.members) s.members

-- what is known of members
abbrev pub Knows : (ℕ → Bool) → State → Type 0
Knows f s = (x : ℕ) → f x ≡ is_member x s.members

by-same : (k : OnMembers) (f g : ℕ → Bool) → ((x : ℕ) → f x ≡ g x) → (x : ℕ) → member_by k f x ≡ member_by k g x
by-same (of_closed v) f g h x = ap (λ (b : Bool). b && not (eqb (path_of x) v)) (h x)
by-same (of_added y) f g h x = ap (λ (b : Bool). eqb y x || b) (h x)
by-same (of_offered y n) f g h x = h x
by-same (of_removed y) f g h x = ap (λ (b : Bool). b && not (eqb x y)) (h x)
by-same of_slot f g h x = h x
by-same of_none f g h x = h x

after_same : (c : Call) (a : Bool) (f g : ℕ → Bool) → ((x : ℕ) → f x ≡ g x) → (x : ℕ) → member_after c a f x ≡ member_after c a g x
after_same c true f g h x = by-same (members_of c) f g h x
after_same c false f g h x = h x

pub knows_after : {s : State} → WellFormed s → (c : Call) (f : ℕ → Bool) → Knows f s → (a : Bool) → a ≡ is_accepted (step s c).answer → Knows (member_after c a f) (step s c).state
knows_after {s} w c f h a e x =
    ap (λ (b : Bool). member_after c b f x) e ∙ after_same c (is_accepted (step s c).answer) f (λ y. is_member y s.members) h x ∙ sym (members-after (to-members w c) x)

-- the empty table has none
pub none-known : Knows no_member empty
unfolding empty any_where
none-known x = refl

-- a slot's connection is that of the name that it tells
abbrev pub NamesConnection : (ℕ → Bool) → Answer → Type 0
NamesConnection f (Refused n) = Unit
NamesConnection f (Accepted n) = Unit
NamesConnection f (Closed n k) = Unit
NamesConnection f Idle = Unit
NamesConnection f (Sent v x k a n) = connection_of f x ≡ v

pub open-alone : (s : State) → WellFormed s → (v : ℕ) (c : Connection) → find v s.entries ≡ taken c → is_member v s.members ≡ false
unfolding is_free
open-alone s w v c e = go (is_member v s.members) refl
  where
    go : (b : Bool) → is_member v s.members ≡ b → b ≡ false
    go true m = sym (w.members.no_channel v m) ∙ ap is_free e
    go false m = refl

served-connection :
    (s : State) → WellFormed s → (f : ℕ → Bool) → Knows f s → (v : ℕ) (c : Connection) → find v s.entries ≡ taken c → (k : Kind)
    → connection_of f (name_answered v (member_served k c s.members)) ≡ v
unfolding name_answered member_served
served-connection s w f h v c e Forward = rw (h v ∙ open-alone s w v c e)
served-connection s w f h v c e Turned = rw (h v ∙ open-alone s w v c e)
served-connection s w f h v c e Data = go (turn c.name c.queue.served s.members) refl
  where
    go : (o : Option ℕ) → turn c.name c.queue.served s.members ≡ o → connection_of f (name_answered v o) ≡ v
    go none p = rw (h v ∙ open-alone s w v c e)
    go (some u) p = let z = turn-picks c.name c.queue.served s.members u p in rw (h u ∙ z.member) (z.path ∙ name_of v s c e)

shown-names : {s : State} → WellFormed s → (f : ℕ → Bool) → Knows f s → {c : Call} {o : Outcome} → Shown s c o → NamesConnection f o.answer
unfolding refuse accept replay discard send_step send_from idle_step send_out_of_rate with_time
shown-names w f h (refusing c n q) = tt
shown-names w f h (accepting c n r l g) = tt
shown-names w f h (discarding c n x u r l i g) = tt
shown-names w f h (idling t room g) = tt
shown-names {s} w f h (serving t room i u g b) = served-connection s w f h u b.holder b.found (kind_at t b.holder)
shown-names w f h (serving_out_of_rate vpi vci t room d e g) = tt

pub names-connection : {s : State} → WellFormed s → (f : ℕ → Bool) → Knows f s → (c : Call) → NamesConnection f (step s c).answer
names-connection w f h c = shown-names w f h (shown w c)

-- the pair that a slot returned makes the name again
pub back : (v : ℕ) → name_from (vpi_in v) (vci_in v) ≡ v
back v = omega arith

pub connection-back : (f : ℕ → Bool) (v x : ℕ) → connection_of f x ≡ v → connection_of f (name_from (vpi_in x) (vci_in x)) ≡ v
connection-back f v x e = ap (connection_of f) (back x) ∙ e

pub went_to_lem : (f : ℕ → Bool) (a : Answer) → NamesConnection f a → went_to f (reply_of a) ≡ goes_to a
unfolding goes_to
went_to_lem f (Refused n) h = refl
went_to_lem f (Accepted n) h = refl
went_to_lem f (Closed n k) h = refl
went_to_lem f Idle h = refl
went_to_lem f (Sent v x Forward a n) h = ap some (connection-back f v x h)
went_to_lem f (Sent v x Turned a n) h = ap some (connection-back f v x h)
went_to_lem f (Sent v x Data a n) h = ap some (connection-back f v x h)
