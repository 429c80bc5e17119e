-- Exactly four moves change an allowed rate.
use Prim.Native.Nat.{ℕ}
use mathlib.Core.Path.{◌≡◌, refl, sym, ap, ◌∙◌}
use mathlib.Core.Bool.{Bool, true, false, cond}
use mathlib.Core.List.{List}
use native.Mathlib.Omega.{arith}
use lib.Dec.{eqb}
use borrow.Author.Tests.{eqb-true, eq-eqb, ne_eqb}
use Rattle.rate_params.specs.Params.{initial_used}
use Rattle.cell.specs.declared.fields.Fields.{Fields}
use Rattle.cell.specs.Read.{RmCell}
use Rattle.cell.specs.Name.{address_name}
use Rattle.cell.specs.Fields.{cell_name}
use Rattle.cell.specs.Reading.{reading}
use Rattle.connection_members.specs.Path.{path_vci, path_of}
use Rattle.connection_members.specs.Members.{Member}
use Rattle.connection.specs.declared.parts.Connection.{Connection}
use Rattle.connection.specs.declared.parts.Pace.{Pace}
use Rattle.connection.specs.declared.parts.Pace.TheVariants.{Unsent, Running}
use Rattle.connection.specs.declared.kind.Kind.{Kind}
use Rattle.connection.specs.declared.kind.Kind.TheVariants.{Forward, Turned, Data}
use Rattle.connection.specs.Parts.{changed, fresh}
use Rattle.connection.specs.Source.{offered, after_backward_cell, after_out_of_rate, moved_by, sent_forward, sent_data, with_served}
use Rattle.connection.specs.Destination.{with_made, after_data_cell, after_forward_cell, sent_turned}
use Rattle.connection.specs.Received.{after_rm_cell}
use Rattle.connection.specs.Slot.{after, member_served}
use Rattle.connection.specs.Kind.{kind_at}
use Rattle.connection.proofs.Keeps.{work-same, after_same}
use Rattle.model.specs.State.{State, Entry, free, taken, empty, find, with_entry_of, with_time, with_level, with_members}
use Rattle.model.specs.Invariant.{NamesUnique}
use Rattle.model.proofs.Entries.{Case, same, other, case}
use Rattle.model.proofs.Frames.{put-read, with-opened-read, freed-read}
use Rattle.model.specs.Answers.{Answer, Refused, Accepted, Idle, Sent}
use Rattle.model.specs.Call.{Call, opening, closing, receiving, offering, levelling, slot, making, out_of_rate, opening_path, adding, offering_member, removing, Outcome}
use Rattle.model.specs.Aspects.{closer, sort_of}
use Rattle.model.specs.Step.{refuse, accept, replay, discard, with_offer, without_one, name_answered, send_from, send_step, idle_step, send_out_of_rate, step}
use Rattle.model.specs.Run.{final}
use Rattle.model.proofs.Effects.{Effect, refuses, opens, closes, offers, receives_data, receives_rm, sets_level, idles, sends, makes, sends_out_of_rate, opens_path, adds, offers_member, removes, effect}
use Rattle.model.proofs.Reached.{reached-well-formed}
use Rattle.model.proofs.BySort.{BySort, an_opening, an_opening_path, a_closing, a_receiving, a_slot, another_call, by_sort}
use Rattle.promise_lists.specs.Moves.{Moves, stays, first, later, fed, FourMoves}

-- the call is a close of v
pub record Closes (v : ℕ) (c : Call) : Type 0 where
  pub vpi : ℕ
  pub vci : ℕ
  pub is : c ≡ closing vpi vci
  pub name : address_name vpi vci ≡ v

pub closer-closes : (c : Call) (v : ℕ) → sort_of c ≡ closer v → Closes v c
closer-closes c v e = go (by_sort c) e
  where
    go : {c : Call} → BySort c → sort_of c ≡ closer v → Closes v c
    go (an_opening a b t p) e = let z : ◌≡◌ {A = ℕ} 0 1 = cc in absurd (omega arith)
    go (an_opening_path a t p) e = let z : ◌≡◌ {A = ℕ} 0 1 = cc in absurd (omega arith)
    go (a_closing a b) e = record { vpi = a; vci = b; is = refl; name = cc }
    go (a_receiving o) e = let z : ◌≡◌ {A = ℕ} 0 1 = cc in absurd (omega arith)
    go (a_slot t room) e = let z : ◌≡◌ {A = ℕ} 0 1 = cc in absurd (omega arith)
    go (another_call c q) e = let z : ◌≡◌ {A = ℕ} 0 1 = cc in absurd (omega arith)

-- a connection that was not open before starts at the initial rate used, without a change by a backward cell
pub record Begun (e : Connection) : Type 0 where
  pub rate : e.rate.acr ≡ initial_used e.rate.params
  pub change : e.change ≡ changed e.rate.acr e.rate.acr

-- from the entry of v before the call to the entry after it
abbrev MovesTo : ℕ → Call → Answer → Entry → Entry → Type 0
MovesTo v c a free free = Unit
MovesTo v c a free (taken e) = Begun e
MovesTo v c a (taken d) free = Closes v c
MovesTo v c a (taken d) (taken e) = Moves v d c a e.rate

rests : (v : ℕ) (c : Call) (a : Answer) (x : Entry) → MovesTo v c a x x
rests v c a free = tt
rests v c a (taken d) = stays

closed : (v vpi vci : ℕ) (a : Answer) (x : Entry) → address_name vpi vci ≡ v → MovesTo v (closing vpi vci) a x free
closed v vpi vci a free h = tt
closed v vpi vci a (taken d) h = record { vpi = vpi; vci = vci; is = refl; name = h }

self : Entry → Entry
self x = x

-- the entry of u, which may be v's, becomes y
read-moves :
    (v u : ℕ) (s : State) (c : Call) (a : Answer) (y : Entry) → (u ≡ v → MovesTo v c a (find v s.entries) y)
    → MovesTo v c a (find v s.entries) (cond (eqb u v) y (find v s.entries))
read-moves v u s c a y m = go (case u v)
  where
    go : Case u v → MovesTo v c a (find v s.entries) (cond (eqb u v) y (find v s.entries))
    go (same h) = rw (eq-eqb u v h) (m h)
    go (other h) = rw (ne_eqb u v h) (rests v c a (find v s.entries))

changes :
    (v u : ℕ) (s : State) → NamesUnique s.entries → (d e : Connection) → find u s.entries ≡ taken d → e.name ≡ d.name → (c : Call) (a : Answer)
    → (u ≡ v → Moves v d c a e.rate) → MovesTo v c a (find v s.entries) (find v (with_entry_of u (taken e) s).entries)
unfolding self
changes v u s z d e f n c a m =
    rw (put-read self v u s z d e f n) (read-moves v u s c a (taken e) (λ h. rw (ap (λ w. find w s.entries) (sym h) ∙ f) (m h)))

rm-moves :
    (v level n : ℕ) (o : List ℕ) (f : Fields) (d : Connection) → reading o ≡ RmCell f → cell_name f ≡ v → Moves v d (receiving o) (Accepted n) (after_rm_cell level o f d).rate
unfolding after_rm_cell after_backward_cell after_forward_cell
rm-moves v level n o f d r h = go (eqb f.dir 1) refl
  where
    go : (t : Bool) → eqb f.dir 1 ≡ t → Moves v d (receiving o) (Accepted n) (cond t (after_backward_cell f d) (after_forward_cell level o d)).rate
    go true e = fed f r h (eqb-true _ _ e)
    go false e = stays

forward-moves : (v t room acr n : ℕ) (d : Connection) (p : Pace) → d.pace ≡ p → Moves v d (slot t room) (Sent v v Forward acr n) (moved_by t d.unanswered p d.rate)
unfolding moved_by
forward-moves v t room acr n d Unsent e = first e
forward-moves v t room acr n d (Running sent forward k turned) e = later e

sent-moves :
    (v t room acr n : ℕ) (k : Kind) (d : Connection) (ms : List Member) → Moves v d (slot t room) (Sent v (name_answered v (member_served k d ms)) k acr n) (after k t d).rate
unfolding after sent_forward sent_turned sent_data member_served name_answered
sent-moves v t room acr n Forward d ms = forward-moves v t room acr n d d.pace refl
sent-moves v t room acr n Turned d ms = stays
sent-moves v t room acr n Data d ms = stays

effect-moves : (v : ℕ) {s : State} → NamesUnique s.entries → {c : Call} {o : Outcome} → Effect s c o → MovesTo v c o.answer (find v s.entries) (find v o.state.entries)
unfolding self refuse accept replay discard send_from send_step idle_step send_out_of_rate with_time with_level with_members with_offer without_one with_served fresh offered after_data_cell with_made after_out_of_rate
effect-moves v {s} a (refuses c n h) = rests v c (Refused n) (find v s.entries)
effect-moves v {s} a (opens vpi vci t p g) =
    rw (with-opened-read self v s (fresh (address_name vpi vci) t p) g.new g.room)
    (read-moves v (address_name vpi vci) s (opening vpi vci t p) _ (taken (fresh (address_name vpi vci) t p)) (λ h. rw (ap (λ w. find w s.entries) (sym h) ∙ g.new) (record { rate = refl; change = refl })))
effect-moves v {s} a (closes vpi vci d f) = rw (freed-read self v (address_name vpi vci) s a) (read-moves v (address_name vpi vci) s (closing vpi vci) _ free (closed v vpi vci _ (find v s.entries)))
effect-moves v {s} a (offers vpi vci n d f i b) = changes v (address_name vpi vci) s a d (offered n d) f refl (offering vpi vci n) _ (λ _. stays)
effect-moves v {s} a (receives_data o vpi vci e u d r i z f) = changes v u s a d (after_data_cell e d) f refl (receiving o) _ (λ _. stays)
effect-moves v {s} a (receives_rm o q d r f) =
    changes v (cell_name q) s a d (after_rm_cell s.level o q d) f (work-same s.level o q d).name (receiving o) _ (rm-moves v s.level _ o q d r)
effect-moves v {s} a (sets_level l b) = rests v (levelling l) (Accepted 0) (find v s.entries)
effect-moves v {s} a (idles t room g b) = rests v (slot t room) Idle (find v s.entries)
effect-moves v {s} a (sends t room i u g b) =
    let k = kind_at t b.holder in
    changes v u (with_time t s) a b.holder (with_served (member_served k b.holder s.members) (after k t b.holder)) b.found (after_same k t b.holder).name
    (slot t room) _ (λ h. rw h (sent-moves v t room _ _ k b.holder s.members))
effect-moves v {s} a (makes vpi vci t d f g b m) = changes v (address_name vpi vci) (with_time t s) a d (with_made t s.level d) f refl (making vpi vci t) _ (λ _. stays)
effect-moves v {s} a (sends_out_of_rate vpi vci t room d f g b) = changes v (address_name vpi vci) (with_time t s) a d (after_out_of_rate t d) f refl (out_of_rate vpi vci t room) _ (λ _. stays)
effect-moves v {s} a (opens_path vpi t p g) =
    rw (with-opened-read self v s (fresh (address_name vpi path_vci) t p) g.new g.room)
    (read-moves v (address_name vpi path_vci) s (opening_path vpi t p) _ (taken (fresh (address_name vpi path_vci) t p)) (λ h. rw (ap (λ w. find w s.entries) (sym h) ∙ g.new) (record { rate = refl; change = refl })))
effect-moves v {s} a (adds vpi vci d f j) = rests v (adding vpi vci) (Accepted 0) (find v s.entries)
effect-moves v {s} a (offers_member vpi vci n d f i h) = changes v (path_of (address_name vpi vci)) s a d (offered n d) f refl (offering_member vpi vci n) _ (λ _. stays)
effect-moves v {s} a (removes vpi vci d f i) = changes v (path_of (address_name vpi vci)) s a d _ f refl (removing vpi vci) _ (λ _. stays)

-- in any table without a name twice: the connection stays open, if the call is no close of it
pub record StillOpen (v : ℕ) (s : State) : Type 0 where
  pub holder : Connection
  pub found : find v s.entries ≡ taken holder

pub still_open :
    (s : State) → NamesUnique s.entries → (c : Call) (v : ℕ) (d : Connection) → find v s.entries ≡ taken d → (Closes v c → ⊥) → StillOpen v (step s c).state
still_open s a c v d f n = go (find v (step s c).state.entries) refl (effect-moves v a (effect s a c))
  where
    go :
        (y : Entry) → find v (step s c).state.entries ≡ y → MovesTo v c (step s c).answer (find v s.entries) (find v (step s c).state.entries)
        → StillOpen v (step s c).state
    go free e m = let k : Closes v c = rw (f, e) at m in absurd (n k)
    go (taken h) e m = record { holder = h; found = e }

-- and its rate moves so
pub moves-at :
    (s : State) → NamesUnique s.entries → (c : Call) (v : ℕ) (d e : Connection) → find v s.entries ≡ taken d → find v (step s c).state.entries ≡ taken e
    → Moves v d c (step s c).answer e.rate
moves-at s a c v d e f h = let m = effect-moves v a (effect s a c) in rw (f, h) at m

pub newly-opened-at :
    (s : State) → NamesUnique s.entries → (c : Call) (v : ℕ) (e : Connection) → find v s.entries ≡ free → find v (step s c).state.entries ≡ taken e → Begun e
newly-opened-at s a c v e f h = let m = effect-moves v a (effect s a c) in rw (f, h) at m

pub four-moves : FourMoves
four-moves cs c v d e f h = moves-at (final empty cs) (reached-well-formed cs).unique c v d e f h
