-- What each call does to one open connection, as far as its trace goes. It closes it; or it sends nothing on it,
-- and its pace, Trm and parameters stay; or it sends a cell on it that is due.
use Rattle.std.specs.Prelude.{Some}
use Prim.Native.Nat.{ℕ, ◌≤◌}
use mathlib.Core.Path.{◌≡◌, refl, sym, ap, subst, ◌∙◌}
use mathlib.Core.Logic.{◌≢◌}
use mathlib.Core.Bool.{Bool, true, false, cond}
use mathlib.Core.List.{List, [], ◌∷◌}
use mathlib.Core.Option.{Option}
use native.Mathlib.Nat.{le_refl}
use lib.Dec.{eqb}
use borrow.Author.Tests.{eq-eqb, ne_eqb}
use Rattle.rate_params.specs.declared.params.Params.{Params}
use Rattle.cell.specs.Name.{address_name}
use Rattle.cell.specs.declared.fields.Fields.{Fields}
use Rattle.cell.specs.Fields.{cell_name}
use Rattle.connection_members.specs.Path.{path_vci, path_of}
use Rattle.connection_members.specs.Members.{Member, cells_of}
use Rattle.connection.specs.declared.parts.Connection.{Connection}
use Rattle.connection.specs.Parts.{fresh, with_queue, dequeued}
use Rattle.connection.specs.Source.{offered, after_backward_cell, with_served, after_out_of_rate}
use Rattle.connection.specs.Destination.{with_made, after_data_cell, after_forward_cell}
use Rattle.connection.specs.Received.{after_rm_cell}
use Rattle.connection.specs.Slot.{after, member_served}
use Rattle.connection.specs.Ready.{ready_instant}
use Rattle.connection.specs.Kind.{kind_number, kind_at}
use Rattle.connection.proofs.Keeps.{KeepsIdentity, work-same, made-same, out-of-rate-same, after_same}
use Rattle.model.specs.State.{State, Entry, free, taken, find, with_entry_of, with_opened, with_time, with_level, with_members}
use Rattle.model.specs.Invariant.{NamesUnique}
use Rattle.model.specs.Call.{Call, closing, slot, Outcome}
use Rattle.model.specs.Aspects.{Sort, opener, closer, arrival, slot_at, another, sort_of}
use Rattle.model.specs.Step.{refuse, accept, replay, discard, with_offer, without_one, send_from, send_step, send_out_of_rate, idle_step}
use Rattle.model.specs.Queries.{entry_acr, acr_of}
use Rattle.model.specs.Run.{is_accepted}
use Rattle.model.proofs.Entries.{Case, same, other, case, taken≢free}
use Rattle.model.proofs.Frames.{put-read, with-opened-read, freed-read}
use Rattle.model.proofs.Effects.{Timely, OpenPassed, Effect, refuses, opens, closes, offers, receives_data, receives_rm, sets_level, idles, sends, makes, sends_out_of_rate, opens_path, adds, offers_member, removes}
use Rattle.promise_traces.specs.InRate.{SentCell, acr_in, cell_in, at_slot, sent_by, closes_connection, at_sort}

-- d as it is later, without a cell of its own in between
pub record Stays (d now : Connection) : Type 0 where
  pub kept : KeepsIdentity d now
  pub pace : now.pace ≡ d.pace

-- v is open with such a connection
pub record StillOpen (v : ℕ) (ss : List Entry) (d : Connection) : Type 0 where
  pub now : Connection
  pub found : find v ss ≡ taken now
  pub stays : Stays d now

-- the cell of d at t, at the rate before it
abbrev pub cell_at : ℕ → Connection → SentCell
cell_at t d = record { time = t; kind = kind_number (kind_at t d); rate = d.rate.acr }

-- the connection d of v, in the table s, after the call c with the outcome o
pub data Next (v : ℕ) (s : State) (d : Connection) (c : Call) (o : Outcome) : Type 0 where
  closed : closes_connection v c (is_accepted o.answer) ≡ true → Next v s d c o
  quiet : closes_connection v c (is_accepted o.answer) ≡ false → sent_by v s c o.answer ≡ [] → s.last ≤ o.state.last → StillOpen v o.state.entries d → Next v s d c o
  goes :
      (t i : ℕ) → closes_connection v c (is_accepted o.answer) ≡ false → sent_by v s c o.answer ≡ cell_at t d ∷ [] → Timely s t → o.state.last ≡ t
      → ready_instant d ≡ Some i → i ≤ t → StillOpen v o.state.entries (after (kind_at t d) t d) → Next v s d c o

unchanged : (d : Connection) → Stays d d
unchanged d = record { kept = record { name = refl; opened = refl; trm = refl; params = refl }; pace = refl }

offered-stays : (n : ℕ) (d : Connection) → Stays d (offered n d)
unfolding offered
offered-stays n d = record { kept = record { name = refl; opened = refl; trm = refl; params = refl }; pace = refl }

marked-stays : (b : Bool) (d : Connection) → Stays d (after_data_cell b d)
unfolding after_data_cell
marked-stays b d = record { kept = record { name = refl; opened = refl; trm = refl; params = refl }; pace = refl }

work-stays : (level : ℕ) (o : List ℕ) (f : Fields) (d : Connection) → Stays d (after_rm_cell level o f d)
unfolding after_rm_cell after_backward_cell after_forward_cell
work-stays level o f d = record { kept = work-same level o f d; pace = go (eqb f.dir 1) }
  where
    go : (b : Bool) → (cond b (after_backward_cell f d) (after_forward_cell level o d)).pace ≡ d.pace
    go true = refl
    go false = refl

-- some of its data goes without being sent
less-stays : (n : ℕ) (d : Connection) → Stays d (with_queue d (dequeued n d.queue))
less-stays n d = record { kept = record { name = refl; opened = refl; trm = refl; params = refl }; pace = refl }

-- another member was served last
served-stays : (x : Option ℕ) (d : Connection) → Stays d (with_served x d)
unfolding with_served
served-stays x d = record { kept = record { name = refl; opened = refl; trm = refl; params = refl }; pace = refl }

made-stays : (t level : ℕ) (d : Connection) → Stays d (with_made t level d)
unfolding with_made
made-stays t level d = record { kept = made-same t level d; pace = refl }

out-of-rate-stays : (t : ℕ) (d : Connection) → Stays d (after_out_of_rate t d)
unfolding after_out_of_rate
out-of-rate-stays t d = record { kept = out-of-rate-same t d; pace = refl }

taken-same : (c d : Connection) → taken c ≡ taken d → c ≡ d
taken-same c d e = cc

-- a call sends nothing unless a slot does
pub at_none : (x : Sort) (f : ℕ → List SentCell) → ((t : ℕ) → f t ≡ []) → at_sort x f ≡ []
at_none (opener v t p) f h = refl
at_none (closer v) f h = refl
at_none (arrival o) f h = refl
at_none (slot_at t) f h = h t
at_none another f h = refl

-- a refused call closes nothing and sends nothing
refused-closes : (v : ℕ) (c : Call) (s : State) (n : ℕ) → closes_connection v c (is_accepted (refuse s n).answer) ≡ false
unfolding refuse closes_connection is_accepted
refused-closes v c s n = refl

refused-sends : (v : ℕ) (c : Call) (s : State) (n : ℕ) → sent_by v s c (refuse s n).answer ≡ []
unfolding refuse sent_by at_slot cell_in
refused-sends v c s n = at_none (sort_of c) _ (λ t. refl)

module _ (v : ℕ) (s : State) (d : Connection) (e : find v s.entries ≡ taken d) where
  still : StillOpen v s.entries d
  still = record { now = d; found = e; stays = unchanged d }

  refuse-next : (n : ℕ) (c : Call) → Next v s d c (refuse s n)
  unfolding refuse
  refuse-next n c = quiet (refused-closes v c s n) (refused-sends v c s n) (le_refl s.last) still

  -- the connection of u is v's, if u is v
  holder : (u : ℕ) (x : Connection) → find u s.entries ≡ taken x → u ≡ v → x ≡ d
  holder u x f q = taken-same x d (sym f ∙ ap (λ (w : ℕ). find w s.entries) q ∙ e)

  -- the connection x of u becomes y, without a cell
  changed : (u : ℕ) → NamesUnique s.entries → (x y : Connection) → find u s.entries ≡ taken x → Stays x y → StillOpen v (with_entry_of u (taken y) s).entries d
  changed u a x y f k = go (case u v)
    where
      read : (b : Bool) → eqb u v ≡ b → find v (with_entry_of u (taken y) s).entries ≡ cond b (taken y) (find v s.entries)
      read b h = put-read (λ (z : Entry). z) v u s a x y f k.kept.name ∙ ap (λ (z : Bool). cond z (taken y) (find v s.entries)) h

      go : Case u v → StillOpen v (with_entry_of u (taken y) s).entries d
      go (same q) = record { now = y; found = read true (eq-eqb u v q); stays = subst (λ (z : Connection). Stays z y) (holder u x f q) k }
      go (other q) = record { now = d; found = read false (ne_eqb u v q) ∙ e; stays = unchanged d }

  begun : (u t : ℕ) (p : Params) → OpenPassed s u t p → StillOpen v (with_opened (fresh u t p) s).entries d
  unfolding fresh
  begun u t p g = record {
    now = d;
    found = with-opened-read (λ (x : Entry). x) v s (fresh u t p) g.new g.room ∙ ap (λ (b : Bool). cond b (taken (fresh u t p)) (find v s.entries)) (ne_eqb u v apart) ∙ e;
    stays = unchanged d;
  }
    where
      apart : u ≢ v
      apart q = taken≢free (sym e ∙ ap (λ (w : ℕ). find w s.entries) (sym q) ∙ g.new)

  ended : (u : ℕ) → NamesUnique s.entries → u ≢ v → StillOpen v (with_entry_of u free s).entries d
  ended u a q = record {
    now = d;
    found = freed-read (λ (x : Entry). x) v u s a ∙ ap (λ (b : Bool). cond b free (find v s.entries)) (ne_eqb u v q) ∙ e;
    stays = unchanged d;
  }

  rate-before : acr_in (acr_of s v) ≡ d.rate.acr
  unfolding acr_of entry_acr acr_in
  rate-before = ap (λ (x : Entry). acr_in (entry_acr x)) e

  abbrev cell_of : (t : ℕ) → Connection → (rate : ℕ) → SentCell
  cell_of t x r = record { time = t; kind = kind_number (kind_at t x); rate = r }

  ends_next : (a b : ℕ) → NamesUnique s.entries → (k x : ℕ) (ms : List Member) → Next v s d (closing a b) (discard k x s (with_members ms (with_entry_of (address_name a b) free s)))
  unfolding discard closes_connection sent_by at_slot is_accepted with_entry_of with_members
  ends_next a b u k x ms = go (case (address_name a b) v)
    where
      go : Case (address_name a b) v → Next v s d (closing a b) (discard k x s (with_members ms (with_entry_of (address_name a b) free s)))
      go (same q) = closed (eq-eqb (address_name a b) v q)
      go (other q) = quiet (ne_eqb (address_name a b) v q) refl (le_refl s.last) (ended (address_name a b) u q)

  sends-next :
      (t room i u : ℕ) → NamesUnique s.entries → Timely s t → (x : Connection) → find u s.entries ≡ taken x → ready_instant x ≡ Some i → i ≤ t
      → Next v s d (slot t room) (send_step (with_time t s) t u x (kind_at t x))
  unfolding send_step send_from closes_connection sent_by at_slot cell_in with_time with_members with_entry_of is_accepted
  sends-next t room i u a g x f r l = go (case u v)
    where
      m : Option ℕ
      m = member_served (kind_at t x) x s.members

      y : Connection
      y = with_served m (after (kind_at t x) t x)

      read : (b : Bool) → eqb u v ≡ b → find v (with_entry_of u (taken y) (with_time t s)).entries ≡ cond b (taken y) (find v s.entries)
      read b h =
          put-read (λ (z : Entry). z) v u (with_time t s) a x y f ((served-stays m (after (kind_at t x) t x)).kept.name ∙ (after_same (kind_at t x) t x).name) ∙ ap (λ (z : Bool). cond z (taken y) (find v s.entries)) h

      cells : (b : Bool) → eqb u v ≡ b → cond (eqb u v) (cell_of t x (acr_in (acr_of s v)) ∷ []) [] ≡ cond b (cell_of t x d.rate.acr ∷ []) []
      cells b h = ap (λ (z : Bool). cond z (cell_of t x (acr_in (acr_of s v)) ∷ []) []) h ∙ ap (λ (z : ℕ). cond b (cell_of t x z ∷ []) []) rate-before

      go : Case u v → Next v s d (slot t room) (send_step (with_time t s) t u x (kind_at t x))
      go (same q) =
          let z : x ≡ d = holder u x f q in
          goes t i refl (cells true (eq-eqb u v q) ∙ ap (λ (w : Connection). cell_of t w d.rate.acr ∷ []) z) g refl (ap ready_instant (sym z) ∙ r) l
          (record {
            now = y;
            found = read true (eq-eqb u v q);
            stays = subst (λ (w : Connection). Stays (after (kind_at t w) t w) y) z (served-stays m (after (kind_at t x) t x));
          })
      go (other q) = quiet refl (cells false (ne_eqb u v q)) g.since (record { now = d; found = read false (ne_eqb u v q) ∙ e; stays = unchanged d })

-- every call
pub effect-next :
    (v : ℕ) {s : State} (d : Connection) → find v s.entries ≡ taken d → NamesUnique s.entries → {c : Call} {o : Outcome} → Effect s c o → Next v s d c o
unfolding accept replay discard idle_step send_out_of_rate with_time with_level with_members with_offer without_one with_entry_of with_opened closes_connection sent_by at_slot cell_in is_accepted
effect-next v {s} d e a (refuses c n h) = refuse-next v s d e n c
effect-next v {s} d e a (opens i j t p g) = quiet refl refl g.timely.since (begun v s d e (address_name i j) t p g)
effect-next v {s} d e a (closes i j x f) = ends_next v s d e i j a _ _ _
effect-next v {s} d e a (offers i j n x f _ h) = quiet refl refl (le_refl s.last) (changed v s d e (address_name i j) a x (offered n x) f (offered-stays n x))
effect-next v {s} d e a (receives_data o i j b u x r _ _ f) = quiet refl refl (le_refl s.last) (changed v s d e u a x (after_data_cell b x) f (marked-stays b x))
effect-next v {s} d e a (receives_rm o q x r f) =
    quiet refl refl (le_refl s.last) (changed v s d e (cell_name q) a x (after_rm_cell s.level o q x) f (work-stays s.level o q x))
effect-next v {s} d e a (sets_level l h) = quiet refl refl (le_refl s.last) (still v (with_level l s) d e)
effect-next v {s} d e a (idles t room g b) = quiet refl refl g.since (still v (with_time t s) d e)
effect-next v {s} d e a (sends t room i u g b) = sends-next v s d e t room i u a g b.holder b.found b.ready_at b.due
effect-next v {s} d e a (makes i j t x f g h m) =
    quiet refl refl g.since (changed v (with_time t s) d e (address_name i j) a x (with_made t s.level x) f (made-stays t s.level x))
effect-next v {s} d e a (sends_out_of_rate i j t room x f g h) =
    quiet refl refl g.since (changed v (with_time t s) d e (address_name i j) a x (after_out_of_rate t x) f (out-of-rate-stays t x))
effect-next v {s} d e a (opens_path i t p g) = quiet refl refl g.timely.since (begun v s d e (address_name i path_vci) t p g)
effect-next v {s} d e a (adds i j x f g) = quiet refl refl (le_refl s.last) (still v s d e)
effect-next v {s} d e a (offers_member i j n x f g h) =
    quiet refl refl (le_refl s.last) (changed v s d e (path_of (address_name i j)) a x (offered n x) f (offered-stays n x))
effect-next v {s} d e a (removes i j x f g) =
    quiet refl refl (le_refl s.last)
    (changed v s d e (path_of (address_name i j)) a x (with_queue x (dequeued (cells_of (address_name i j) s.members) x.queue)) f (less-stays (cells_of (address_name i j) s.members) x))
