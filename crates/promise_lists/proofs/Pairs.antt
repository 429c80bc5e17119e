-- Each call keeps the relation of two tables, and its answers agree.
use Prim.Native.Nat.{ℕ, suc, ◌+◌, ◌≤◌}
use mathlib.Core.Path.{◌≡◌, refl, sym, ap, subst}
use mathlib.Core.Bool.{Bool, true, false, cond, not, ◌&&◌}
use mathlib.Core.List.{List}
use mathlib.Core.Option.{Option, none, some}
use native.Mathlib.Nat.{le_refl}
use native.Mathlib.Omega.{arith}
use lib.Dec.{leb, eqb}
use borrow.Author.Tests.{eqb-true}
use Rattle.rate_params.specs.declared.params.Params.{Params}
use Rattle.rate.specs.Code.{rate_of}
use Rattle.rate_params.specs.Params.{peak}
use Rattle.rate_moves.specs.Moves.{moved, feedback}
use Rattle.rate_moves.proofs.FourMoves.{feedback-mono}
use Rattle.cell.specs.declared.fields.Fields.{Fields}
use Rattle.cell.specs.Read.{Reading, Refused as Unread, DataCell, RmCell}
use Rattle.cell.specs.Name.{address_fits, address_name}
use Rattle.cell.specs.Fields.{cell_name}
use Rattle.cell.specs.Reading.{reading}
use Rattle.connection_members.specs.Path.{path_vci, path_of}
use Rattle.connection_members.specs.Members.{Member, is_member, cells_of, with_member, without_member, without_path, with_cells, owner}
use Rattle.connection_members.specs.Turn.{after_serving}
use Rattle.connection.specs.declared.parts.Connection.{Connection}
use Rattle.connection.specs.declared.parts.Change.{Change}
use Rattle.connection.specs.declared.kind.Kind.{Kind}
use Rattle.connection.specs.declared.kind.Kind.TheVariants.{Forward, Turned, Data}
use Rattle.connection.specs.declared.parts.Pace.{Pace}
use Rattle.connection.specs.declared.parts.Pace.TheVariants.{Unsent, Running}
use Rattle.connection.specs.Parts.{fresh, with_queue, dequeued, changed}
use Rattle.connection.specs.Source.{offered, fed_back, after_backward_cell, after_out_of_rate, moved_by, sent_forward, sent_data, with_served}
use Rattle.connection.specs.Destination.{with_made, after_data_cell, after_forward_cell, sent_turned}
use Rattle.connection.specs.Received.{after_rm_cell}
use Rattle.connection.specs.Slot.{after, member_served}
use Rattle.connection.specs.Ready.{last_before}
use Rattle.connection.specs.Kind.{is_forward, is_turned, kind_at}
use Rattle.connection.proofs.Keeps.{moved_by-mono, moved_by-only}
use Rattle.model.specs.State.{State, Entry, free, taken, find, leaf_of, with_entry_of}
use Rattle.model.specs.Invariant.{WellFormed}
use Rattle.model.specs.Winner.{Winner, none_ready, wins, winner}
use Rattle.model.proofs.Preserved.{valid-at}
use Rattle.model.specs.Answers.{Answer, Refused, Accepted, Closed, Idle, Sent}
use Rattle.model.specs.Call.{Call, opening, closing, receiving, offering, levelling, slot, making, out_of_rate, opening_path, adding, offering_member, removing, Outcome, goes_to}
use Rattle.model.specs.Step.{refuse, accept, replay, discard, of_open, open_address, open_step, open_path_step, close_step, offer_step, with_offer, without_one, add_step, of_member, offer_member_step, remove_step, data_cell_step, read_step, receive_step, level_step, name_answered, send_from, send_step, idle_step, serve_entry, serve, slot_step, make_step, send_out_of_rate, out_of_rate_step, step}
use Rattle.promise_lists.specs.Demand3.{Comparable, equal, congested, SamePlace}
use Rattle.promise_lists.proofs.Relation.{lowered, Lower, vacant, lower, Tables, tables, is_free-same, find-lower, put-tables, with-opened-tables, room_left-same, last-same, with_time-tables, with_level-tables, with_members-tables, members-same}
use Rattle.promise_lists.proofs.Readings.{MoreCongested, NotLessCongested, alike, more_congested, reading-congested}
use Rattle.laws.specs.Require.{require}

pub data SameAnswer : Answer → Answer → Type 0 where
  refusals : (n : ℕ) → SameAnswer (Refused n) (Refused n)
  plain : (m n : ℕ) → SameAnswer (Accepted m) (Accepted n)
  closes : (k m n : ℕ) → SameAnswer (Closed m k) (Closed n k)
  idles : SameAnswer Idle Idle
  sends : (v x : ℕ) (k : Kind) (a b m n : ℕ) → SameAnswer (Sent v x k a m) (Sent v x k b n)

pub record Both (o p : Outcome) : Type 0 where
  pub states : Tables o.state p.state
  pub answers : SameAnswer o.answer p.answer

-- two outcomes that are as they should be if they go to the same connection
abbrev pub Meets : Outcome → Outcome → Type 0
Meets o p = SamePlace o p → Both o p

refuse-both : {s₁ s₂ : State} → Tables s₁ s₂ → (n : ℕ) → Both (refuse s₁ n) (refuse s₂ n)
unfolding refuse
refuse-both r n = record { states = r; answers = refusals n }

-- the comparisons may differ: ready instants hang on the rates
accept-both : (m n : ℕ) {s₁ s₂ : State} → Tables s₁ s₂ → Both (accept m s₁) (accept n s₂)
unfolding accept
accept-both m n r = record { states = r; answers = plain m n }

-- as many cells waited in both
discard-both : (k x y : ℕ) (s₁ s₂ : State) {r₁ r₂ : State} → Tables r₁ r₂ → Both (discard k x s₁ r₁) (discard k y s₂ r₂)
unfolding discard
discard-both k x y s₁ s₂ r = record { states = r; answers = closes k _ _ }

-- a test that is the same in both
require-meets :
    {s₁ s₂ : State} {o p : Outcome} → Tables s₁ s₂ → (n : ℕ) (t u : Bool) → t ≡ u → Meets o p → Meets (require (refuse s₁ n) t o) (require (refuse s₂ n) u p)
unfolding require
require-meets {s₁} {s₂} {o} {p} r n t u e h = subst (λ (u : Bool). Meets (require (refuse s₁ n) t o) (require (refuse s₂ n) u p)) e (go t)
  where
    go : (t : Bool) → Meets (require (refuse s₁ n) t o) (require (refuse s₂ n) t p)
    go true = h
    go false = λ _. refuse-both r n

-- a change of the connection of one name, open in both or in neither
of_open-meets :
    {s₁ s₂ : State} {x y : Entry} → Tables s₁ s₂ → Lower x y → (f g : Connection → Outcome)
    → ((c : Connection) (a : ℕ) (z : Change) → x ≡ taken c → a ≤ c.rate.acr → Meets (f c) (g (lowered c a z))) → Meets (of_open s₁ x f) (of_open s₂ y g)
unfolding of_open
of_open-meets r vacant f g h = λ _. refuse-both r 11
of_open-meets r (lower c a z l) f g h = h c a z refl l

-- Open, close, offer and level.
open-address-meets : {s₁ s₂ : State} → Tables s₁ s₂ → (vpi vci t : ℕ) (p : Params) → Meets (open_address s₁ vpi vci t p) (open_address s₂ vpi vci t p)
unfolding open_address replay
open-address-meets r vpi vci t p =
    require-meets r 19 _ _ refl
    (require-meets r 7 _ _ refl
    (require-meets r 29 _ _ refl
    (require-meets r 30 _ _ refl
    (require-meets r 8 _ _ refl
    (require-meets r 12 _ _ (is_free-same _ _ (find-lower (address_name vpi vci) r))
    (require-meets r 27 _ _ (ap (λ ms. not (is_member (address_name vpi vci) ms)) (members-same r))
    (require-meets r 13 _ _ (room_left-same r)
    (require-meets r 14 _ _ (ap (λ l. leb l t) (last-same r)) λ _.
    accept-both _ _ (with_time-tables t (with-opened-tables (fresh (address_name vpi vci) t p) r))))))))))

open-meets : {s₁ s₂ : State} → Tables s₁ s₂ → (vpi vci t : ℕ) (p : Params) → Meets (open_step s₁ vpi vci t p) (open_step s₂ vpi vci t p)
unfolding open_step
open-meets r vpi vci t p = require-meets r 10 _ _ refl (open-address-meets r vpi vci t p)

open-path-meets : {s₁ s₂ : State} → Tables s₁ s₂ → (vpi t : ℕ) (p : Params) → Meets (open_path_step s₁ vpi t p) (open_path_step s₂ vpi t p)
unfolding open_path_step
open-path-meets r vpi t p = open-address-meets r vpi path_vci t p

close-meets : {s₁ s₂ : State} → Tables s₁ s₂ → (v : ℕ) → Meets (close_step s₁ v) (close_step s₂ v)
unfolding close_step
close-meets (tables l t ms hs) v =
    let r = tables l t ms hs in
    of_open-meets r (find-lower v r) _ _ λ c a z e h _. discard-both c.queue.cells _ _ _ _ (with_members-tables (without_path v ms) (put-tables v vacant r))

offer-meets : {s₁ s₂ : State} → Tables s₁ s₂ → (v n : ℕ) → Meets (offer_step s₁ v n) (offer_step s₂ v n)
unfolding offer_step replay offered
offer-meets r v n =
    of_open-meets r (find-lower v r) _ _ λ c a z e l.
    require-meets r 28 _ _ refl
    (require-meets r 15 _ _ refl λ _.
    accept-both _ _ (put-tables v (lower (offered n c) a z l) r))

-- The calls on members: they hang on no rate.
add_meets : {s₁ s₂ : State} → Tables s₁ s₂ → (vpi vci : ℕ) → Meets (add_step s₁ vpi vci) (add_step s₂ vpi vci)
unfolding add_step
add_meets (tables l t ms hs) vpi vci =
    let r = tables l t ms hs in
    require-meets r 10 _ _ refl
    (of_open-meets r (find-lower (path_of (address_name vpi vci)) r) _ _ λ c a z e h.
    require-meets r 12 _ _ (is_free-same _ _ (find-lower (address_name vpi vci) r))
    (require-meets r 27 _ _ refl
    (require-meets r 26 _ _ refl λ _.
    accept-both _ _ (with_members-tables (with_member (address_name vpi vci) ms) r))))

of_member-meets :
    {s₁ s₂ : State} → Tables s₁ s₂ → (vpi vci : ℕ) (f g : Connection → Outcome)
    → ((c : Connection) (a : ℕ) (z : Change) → a ≤ c.rate.acr → Meets (f c) (g (lowered c a z))) → Meets (of_member s₁ vpi vci f) (of_member s₂ vpi vci g)
unfolding of_member
of_member-meets r vpi vci f g h =
    of_open-meets r (find-lower (address_name vpi path_vci) r) _ _ λ c a z e l.
    require-meets r 28 _ _ (ap (λ ms. address_fits vpi vci && is_member (address_name vpi vci) ms) (members-same r)) (h c a z l)

offer-member-meets : {s₁ s₂ : State} → Tables s₁ s₂ → (vpi vci n : ℕ) → Meets (offer_member_step s₁ vpi vci n) (offer_member_step s₂ vpi vci n)
unfolding offer_member_step with_offer replay offered
offer-member-meets (tables l t ms hs) vpi vci n =
    let r = tables l t ms hs in
    let x = address_name vpi vci in
    of_member-meets r vpi vci _ _ λ c a z h.
    require-meets r 15 _ _ refl λ _.
    accept-both _ _ (with_members-tables (with_cells x (cells_of x ms + n) ms) (put-tables (path_of x) (lower (offered n c) a z h) r))

remove-meets : {s₁ s₂ : State} → Tables s₁ s₂ → (vpi vci : ℕ) → Meets (remove_step s₁ vpi vci) (remove_step s₂ vpi vci)
unfolding remove_step without_one
remove-meets (tables l t ms hs) vpi vci =
    let r = tables l t ms hs in
    let x = address_name vpi vci in
    of_member-meets r vpi vci _ _ λ c a z h _.
    discard-both (cells_of x ms) _ _ _ _
    (with_members-tables (without_member x ms) (put-tables (path_of x) (lower (with_queue c (dequeued (cells_of x ms) c.queue)) a z h) r))

level-meets : {s₁ s₂ : State} → Tables s₁ s₂ → (l : ℕ) → Meets (level_step s₁ l) (level_step s₂ l)
unfolding level_step
level-meets r l = require-meets r 9 _ _ refl λ _. accept-both _ _ (with_level-tables l r)

-- Receive.
after-backward-cell-lower :
    (f g : Fields) → MoreCongested f g → (c : Connection) (a : ℕ) (z : Change) → c.rate.acr ≤ peak c.rate.params → a ≤ c.rate.acr
    → Lower (taken (after_backward_cell f c)) (taken (after_backward_cell g (lowered c a z)))
unfolding after_backward_cell feedback
after-backward-cell-lower f g h c a z u l =
    rw h.bn
    (lower (after_backward_cell f c) (fed_back g (moved c.rate a)).acr (changed a (fed_back g (moved c.rate a)).acr)
    (feedback-mono (eqb f.ci 1) (eqb f.ni 1) (eqb g.ci 1) (eqb g.ni 1) (rate_of f.er) (rate_of g.er) c.rate a l u h.level h.rate))

-- the same cell in both
work-lower :
    (level : ℕ) (o : List ℕ) (f : Fields) (c : Connection) (a : ℕ) (z : Change) → c.rate.acr ≤ peak c.rate.params → a ≤ c.rate.acr
    → Lower (taken (after_rm_cell level o f c)) (taken (after_rm_cell level o f (lowered c a z)))
unfolding after_rm_cell after_forward_cell
work-lower level o f c a z u l = go (eqb f.dir 1) refl
  where
    go : (t : Bool) → eqb f.dir 1 ≡ t → Lower (taken (cond t (after_backward_cell f c) (after_forward_cell level o c))) (taken (cond t (after_backward_cell f (lowered c a z)) (after_forward_cell level o (lowered c a z))))
    go true e = after-backward-cell-lower f f (record { name = refl; first = eqb-true _ _ e; second = eqb-true _ _ e; bn = refl; rate = le_refl _; level = le_refl _ }) c a z u l
    go false e = lower (after_forward_cell level o c) a z l

below-peak : {s : State} → WellFormed s → (v : ℕ) (c : Connection) → find v s.entries ≡ taken c → c.rate.acr ≤ peak c.rate.params
below-peak w v c e = (valid-at w v c e).1.rates.below

rm-meets : {s₁ s₂ : State} → WellFormed s₁ → Tables s₁ s₂ → (o : List ℕ) (f : Fields) → Meets (read_step s₁ o (RmCell f)) (read_step s₂ o (RmCell f))
unfolding read_step replay
rm-meets w (tables l t ms hs) o f =
    let r = tables l t ms hs in
    of_open-meets r (find-lower (cell_name f) r) _ _ λ c a z e h _. accept-both _ _ (put-tables (cell_name f) (work-lower l o f c a z (below-peak w (cell_name f) c e) h) r)

data-cell-meets : {s₁ s₂ : State} → Tables s₁ s₂ → (x : ℕ) (e : Bool) → Meets (data_cell_step s₁ x e) (data_cell_step s₂ x e)
unfolding data_cell_step replay after_data_cell
data-cell-meets (tables l t ms hs) x e =
    let r = tables l t ms hs in
    require-meets r 11 _ _ refl
    (of_open-meets r (find-lower (owner x ms) r) _ _ λ c a z _ h _. accept-both _ _ (put-tables (owner x ms) (lower (after_data_cell e c) a z h) r))

read_meets : {s₁ s₂ : State} → WellFormed s₁ → Tables s₁ s₂ → (o : List ℕ) (q : Reading) → Meets (read_step s₁ o q) (read_step s₂ o q)
unfolding read_step
read_meets w r o (Unread n) = λ _. refuse-both r n
read_meets w r o (DataCell vpi vci e) = data-cell-meets r (address_name vpi vci) e
read_meets w r o (RmCell f) = rm-meets w r o f

-- two backward cells, the second at least as congested
pub work-backward : (level : ℕ) (o : List ℕ) (f : Fields) (c : Connection) → f.dir ≡ 1 → after_rm_cell level o f c ≡ after_backward_cell f c
unfolding after_rm_cell
work-backward level o f c e = rw e

more_congested-at :
    {s₁ s₂ : State} → WellFormed s₁ → Tables s₁ s₂ → (a b : List ℕ) (f g : Fields) → MoreCongested f g → (v w : ℕ) → w ≡ v
    → Meets (of_open s₁ (find v s₁.entries) (λ c. replay (leaf_of v s₁) s₁ (with_entry_of v (taken (after_rm_cell s₁.level a f c)) s₁)))
    (of_open s₂ (find w s₂.entries) (λ c. replay (leaf_of w s₂) s₂ (with_entry_of w (taken (after_rm_cell s₂.level b g c)) s₂)))
unfolding replay
more_congested-at {s₁} {s₂} wh r a b f g k v w q =
    rw q
    (of_open-meets r (find-lower v r) _ _ λ c x z e l _.
    accept-both _ _ (put-tables v
    (rw (work-backward s₁.level a f c k.first, work-backward s₂.level b g (lowered c x z) k.second)
    (after-backward-cell-lower f g k c x z (below-peak wh v c e) l)) r))

more_congested-meets : {s₁ s₂ : State} → WellFormed s₁ → Tables s₁ s₂ → (a b : List ℕ) {q r : Reading} → NotLessCongested q r → Meets (read_step s₁ a q) (read_step s₂ b r)
unfolding read_step
more_congested-meets w r a b (alike n) = λ _. refuse-both r n
more_congested-meets w r a b (more_congested f g k) = more_congested-at w r a b f g k (cell_name f) (cell_name g) k.name

-- Slot.
forward-same : (t : ℕ) (c : Connection) (a : ℕ) (z : Change) (p : Pace) → is_forward t (lowered c a z) p ≡ is_forward t c p
unfolding is_forward last_before
forward-same t c a z Unsent = refl
forward-same t c a z (Running sent forward k turned) = refl

turned_same : (c : Connection) (a : ℕ) (z : Change) (p : Pace) → is_turned (lowered c a z) p ≡ is_turned c p
unfolding is_turned
turned_same c a z Unsent = refl
turned_same c a z (Running sent forward k turned) = refl

-- the kind hangs on no rate
kind-same : (t : ℕ) (c : Connection) (a : ℕ) (z : Change) → kind_at t (lowered c a z) ≡ kind_at t c
unfolding kind_at
kind-same t c a z = rw (forward-same t c a z c.pace, turned_same c a z c.pace)

after_lower : (k : Kind) (t : ℕ) (c : Connection) (a : ℕ) (z : Change) → a ≤ c.rate.acr → Lower (taken (after k t c)) (taken (after k t (lowered c a z)))
unfolding after sent_forward sent_turned sent_data
after_lower Forward t c a z l =
    rw (moved_by-only t c.unanswered c.pace c.rate a)
    (lower (sent_forward t c) (moved_by t c.unanswered c.pace (moved c.rate a)).acr z (moved_by-mono t c.unanswered c.pace c.rate a l))
after_lower Turned t c a z l = lower (sent_turned t c) a z l
after_lower Data t c a z l = lower (sent_data t c) a z l

-- nor does the member whose turn it is
member-same : (k : Kind) (c : Connection) (a : ℕ) (z : Change) (ms : List Member) → member_served k (lowered c a z) ms ≡ member_served k c ms
unfolding member_served
member-same Forward c a z ms = refl
member-same Turned c a z ms = refl
member-same Data c a z ms = refl

served-lower : (x : Option ℕ) {c d : Connection} → Lower (taken c) (taken d) → Lower (taken (with_served x c)) (taken (with_served x d))
unfolding with_served
served-lower x (lower c a z l) = lower (with_served x c) a z l

send-both :
    {s₁ s₂ : State} → Tables s₁ s₂ → (t v : ℕ) (c : Connection) (a : ℕ) (z : Change) → a ≤ c.rate.acr → (k : Kind) (x : Option ℕ)
    → Both (send_from s₁ t v c k x) (send_from s₂ t v (lowered c a z) k x)
unfolding send_from
send-both (tables l u ms hs) t v c a z h k x =
    record {
      states = with_members-tables (after_serving x ms) (put-tables v (served-lower x (after_lower k t c a z h)) (tables l u ms hs));
      answers = sends v (name_answered v x) k _ _ _ _;
    }

entry-both : {s₁ s₂ : State} → Tables s₁ s₂ → (t v : ℕ) {x y : Entry} → Lower x y → Both (serve_entry s₁ t v x) (serve_entry s₂ t v y)
unfolding serve_entry send_step idle_step
entry-both r t v vacant = record { states = r; answers = idles }
entry-both (tables l u ms hs) t v (lower c a z h) =
    rw (kind-same t c a z, member-same (kind_at t c) c a z ms) (send-both (tables l u ms hs) t v c a z h (kind_at t c) (member_served (kind_at t c) c ms))

pub none≢some : {v : ℕ} → ◌≡◌ {A = Option ℕ} none (some v) → ⊥
none≢some e = let z : ◌≡◌ {A = ℕ} 0 1 = cc in omega arith

pub sent-same : {v w x y : ℕ} {k l : Kind} {a n : ℕ} → v ≡ w → x ≡ y → k ≡ l → Sent v x k a n ≡ Sent w y l a n
sent-same p q r = rw (p, q, r)

-- slots that go to the same connection, or to none in both
entries-meet :
    {s₁ s₂ : State} → Tables s₁ s₂ → (t v w : ℕ) (x y : Entry) → (v ≡ w → Lower x y) → Meets (serve_entry s₁ t v x) (serve_entry s₂ t w y)
unfolding serve_entry send_step send_from idle_step goes_to
entries-meet r t v w free free h e = record { states = r; answers = idles }
entries-meet r t v w free (taken d) h e = absurd (none≢some e)
entries-meet r t v w (taken c) free h e = absurd (none≢some (sym e))
entries-meet {s₁} {s₂} r t v w (taken c) (taken d) h e =
    let q : v ≡ w = cc in
    subst (λ (w : ℕ). Both (serve_entry s₁ t v (taken c)) (serve_entry s₂ t w (taken d))) q (entry-both r t v (h q))

find_at : {s₁ s₂ : State} → Tables s₁ s₂ → (v w : ℕ) → v ≡ w → Lower (find v s₁.entries) (find w s₂.entries)
find_at r v w e = rw (← e) (find-lower v r)

-- a slot without a winner is one that goes to a free entry, of any name
serve-meets : {s₁ s₂ : State} → Tables s₁ s₂ → (t : ℕ) (x y : Winner) → Meets (serve s₁ t x) (serve s₂ t y)
unfolding serve serve_entry
serve-meets r t none_ready none_ready = entries-meet r t 0 0 free free (λ _. vacant)
serve-meets {s₁} {s₂} r t none_ready (wins j w) = entries-meet r t (suc w) w free (find w s₂.entries) (λ e. absurd (omega arith))
serve-meets {s₁} {s₂} r t (wins i v) none_ready = entries-meet r t v (suc v) (find v s₁.entries) free (λ e. absurd (omega arith))
serve-meets {s₁} {s₂} r t (wins i v) (wins j w) = entries-meet r t v w (find v s₁.entries) (find w s₂.entries) (find_at r v w)

slot-meets : {s₁ s₂ : State} → Tables s₁ s₂ → (t room : ℕ) → Meets (slot_step s₁ t room) (slot_step s₂ t room)
unfolding slot_step
slot-meets {s₁} {s₂} r t room =
    require-meets r 1 _ _ refl
    (require-meets r 8 _ _ refl
    (require-meets r 14 _ _ (ap (λ l. leb l t) (last-same r))
    (serve-meets (with_time-tables t r) t (winner t s₁.entries) (winner t s₂.entries))))

-- Making a backward cell.
make_meets : {s₁ s₂ : State} → Tables s₁ s₂ → (v t : ℕ) → Meets (make_step s₁ v t) (make_step s₂ v t)
unfolding make_step replay with_made
make_meets (tables l u ms hs) v t =
    require-meets (tables l u ms hs) 8 _ _ refl
    (of_open-meets (tables l u ms hs) (find-lower v (tables l u ms hs)) _ _ λ c a z e h.
    require-meets (tables l u ms hs) 14 _ _ refl
    (require-meets (tables l u ms hs) 16 _ _ refl
    (require-meets (tables l u ms hs) 17 _ _ refl λ _.
    accept-both _ _ (put-tables v (lower (with_made t l c) a z h) (with_time-tables t (tables l u ms hs))))))

-- An out-of-rate cell, at the same places in both: its octets may differ in CCR, as a slot's may.
out-of-rate-both : {s₁ s₂ : State} → Tables s₁ s₂ → (t v : ℕ) (c : Connection) (a : ℕ) (z : Change) → a ≤ c.rate.acr → Both (send_out_of_rate s₁ t v c) (send_out_of_rate s₂ t v (lowered c a z))
unfolding send_out_of_rate after_out_of_rate
out-of-rate-both r t v c a z l = record { states = put-tables v (lower (after_out_of_rate t c) a z l) r; answers = plain 0 0 }

out-of-rate-meets : {s₁ s₂ : State} → Tables s₁ s₂ → (v t room : ℕ) → Meets (out_of_rate_step s₁ v t room) (out_of_rate_step s₂ v t room)
unfolding out_of_rate_step
out-of-rate-meets r v t room =
    require-meets r 1 _ _ refl
    (require-meets r 8 _ _ refl
    (of_open-meets r (find-lower v r) _ _ λ c a z e l.
    require-meets r 14 _ _ (ap (λ l. leb l t) (last-same r))
    (require-meets r 18 _ _ refl λ _.
    out-of-rate-both (with_time-tables t r) t v c a z l)))

-- Every call.
same_meets : {s₁ s₂ : State} → WellFormed s₁ → Tables s₁ s₂ → (c : Call) → Meets (step s₁ c) (step s₂ c)
unfolding step receive_step
same_meets w r (opening vpi vci t p) = open-meets r vpi vci t p
same_meets w r (closing vpi vci) = close-meets r (address_name vpi vci)
same_meets w r (receiving o) = read_meets w r o (reading o)
same_meets w r (offering vpi vci n) = offer-meets r (address_name vpi vci) n
same_meets w r (levelling l) = level-meets r l
same_meets w r (slot t room) = slot-meets r t room
same_meets w r (making vpi vci t) = make_meets r (address_name vpi vci) t
same_meets w r (out_of_rate vpi vci t room) = out-of-rate-meets r (address_name vpi vci) t room
same_meets w r (opening_path vpi t p) = open-path-meets r vpi t p
same_meets w r (adding vpi vci) = add_meets r vpi vci
same_meets w r (offering_member vpi vci n) = offer-member-meets r vpi vci n
same_meets w r (removing vpi vci) = remove-meets r vpi vci

pub step-meets : {s₁ s₂ : State} → WellFormed s₁ → Tables s₁ s₂ → {c d : Call} → Comparable c d → Meets (step s₁ c) (step s₂ d)
unfolding step receive_step
step-meets w r (equal {c}) = same_meets w r c
step-meets w r (congested {a} {b} k h) = more_congested-meets w r a b (reading-congested a b k h)
