-- The leaf that a caller keeps of a name is the number of its entry.
use Prim.Native.Nat.{ℕ, zero, suc, ◌<◌, ◌≤◌}
use mathlib.Core.Path.{◌≡◌, refl, sym, ap, subst, ◌∙◌}
use mathlib.Core.Logic.{◌≢◌}
use mathlib.Core.Bool.{Bool, true, false, cond, true≢false}
use mathlib.Core.List.{List, [], ◌∷◌}
use mathlib.Core.Option.{Option, none, some}
use native.Mathlib.Omega.{arith}
use lib.Dec.{leb, eqb}
use lib.ListN.{get_or, set, replicate}
use lib.Seq.{get_or-set_same}
use borrow.Author.Tests.{ltb-true, eq-eqb, ne_eqb}
use Rattle.laws.specs.Require.{require}
use Rattle.rate_params.specs.declared.params.Params.{Params}
use Rattle.cell.specs.Name.{address_name}
use Rattle.cell.specs.declared.fields.Fields.{Fields}
use Rattle.cell.specs.Header.{type_of}
use Rattle.cell.specs.Fields.{fields_of, cell_name}
use Rattle.cell.specs.Read.{Reading, Refused as Unread, DataCell, RmCell}
use Rattle.cell.specs.Reading.{reading}
use Rattle.cell.proofs.Names.{address-back}
use Rattle.connection_members.specs.Path.{path_vci, path_of}
use Rattle.connection_members.specs.Members.{is_member, cells_of, owner}
use Rattle.connection.specs.declared.parts.Connection.{Connection}
use Rattle.connection.specs.Invariant.{ValidAt}
use Rattle.connection.specs.Parts.{fresh, with_queue, dequeued}
use Rattle.connection.specs.Source.{offered, with_served, after_out_of_rate}
use Rattle.connection.specs.Destination.{with_made, after_data_cell}
use Rattle.connection.specs.Received.{after_rm_cell}
use Rattle.connection.specs.Slot.{after, member_served}
use Rattle.connection.specs.Kind.{kind_at}
use Rattle.connection.proofs.Keeps.{work-same, after_same}
use Rattle.model.specs.State.{State, Entry, free, taken, capacity, empty, position, is_free, holds, find, leaf_of, with_entry_of, with_opened, room_left, with_time, with_level, with_members}
use Rattle.model.specs.Invariant.{OnEntry, NamesUnique, WellFormed}
use Rattle.model.specs.Answers.{Answer, Refused, Accepted, Closed, Idle, Sent}
use Rattle.model.specs.Call.{Call, receiving, slot, Outcome}
use Rattle.model.specs.Aspects.{arrival, sort_of}
use Rattle.model.specs.Step.{refuse, accept, replay, discard, with_offer, without_one, send_from, send_step, send_out_of_rate, idle_step, step}
use Rattle.model.specs.Run.{final, is_accepted}
use Rattle.model.specs.Details.{opened_with, sent_with}
use Rattle.model.specs.Status.{entry_status, leaf_status, status_of, status_at}
use Rattle.model.proofs.Entries.{each-get, each_set, each_free, unique-set, Case, same, other, case, find-name, find_absent, absent-find, taken≢free, taken_in, lowest-free, entry_place}
use Rattle.model.proofs.Frames.{name_of, put-kept, with-opened-read, freed-read}
use Rattle.model.proofs.Effects.{Effect, refuses, opens, closes, offers, receives_data, receives_rm, sets_level, idles, sends, makes, sends_out_of_rate, opens_path, adds, offers_member, removes, effect}
use Rattle.model.proofs.Shown.{Shown, refusing, accepting, discarding, idling, serving, serving_out_of_rate, shown}
use Rattle.abr_answers.specs.declared.status.AbrConnection.{AbrConnection}
use Rattle.abr_answers.specs.Details.{opened_of, sent_of}
use Rattle.abr_answers.specs.Reply.{Reply, reply_of}
use Rattle.abr_answers.specs.Status.{connection_shown}
use Rattle.abr.specs.Contract.{ReturnsStatus, ReturnsAt}
use Rattle.abr.specs.Exports.{Besides, besides_by, Observation, Performs, Transcript, final_words, zeros}
use Rattle.promise_traces.specs.Traces.{Opening, channel, path}
use Rattle.exports.specs.Known.{Opened, KnownMember, name_in}
use Rattle.exports.specs.Returned.{no_member, members_seen, connection_of, connection_returned}
use Rattle.exports.proofs.Returned.{Knows, open-alone, NamesConnection, names-connection, connection-back}
use Rattle.exports.proofs.Transport.{Sees, sees, Keeps, stands-first, kept-so, stands, was-accepted}
use Rattle.exports.proofs.Known.{Held, members-known, is_open_lem, known-open}
use Rattle.exports_answers.specs.Leaves.{leaf_by, leaf_noted, leaf_kept, HasLeaf, LowestFree, AnswersFor, ExportsLeaves}
use native.Mathlib.Nat.{le_refl}
use Rattle.model.specs.Orders.{open_count}
use Rattle.exports_orders.proofs.OpenCount.{open-noted}
use Rattle.exports_answers.proofs.Received.{Names, reading-names, data-name, rm-name, owner-known, open-owner}

-- the leaf of a name, if it is open
abbrev leaf_at : (leaf : ℕ) → Entry → Option ℕ
leaf_at l free = none
leaf_at l (taken c) = some l

abbrev leaf_in : ℕ → State → Option ℕ
leaf_in v s = leaf_at (leaf_of v s) (find v s.entries)

-- One entry changes: the place of a name is the same, if it holds the name as before.
place_kept : (v : ℕ) (ss : List Entry) (i : ℕ) (x : Entry) → holds v (get_or ss i free) ≡ holds v x → position (holds v) (set ss i x) ≡ position (holds v) ss
unfolding position
place_kept v [] i x e = refl
place_kept v (s ∷ ss) zero x e = ap (λ (b : Bool). cond b 0 (suc (position (holds v) ss))) (sym e)
place_kept v (s ∷ ss) (suc i) x e = ap (λ (n : ℕ). cond (holds v s) 0 (suc n)) (place_kept v ss i x e)

-- a connection in its own entry
put-place : (v u : ℕ) (s : State) (c d : Connection) → find u s.entries ≡ taken c → d.name ≡ c.name → leaf_of v (with_entry_of u (taken d) s) ≡ leaf_of v s
unfolding with_entry_of find holds
put-place v u s c d e n = place_kept v s.entries (position (holds u) s.entries) (taken d) (ap (holds v) e ∙ ap (λ (m : ℕ). eqb m v) (sym n))

put-leaf :
    (v u : ℕ) (s : State) → NamesUnique s.entries → (c d : Connection) → find u s.entries ≡ taken c → d.name ≡ c.name → leaf_in v (with_entry_of u (taken d) s) ≡ leaf_in v s
put-leaf v u s a c d e n =
    put-kept (leaf_at (leaf_of v (with_entry_of u (taken d) s))) v u s a c d e n refl ∙ ap (λ (l : ℕ). leaf_at l (find v s.entries)) (put-place v u s c d e n)

-- the entries before the lowest free one are in use
leading-open : (ss : List Entry) → position is_free ss ≤ open_count ss
unfolding position is_free open_count
leading-open [] = le_refl 0
leading-open (free ∷ ss) = omega arith
leading-open (taken c ∷ ss) = omega (arith, leading-open ss)

-- a new connection in the lowest free entry
own-place :
    (s : State) (d : Connection) → NamesUnique s.entries → find d.name s.entries ≡ free → room_left s ≡ true
    → leaf_of d.name (with_opened d s) ≡ position is_free s.entries
unfolding with_opened room_left
own-place s d a e room =
    let ss = s.entries in
    let i = position is_free ss in
    entry_place (set ss i (taken d)) (unique-set ss i (taken d) a (each_set (λ c. c.name ≢ d.name) ss (find_absent d.name ss e) i free tt)) i d
    (get_or-set_same ss i (taken d) free (ltb-true _ _ room))

others-place : (v : ℕ) (s : State) (d : Connection) → d.name ≢ v → leaf_of v (with_opened d s) ≡ leaf_of v s
unfolding with_opened holds
others-place v s d n = place_kept v s.entries (position is_free s.entries) (taken d) (ap (holds v) (lowest-free s.entries) ∙ sym (ne_eqb d.name v n))

opened-leaf :
    (v : ℕ) (s : State) (d : Connection) → NamesUnique s.entries → find d.name s.entries ≡ free → room_left s ≡ true
    → leaf_in v (with_opened d s) ≡ cond (eqb d.name v) (some (position is_free s.entries)) (leaf_in v s)
opened-leaf v s d a e room = with-opened-read (leaf_at (leaf_of v (with_opened d s))) v s d e room ∙ go (case d.name v)
  where
    go : Case d.name v
        → cond (eqb d.name v) (some (leaf_of v (with_opened d s))) (leaf_at (leaf_of v (with_opened d s)) (find v s.entries))
        ≡ cond (eqb d.name v) (some (position is_free s.entries)) (leaf_in v s)
    go (same h) = rw (eq-eqb d.name v h) (ap (λ (u : ℕ). some (leaf_of u (with_opened d s))) (sym h) ∙ ap some (own-place s d a e room))
    go (other h) = rw (ne_eqb d.name v h) (ap (λ (l : ℕ). leaf_at l (find v s.entries)) (others-place v s d h))

-- an entry made free
not-held : (u v : ℕ) → u ≢ v → (x : Entry) → OnEntry (λ c. c.name ≡ u) x → holds v x ≡ false
unfolding holds
not-held u v n free h = refl
not-held u v n (taken c) h = ne_eqb c.name v (λ e. n (sym h ∙ e))

left-place : (v u : ℕ) (s : State) → u ≢ v → leaf_of v (with_entry_of u free s) ≡ leaf_of v s
unfolding with_entry_of find holds
left-place v u s n = place_kept v s.entries (position (holds u) s.entries) free (not-held u v n (find u s.entries) (find-name u s.entries))

freed-leaf : (v u : ℕ) (s : State) → NamesUnique s.entries → leaf_in v (with_entry_of u free s) ≡ cond (eqb u v) none (leaf_in v s)
freed-leaf v u s a = freed-read (leaf_at (leaf_of v (with_entry_of u free s))) v u s a ∙ go (case u v)
  where
    go : Case u v → cond (eqb u v) none (leaf_at (leaf_of v (with_entry_of u free s)) (find v s.entries)) ≡ cond (eqb u v) none (leaf_in v s)
    go (same h) = rw (eq-eqb u v h) refl
    go (other h) = rw (ne_eqb u v h) (ap (λ (l : ℕ). leaf_at l (find v s.entries)) (left-place v u s h))

-- What a caller keeps.
module _ (v : ℕ) where
  effect-leaf :
      {s : State} → NamesUnique s.entries → {c : Call} {o : Outcome} → Effect s c o
      → leaf_in v o.state ≡ cond (is_accepted o.answer) (leaf_by v (besides_by s o (sort_of c)).leaf (leaf_in v s) (sort_of c)) (leaf_in v s)
  unfolding refuse accept replay discard send_step send_from idle_step send_out_of_rate with_offer without_one with_served with_time with_level with_members is_accepted fresh offered after_data_cell with_made after_out_of_rate
  effect-leaf w (refuses c n h) = refl
  effect-leaf {s} w (opens a b t p g) = opened-leaf v s (fresh (address_name a b) t p) w g.new g.room
  effect-leaf {s} w (closes a b d f) = freed-leaf v (address_name a b) s w
  effect-leaf {s} w (offers a b n d f i h) = put-leaf v (address_name a b) s w d (offered n d) f refl
  effect-leaf {s} w (receives_data o a b e u d r i z f) = put-leaf v u s w d (after_data_cell e d) f refl
  effect-leaf {s} w (receives_rm o q d r f) = put-leaf v (cell_name q) s w d (after_rm_cell s.level o q d) f (work-same s.level o q d).name
  effect-leaf w (sets_level l h) = refl
  effect-leaf w (idles t room g b) = refl
  effect-leaf {s} w (sends t room i u g b) =
      let k = kind_at t b.holder in
      put-leaf v u (with_time t s) w b.holder (with_served (member_served k b.holder s.members) (after k t b.holder)) b.found (after_same k t b.holder).name
  effect-leaf {s} w (makes a b t d f g h m) = put-leaf v (address_name a b) (with_time t s) w d (with_made t s.level d) f refl
  effect-leaf {s} w (sends_out_of_rate a b t room d f g h) = put-leaf v (address_name a b) (with_time t s) w d (after_out_of_rate t d) f refl
  effect-leaf {s} w (opens_path a t p g) = opened-leaf v s (fresh (address_name a path_vci) t p) w g.new g.room
  effect-leaf w (adds a b d f j) = refl
  effect-leaf {s} w (offers_member a b n d f i h) = put-leaf v (path_of (address_name a b)) s w d (offered n d) f refl
  effect-leaf {s} w (removes a b d f i) =
      put-leaf v (path_of (address_name a b)) s w d (with_queue d (dequeued (cells_of (address_name a b) s.members) d.queue)) f refl

  keeps-leaf : Keeps (leaf_noted v) (λ k s. k ≡ leaf_in v s)
  keeps-leaf = record {
    goes = λ s c o k m z.
        (λ i. cond (z.accepted i) (leaf_by v (z.besides i).leaf (m i) (sort_of c)) (m i)) ∙ sym (effect-leaf z.well_formed.unique (effect s z.well_formed.unique c));
  }

  no-leaf : none ≡ leaf_in v empty
  unfolding empty
  no-leaf = rw (absent-find v (replicate capacity free) (each_free (λ c. c.name ≢ v) capacity)) refl

  pub leaf-kept : (cs : List Call) (os : List Observation) → Transcript cs zeros os → leaf_kept v cs os ≡ leaf_in v (final empty cs)
  leaf-kept cs os t = kept-so (leaf_noted v) (λ k s. k ≡ leaf_in v s) keeps-leaf empty zeros stands-first none no-leaf cs os t

-- What a leaf says of the entries.
record Placed (v l : ℕ) (s : State) : Type 0 where
  holder : Connection
  found : find v s.entries ≡ taken holder
  there : get_or s.entries l free ≡ taken holder

placed : (v l : ℕ) (s : State) → leaf_in v s ≡ some l → Placed v l s
unfolding find
placed v l s e = go (find v s.entries) refl e
  where
    go : (x : Entry) → find v s.entries ≡ x → leaf_at (leaf_of v s) x ≡ some l → Placed v l s
    go free f q = let z : ◌≡◌ {A = ℕ} 0 1 = cc in absurd (omega arith)
    go (taken c) f q = let i : leaf_of v s ≡ l = cc in record { holder = c; found = f; there = ap (λ (n : ℕ). get_or s.entries n free) (sym i) ∙ f }

held-leaf : (v : ℕ) (s : State) (c : Connection) → find v s.entries ≡ taken c → leaf_in v s ≡ some (leaf_of v s)
held-leaf v s c e = ap (leaf_at (leaf_of v s)) e

-- the connection in an entry has its leaf
there-leaf : (s : State) → NamesUnique s.entries → (l : ℕ) (c : Connection) → get_or s.entries l free ≡ taken c → leaf_in c.name s ≡ some l
unfolding find
there-leaf s a l c e =
    let i = entry_place s.entries a l c e in
    held-leaf c.name s c (ap (λ (n : ℕ). get_or s.entries n free) i ∙ e) ∙ ap some i

same-holder : {c d : Connection} → taken c ≡ taken d → c.name ≡ d.name
same-holder e = cc

placed-open : (v l : ℕ) (s : State) → Placed v l s → is_free (find v s.entries) ≡ false
unfolding is_free
placed-open v l s h = ap is_free h.found

held : (v : ℕ) (s : State) → is_free (find v s.entries) ≡ false → Held v s
unfolding is_free
held v s e = go (find v s.entries) refl e
  where
    go : (x : Entry) → find v s.entries ≡ x → is_free x ≡ false → Held v s
    go free f q = absurd (true≢false q)
    go (taken c) f q = record { holder = c; found = f }

-- an entry below the lowest free one
record Used (i : ℕ) (ss : List Entry) : Type 0 where
  holder : Connection
  here : get_or ss i free ≡ taken holder

below_free : (ss : List Entry) (i : ℕ) → i < position is_free ss → Used i ss
unfolding position is_free
below_free [] i l = absurd (omega (arith, l))
below_free (free ∷ ss) i l = absurd (omega (arith, l))
below_free (taken c ∷ ss) zero l = record { holder = c; here = refl }
below_free (taken c ∷ ss) (suc i) l = let z = below_free ss i (omega (arith, l)) in record { holder = z.holder; here = z.here }

-- The leaf that a call returns.
opened_with_lem : (l : ℕ) (a : Answer) → is_accepted a ≡ true → (opened_of (opened_with l a)).leaf ≡ l
unfolding is_accepted
opened_with_lem l (Refused n) e = absurd (true≢false (sym e))
opened_with_lem l (Accepted n) e = refl
opened_with_lem l (Closed n k) e = refl
opened_with_lem l Idle e = refl
opened_with_lem l (Sent v x k a n) e = refl

open-leaf : {s : State} {c : Call} {v : ℕ} {p : Params} {o : Observation} → Opening c v p → Sees s c o → o.returned.refusal ≡ 0 → o.besides.leaf ≡ position is_free s.entries
open-leaf {s} {c} (channel a b t p) z e = ap (λ (b : Besides). b.leaf) z.besides ∙ opened_with_lem (position is_free s.entries) (step s c).answer (was-accepted z e)
open-leaf {s} {c} (path a t p) z e = ap (λ (b : Besides). b.leaf) z.besides ∙ opened_with_lem (position is_free s.entries) (step s c).answer (was-accepted z e)

-- a slot goes to an open connection
abbrev FromOpen : State → Answer → Type 0
FromOpen s (Refused n) = Unit
FromOpen s (Accepted n) = Unit
FromOpen s (Closed n k) = Unit
FromOpen s Idle = Unit
FromOpen s (Sent v x k a n) = Held v s

shown-open : {s : State} {c : Call} {p : Outcome} → Shown s c p → FromOpen s p.answer
unfolding refuse accept replay discard send_step send_from idle_step send_out_of_rate with_time
shown-open (refusing c n q) = tt
shown-open (accepting c n r l g) = tt
shown-open (discarding c n x u r l i g) = tt
shown-open (idling t room g) = tt
shown-open (serving t room i u g b) = record { holder = b.holder; found = b.found }
shown-open (serving_out_of_rate a b t room d e g) = tt

sent-leaf :
    (s : State) (f : ℕ → Bool) (a : Answer) → FromOpen s a → NamesConnection f a → ((reply_of a).kind ≡ 0 → ⊥) → leaf_in (connection_returned f (reply_of a)) s ≡ some (sent_of (sent_with s a)).leaf
sent-leaf s f (Refused n) h c k = absurd (k refl)
sent-leaf s f (Accepted n) h c k = absurd (k refl)
sent-leaf s f (Closed n m) h c k = absurd (k refl)
sent-leaf s f Idle h c k = absurd (k refl)
sent-leaf s f (Sent v x m a n) h c k = ap (λ (u : ℕ). leaf_in u s) (connection-back f v x c) ∙ held-leaf v s h.holder h.found

received-leaf :
    {s : State} → WellFormed s → (f : ℕ → Bool) → Knows f s → {octets : List ℕ} {p : Outcome} → Effect s (receiving octets) p → is_accepted p.answer ≡ true
    → leaf_in (connection_of f (name_in octets)) s ≡ some (besides_by s p (arrival octets)).leaf
unfolding refuse accept replay is_accepted
received-leaf w f k (refuses c n h) a = absurd (true≢false (sym a))
received-leaf {s} w f k (receives_data o a b e u d r i z h) g =
    let n = data-name (subst (Names (name_in o)) r (reading-names o)) in
    let q : connection_of f (name_in o) ≡ owner (address_name a b) s.members = owner-known s f k (name_in o) ∙ ap (λ (x : ℕ). owner x s.members) n in
    rw (r, q) (held-leaf (owner (address_name a b) s.members) s d (ap (λ (x : ℕ). find x s.entries) z ∙ h))
received-leaf {s} w f k (receives_rm o c d r h) g =
    let n = rm-name (subst (Names (name_in o)) r (reading-names o)) in
    let q : connection_of f (name_in o) ≡ cell_name c = owner-known s f k (name_in o) ∙ ap (λ (x : ℕ). owner x s.members) n ∙ open-owner w (cell_name c) d h in
    rw (r, q) (held-leaf (cell_name c) s d h)

-- Readings.
entry-leaf : (x l : ℕ) (m : Option ℕ) (y : Entry) (c : Connection) → y ≡ taken c → (connection_shown (entry_status x l m y)).leaf ≡ l
unfolding entry_status
entry-leaf x l m free c e = let z : ◌≡◌ {A = ℕ} 0 1 = cc in absurd (omega arith)
entry-leaf x l none (taken d) c e = refl
entry-leaf x l (some n) (taken d) c e = refl

status-leaf : (s : State) (x u : ℕ) → owner x s.members ≡ u → (c : Connection) → find u s.entries ≡ taken c → (connection_shown (status_of s x)).leaf ≡ leaf_of u s
unfolding status_of
status-leaf s x u o c e = entry-leaf x _ _ _ c (ap (λ (n : ℕ). find n s.entries) o ∙ e) ∙ ap (λ (n : ℕ). leaf_of n s) o

at-taken : (s : State) → WellFormed s → (l : ℕ) (c : Connection) → get_or s.entries l free ≡ taken c → AnswersFor c.name l (connection_shown (status_at s l))
unfolding status_at leaf_status entry_status
at-taken s w l c e =
    let z : ValidAt s.last c = subst (OnEntry (ValidAt s.last)) e (each-get (ValidAt s.last) s.entries w.each l) in
    rw e (record { refusal = refl; name = address-back c.name z.0.coded; leaf = refl })

at-free : (s : State) (l : ℕ) → ((c : Connection) → get_or s.entries l free ≡ taken c → ⊥) → (connection_shown (status_at s l)).refusal ≡ 11
unfolding status_at leaf_status
at-free s l h = go (get_or s.entries l free) h
  where
    go : (x : Entry) → ((c : Connection) → x ≡ taken c → ⊥) → (connection_shown (leaf_status l x)).refusal ≡ 11
    go free k = refl
    go (taken c) k = absurd (k c refl)

-- As a caller keeps it.
module _ (cs : List Call) (os : List Observation) (t : Transcript cs zeros os) where
  abbrev here : State
  here = final empty cs

  whole : WellFormed here
  whole = (stands cs os t).well_formed

  in_place : (v l : ℕ) → leaf_kept v cs os ≡ some l → Placed v l here
  in_place v l e = placed v l here (sym (leaf-kept v cs os t) ∙ e)

  has-leaf : (v l : ℕ) → leaf_in v here ≡ some l → leaf_kept v cs os ≡ some l
  has-leaf v l e = leaf-kept v cs os t ∙ e

  taken-by : (l : ℕ) (c : Connection) → get_or here.entries l free ≡ taken c → leaf_kept c.name cs os ≡ some l
  taken-by l c e = has-leaf c.name l (there-leaf here whole.unique l c e)

  range : (v l : ℕ) → leaf_kept v cs os ≡ some l → l < capacity
  range v l e = let h = in_place v l e in subst (λ (n : ℕ). l < n) whole.size (taken_in here.entries l h.holder h.there)

  name-placed : (v l : ℕ) → (h : Placed v l here) → h.holder.name ≡ v
  name-placed v l h = name_of v here h.holder h.found

  apart : (u v l : ℕ) → leaf_kept u cs os ≡ some l → leaf_kept v cs os ≡ some l → u ≡ v
  apart u v l d e =
      let h = in_place u l d in
      let k = in_place v l e in
      sym (name-placed u l h) ∙ same-holder (sym h.there ∙ k.there) ∙ name-placed v l k

  of-open : (v : ℕ) → Opened cs os v → HasLeaf cs os v
  of-open v h = let k = held v here (is_open_lem cs os t v h) in record { leaf = leaf_of v here; is_kept = has-leaf v _ (held-leaf v here k.holder k.found) }

  lowest : {c : Call} {v : ℕ} {p : Params} → Opening c v p → (o : Observation) → Performs c (final_words zeros os) o → o.returned.refusal ≡ 0 → LowestFree cs os o.besides.leaf
  lowest q o h e =
      let i = open-leaf q (sees (stands cs os t) h) e in
      rw i (record {
        below = λ j l. let z = below_free here.entries j l in record { name = z.holder.name; is_kept = taken-by j z.holder z.here };
        not_taken = λ v k. let z = in_place v _ k in taken≢free (sym z.there ∙ lowest-free here.entries);
        few = subst (λ (n : ℕ). position is_free here.entries ≤ n) (sym (open-noted cs os t)) (leading-open here.entries);
      })

  sent :
      (u room : ℕ) (o : Observation) → Performs (slot u room) (final_words zeros os) o → (o.returned.kind ≡ 0 → ⊥)
      → leaf_kept (connection_returned (members_seen no_member cs os) o.returned) cs os ≡ some o.besides.leaf
  sent u room o h k =
      let z = sees (stands cs os t) h in
      let a = (step here (slot u room)).answer in
      rw (z.besides, z.matches.returned)
      (has-leaf _ _ (sent-leaf here (members_seen no_member cs os) a (shown-open (shown whole (slot u room))) (names-connection whole _ (members-known cs os t) (slot u room))
      (λ e. k (ap (λ (r : Reply). r.kind) z.matches.returned ∙ e))))

  received :
      (octets : List ℕ) (o : Observation) → Performs (receiving octets) (final_words zeros os) o → o.returned.refusal ≡ 0
      → leaf_kept (connection_of (members_seen no_member cs os) (name_in octets)) cs os ≡ some o.besides.leaf
  received octets o h e =
      let z = sees (stands cs os t) h in
      rw z.besides (has-leaf _ _ (received-leaf whole (members_seen no_member cs os) (members-known cs os t) (effect here whole.unique (receiving octets)) (was-accepted z e)))

  status : (v l : ℕ) → leaf_kept v cs os ≡ some l → (r : AbrConnection) → ReturnsStatus v (final_words zeros os) r → r.leaf ≡ l
  status v l e r h =
      let k = in_place v l e in
      let i : leaf_of v here ≡ l = cc (held-leaf v here k.holder k.found, leaf-kept v cs os t) in
      ap (λ (x : AbrConnection). x.leaf) (h.meets here whole (stands cs os t).table) ∙ status-leaf here v v (open-owner whole v k.holder k.found) k.holder k.found ∙ i

  member-status : (x : ℕ) → KnownMember cs os x → (r : AbrConnection) → ReturnsStatus x (final_words zeros os) r → leaf_kept (path_of x) cs os ≡ some r.leaf
  unfolding owner
  member-status x m r h =
      let q : is_member x here.members ≡ true = sym (members-known cs os t x) ∙ m in
      let k = held (path_of x) here (whole.members.on_open_path x q) in
      let o : owner x here.members ≡ path_of x = ap (λ (b : Bool). cond b (path_of x) x) q in
      let i = ap (λ (y : AbrConnection). y.leaf) (h.meets here whole (stands cs os t).table) ∙ status-leaf here x (path_of x) o k.holder k.found in
      has-leaf (path_of x) r.leaf (held-leaf (path_of x) here k.holder k.found ∙ ap some (sym i))

  answers : (v l : ℕ) → leaf_kept v cs os ≡ some l → (r : AbrConnection) → ReturnsAt l (final_words zeros os) r → AnswersFor v l r
  answers v l e r h =
      let k = in_place v l e in
      rw (h.meets here whole (stands cs os t).table, ← name-placed v l k) (at-taken here whole l k.holder k.there)

  answers-none : (l : ℕ) → ((v : ℕ) → leaf_kept v cs os ≡ some l → ⊥) → (r : AbrConnection) → ReturnsAt l (final_words zeros os) r → r.refusal ≡ 11
  answers-none l n r h =
      ap (λ (x : AbrConnection). x.refusal) (h.meets here whole (stands cs os t).table) ∙ at-free here l (λ c e. n c.name (taken-by l c e))

pub exports-leaves : ExportsLeaves
exports-leaves = record {
  range = range;
  apart = apart;
  of_open = of-open;
  is_open = λ cs os t v l e. known-open cs os t v (placed-open v l (final empty cs) (in_place cs os t v l e));
  lowest = λ cs os t c v p q o h e. lowest cs os t q o h e;
  sent = sent;
  received = received;
  status = status;
  member_status = member-status;
  at_taken = answers;
  at_free = answers-none;
}
