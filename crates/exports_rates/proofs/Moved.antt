-- Exactly four moves change the rate that abr_acr returns.
use Prim.Native.Nat.{ℕ, ◌<◌}
use mathlib.Core.Path.{◌≡◌, refl, sym, ap, subst, ◌∙◌}
use mathlib.Core.Bool.{Bool, true, false, cond}
use mathlib.Core.List.{List}
use mathlib.Core.Logic.{◌≢◌}
use native.Mathlib.Omega.{arith}
use lib.Dec.{eqb}
use borrow.Author.Tests.{eq-eqb, ne_eqb}
use Rattle.rate_params.specs.declared.params.Params.{Params}
use Rattle.rate_moves.specs.declared.moves.Rate.{Rate}
use Rattle.rate.specs.Code.{rate_of}
use Rattle.rate_moves.specs.Moves.{feedback}
use Rattle.cell.specs.declared.fields.Fields.{Fields}
use Rattle.cell.specs.Read.{Reading, RmCell}
use Rattle.cell.specs.Name.{address_name}
use Rattle.cell.specs.Fields.{cell_name}
use Rattle.connection_members.specs.Path.{path_vci, path_of}
use Rattle.connection_members.specs.Members.{Member}
use Rattle.connection.specs.declared.parts.Connection.{Connection}
use Rattle.connection.specs.declared.parts.Pace.{Pace}
use Rattle.connection.specs.declared.parts.Pace.TheVariants.{Unsent, Running}
use Rattle.connection.specs.declared.kind.Kind.{Kind}
use Rattle.connection.specs.declared.kind.Kind.TheVariants.{Forward, Turned, Data}
use Rattle.connection.specs.Parts.{fresh}
use Rattle.connection.specs.Source.{offered, after_backward_cell, after_out_of_rate, moved_by, sent_forward, sent_data, with_served}
use Rattle.connection.specs.Destination.{with_made, after_data_cell, after_forward_cell, sent_turned}
use Rattle.connection.specs.Received.{after_rm_cell}
use Rattle.connection.specs.Slot.{after, member_served}
use Rattle.connection.specs.Kind.{kind_at}
use Rattle.connection.proofs.Keeps.{work-same, after_same}
use Rattle.model.specs.State.{State, Entry, free, taken, empty, find, with_entry_of, with_opened, with_time, with_level, with_members}
use Rattle.model.specs.Invariant.{NamesUnique}
use Rattle.model.specs.Answers.{Refused, Sent}
use Rattle.model.specs.Call.{Call, opening, closing, receiving, offering, levelling, slot, making, out_of_rate, opening_path, adding, offering_member, removing, Outcome}
use Rattle.model.specs.Step.{refuse, accept, replay, discard, with_offer, without_one, name_answered, send_from, send_step, idle_step, send_out_of_rate, step}
use Rattle.model.specs.Run.{final}
use Rattle.model.proofs.Entries.{Case, same, other, case}
use Rattle.model.proofs.Frames.{put-read, with-opened-read, freed-read}
use Rattle.model.proofs.Effects.{OpenPassed, Effect, refuses, opens, closes, offers, receives_data, receives_rm, sets_level, idles, sends, makes, sends_out_of_rate, opens_path, adds, offers_member, removes, effect}
use Rattle.abr_answers.specs.declared.calls.AbrAllowed.{AbrAllowed}
use Rattle.abr_answers.specs.Reply.{Reply, reply_of}
use Rattle.model.specs.Aspects.{Sort, opener, closer, arrival, slot_at, another, sort_of}
use Rattle.exports.proofs.Returned.{back}
use Rattle.exports.proofs.Transport.{sees, stands}
use Rattle.exports_rates.specs.Moved.{rate_sent, rate_fed, rate_after, ExportsMoves, rate_by}
use Rattle.exports_rates.proofs.Seen.{connection_seen}
use Rattle.exports_rates.proofs.Held.{held-read, acr-held, open-under, seen-held}

-- the rate of a connection after a call that returned this
abbrev rate_on : (v : ℕ) → Call → Reply → Connection → ℕ
rate_on v c r d = rate_after v (connection_seen d) d.rate c r

-- from the entry of v before the call to the one after it
abbrev RateTo : (v : ℕ) → Call → Reply → Entry → Entry → Type 0
RateTo v c r free y = Unit
RateTo v c r (taken d) free = Unit
RateTo v c r (taken d) (taken e) = e.rate.acr ≡ rate_on v c r d

-- the call leaves the rate of every connection under v
abbrev KeepsRate : (v : ℕ) → Call → Reply → Type 0
KeepsRate v c r = (d : Connection) → d.rate.acr ≡ rate_on v c r d

rests : (v : ℕ) (c : Call) (r : Reply) → KeepsRate v c r → (x : Entry) → RateTo v c r x x
rests v c r h free = tt
rests v c r h (taken d) = h d

closed : (v : ℕ) (c : Call) (r : Reply) (x : Entry) → RateTo v c r x free
closed v c r free = tt
closed v c r (taken d) = tt

self : Entry → Entry
self x = x

module _ (v : ℕ) (s : State) (w : NamesUnique s.entries) (c : Call) (r : Reply) where
  -- the entry of u, which may be v's, becomes y
  becomes : (u : ℕ) (y : Entry) → (u ≡ v → RateTo v c r (find v s.entries) y) → (u ≢ v → KeepsRate v c r) → RateTo v c r (find v s.entries) (cond (eqb u v) y (find v s.entries))
  becomes u y h l = go (case u v)
    where
      go : Case u v → RateTo v c r (find v s.entries) (cond (eqb u v) y (find v s.entries))
      go (same q) = rw (eq-eqb u v q) (h q)
      go (other q) = rw (ne_eqb u v q) (rests v c r (l q) (find v s.entries))

  changes : (u : ℕ) (d e : Connection) → find u s.entries ≡ taken d → e.name ≡ d.name → (u ≡ v → e.rate.acr ≡ rate_on v c r d) → (u ≢ v → KeepsRate v c r)
      → RateTo v c r (find v s.entries) (find v (with_entry_of u (taken e) s).entries)
  unfolding self
  changes u d e f n h l = rw (put-read self v u s w d e f n) (becomes u (taken e) (λ q. rw (ap (λ (x : ℕ). find x s.entries) (sym q) ∙ f) (h q)) l)

  begun : (u t : ℕ) (p : Params) → OpenPassed s u t p → KeepsRate v c r → RateTo v c r (find v s.entries) (find v (with_opened (fresh u t p) s).entries)
  unfolding self fresh
  begun u t p g l = rw (with-opened-read self v s (fresh u t p) g.new g.room) (becomes u (taken (fresh u t p)) (λ q. rw (ap (λ (x : ℕ). find x s.entries) (sym q) ∙ g.new) tt) (λ _. l))

  ended : (u : ℕ) → KeepsRate v c r → RateTo v c r (find v s.entries) (find v (with_entry_of u free s).entries)
  unfolding self
  ended u l = rw (freed-read self v u s w) (becomes u free (λ q. closed v c r (find v s.entries)) (λ _. l))

refused : (v : ℕ) (x : Sort) (n : ℕ) → 0 < n → (d : Connection) → d.rate.acr ≡ rate_by v (connection_seen d) d.rate (reply_of (Refused n)) x
refused v (opener u t p) n h d = refl
refused v (closer u) n h d = refl
refused v (arrival o) n h d = rw (ne_eqb n 0 (λ e. omega (arith, h, e))) refl
refused v (slot_at t) n h d = refl
refused v another n h d = refl

-- a received RM cell, of v and of another
worked : (v level : ℕ) (o : List ℕ) (f : Fields) (d : Connection) → cell_name f ≡ v → (after_rm_cell level o f d).rate.acr ≡ rate_fed v (RmCell f) d.rate
unfolding after_rm_cell after_backward_cell after_forward_cell
worked v level o f d n = rw (eq-eqb (cell_name f) v n) (go (eqb f.dir 1))
  where
    go : (b : Bool) → (cond b (after_backward_cell f d) (after_forward_cell level o d)).rate.acr ≡ cond b (feedback (eqb f.ci 1) (eqb f.ni 1) (rate_of f.er) d.rate).acr d.rate.acr
    go true = refl
    go false = refl

worked-other : (v : ℕ) (f : Fields) (q : Rate) → cell_name f ≢ v → q.acr ≡ rate_fed v (RmCell f) q
worked-other v f q n = rw (ne_eqb (cell_name f) v n) refl

-- a slot's cell, of v and of another
moved : (t y : ℕ) (p : Pace) (q : Rate) → (moved_by t y p q).acr ≡ rate_sent t y p q
unfolding moved_by
moved t y Unsent q = refl
moved t y (Running sent forward n turned) q = refl

sent :
    (v t : ℕ) (d : Connection) (ms : List Member) (k : Kind) (a n room : ℕ) → let r = reply_of (Sent v (name_answered v (member_served k d ms)) k a n) in
    (after k t d).rate.acr ≡ rate_on v (slot t room) r d
unfolding after sent_forward sent_turned sent_data member_served name_answered
sent v t d ms Forward a n room = moved t d.unanswered d.pace d.rate ∙ sym (ap (λ (b : Bool). cond b (rate_sent t d.unanswered d.pace d.rate) d.rate.acr) (eq-eqb _ v (back v)))
sent v t d ms Turned a n room = refl
sent v t d ms Data a n room = refl

sent-other : (v u t : ℕ) (e : Connection) (ms : List Member) (k : Kind) (a n room : ℕ) → u ≢ v → KeepsRate v (slot t room) (reply_of (Sent u (name_answered u (member_served k e ms)) k a n))
unfolding member_served name_answered
sent-other v u t e ms Forward a n room q d = sym (ap (λ (b : Bool). cond b (rate_sent t d.unanswered d.pace d.rate) d.rate.acr) (ne_eqb _ v (λ z. q (sym (back u) ∙ z))))
sent-other v u t e ms Turned a n room q d = refl
sent-other v u t e ms Data a n room q d = refl

effect-rate : (v : ℕ) {s : State} → NamesUnique s.entries → {c : Call} {o : Outcome} → Effect s c o → RateTo v c (reply_of o.answer) (find v s.entries) (find v o.state.entries)
unfolding refuse accept replay discard send_from send_step idle_step send_out_of_rate with_time with_level with_members with_offer without_one with_served offered after_data_cell with_made after_out_of_rate
effect-rate v {s} w (refuses c n h) = rests v c (reply_of (Refused n)) (refused v (sort_of c) n h) (find v s.entries)
effect-rate v {s} w {o = o'} (opens a b t p g) = begun v s w (opening a b t p) (reply_of o'.answer) (address_name a b) t p g (λ d. refl)
effect-rate v {s} w {o = o'} (closes a b d f) = ended v s w (closing a b) (reply_of o'.answer) (address_name a b) (λ d. refl)
effect-rate v {s} w {o = o'} (offers a b n d f i h) = changes v s w (offering a b n) (reply_of o'.answer) (address_name a b) d (offered n d) f refl (λ _. refl) (λ _ e. refl)
effect-rate v {s} w {o = o'} (receives_data o a b e u d r i z f) =
    changes v s w (receiving o) (reply_of o'.answer) u d (after_data_cell e d) f refl (λ _. sym (ap (λ (x : Reading). rate_fed v x d.rate) r)) (λ _ g. sym (ap (λ (x : Reading). rate_fed v x g.rate) r))
effect-rate v {s} w {o = o'} (receives_rm o q d r f) =
    changes v s w (receiving o) (reply_of o'.answer) (cell_name q) d (after_rm_cell s.level o q d) f (work-same s.level o q d).name
    (λ n. worked v s.level o q d n ∙ sym (ap (λ (x : Reading). rate_fed v x d.rate) r))
    (λ n g. worked-other v q g.rate n ∙ sym (ap (λ (x : Reading). rate_fed v x g.rate) r))
effect-rate v {s} w {o = o'} (sets_level l h) = rests v (levelling l) (reply_of o'.answer) (λ d. refl) (find v s.entries)
effect-rate v {s} w {o = o'} (idles t room g b) = rests v (slot t room) (reply_of o'.answer) (λ d. refl) (find v s.entries)
effect-rate v {s} w {o = o'} (sends t room i u g b) =
    let k = kind_at t b.holder in
    changes v (with_time t s) w (slot t room) (reply_of o'.answer) u b.holder (with_served (member_served k b.holder s.members) (after k t b.holder)) b.found (after_same k t b.holder).name
    (λ q. subst (λ (x : ℕ). (after k t b.holder).rate.acr ≡ rate_on v (slot t room) (reply_of (Sent x (name_answered x (member_served k b.holder s.members)) k 0 0)) b.holder) (sym q)
    (sent v t b.holder s.members k 0 0 room))
    (sent-other v u t b.holder s.members k 0 0 room)
effect-rate v {s} w {o = o'} (makes a b t d f g h m) = changes v (with_time t s) w (making a b t) (reply_of o'.answer) (address_name a b) d (with_made t s.level d) f refl (λ _. refl) (λ _ e. refl)
effect-rate v {s} w {o = o'} (sends_out_of_rate a b t room d f g h) = changes v (with_time t s) w (out_of_rate a b t room) (reply_of o'.answer) (address_name a b) d (after_out_of_rate t d) f refl (λ _. refl) (λ _ e. refl)
effect-rate v {s} w {o = o'} (opens_path a t p g) = begun v s w (opening_path a t p) (reply_of o'.answer) (address_name a path_vci) t p g (λ d. refl)
effect-rate v {s} w {o = o'} (adds a b d f j) = rests v (adding a b) (reply_of o'.answer) (λ d. refl) (find v s.entries)
effect-rate v {s} w {o = o'} (offers_member a b n d f i h) = changes v s w (offering_member a b n) (reply_of o'.answer) (path_of (address_name a b)) d (offered n d) f refl (λ _. refl) (λ _ e. refl)
effect-rate v {s} w {o = o'} (removes a b d f i) = changes v s w (removing a b) (reply_of o'.answer) (path_of (address_name a b)) d _ f refl (λ _. refl) (λ _ e. refl)

rate-at : (v : ℕ) (s : State) → NamesUnique s.entries → (c : Call) (d e : Connection) → find v s.entries ≡ taken d → find v (step s c).state.entries ≡ taken e
    → e.rate.acr ≡ rate_on v c (reply_of (step s c).answer) d
rate-at v s w c d e f g = let m = effect-rate v w (effect s w c) in rw (f, g) at m

pub exports-moves : ExportsMoves
exports-moves cs os t c o q v p e a b h k z =
    let st = stands cs os t in
    let y = sees st q in
    let s = final empty cs in
    let d = open-under cs os t v p e in
    let n = held-read y.next v b k z in
    let acr : a.acr ≡ d.holder.rate.acr = ap (λ (r : AbrAllowed). r.acr) (acr-held st v d.holder d.found a h) in
    let new : b.acr ≡ n.holder.rate.acr = ap (λ (r : AbrAllowed). r.acr) (acr-held y.next v n.holder n.found b k) in
    let rate : ◌≡◌ {A = Rate} d.holder.rate (record { acr = a.acr; params = p }) = λ i. record { acr = sym acr i; params = d.params i } in
    new ∙ rate-at v s y.well_formed.unique c d.holder n.holder d.found n.found
    ∙ (λ i. rate_after v (sym (seen-held cs os t v d.holder d.found) i) (rate i) c (sym y.matches.returned i))
