-- A caller sees no difference without an idle slot.
use Prim.Native.Nat.{ℕ, ◌+◌, ◌-◌, ◌≤◌, ◌<◌, min, max}
use mathlib.Core.Path.{◌≡◌, refl, sym, ap, subst, ◌∙◌}
use mathlib.Core.Bool.{Bool, true, false, cond, ◌&&◌, true≢false}
use mathlib.Core.List.{List, [], ◌∷◌}
use native.Mathlib.Omega.{arith}
use lib.Dec.{eqb}
use borrow.Author.Tests.{eqb-true, ne_eqb}
use Rattle.cell.specs.Read.{Reading, Refused as Unread, DataCell, RmCell}
use Rattle.cell.specs.Reading.{reading}
use Rattle.connection.specs.declared.kind.Kind.{Kind}
use Rattle.connection.specs.declared.kind.Kind.TheVariants.{Forward, Turned, Data}
use Rattle.connection.specs.Kind.{kind_number, kind_at}
use Rattle.model.specs.State.{State, empty, with_time}
use Rattle.model.specs.Answers.{Answer, Refused, Accepted, Closed, Idle, Sent}
use Rattle.model.specs.Call.{Call, slot, Outcome, closed_cells}
use Rattle.model.specs.Step.{refuse, accept, replay, discard, idle_step, send_from, send_step, send_out_of_rate, step}
use Rattle.model.specs.Queries.{acr_of, next_ready, slot_time}
use Rattle.model.specs.Details.{receive_answer, sent_with}
use Rattle.model.specs.Status.{status_of, status_at, member_status_at, totals}
use Rattle.model.specs.Run.{run, final}
use Rattle.model.proofs.Effects.{Effect, refuses, idles, sends, effect}
use Rattle.model.proofs.Shown.{Shown, refusing, accepting, discarding, idling, serving, serving_out_of_rate, shown}
use Rattle.engine.specs.Contract.{MeetsReading, buffer_content}
use Rattle.abr_answers.specs.Calls.{allowed_of}
use Rattle.abr_answers.specs.Reply.{Reply, reply_of}
use Rattle.abr_answers.specs.Details.{received_of, sent_of}
use Rattle.abr_answers.specs.Status.{connection_shown, member_shown, totals_shown}
use Rattle.model.specs.Aspects.{Sort, opener, closer, arrival, slot_at, another, sort_of, Lent, not_lent, lent_of}
use Rattle.abr.specs.Exports.{besides_receive, besides_slot, besides_by, Observation, Transcript, ended, then}
use Rattle.promise_lists.specs.Demand3.{InPlace}
use Rattle.promise_service.specs.PassedOver.{slot_call, slot_taken, slot_lent}
use Rattle.promise_service.specs.LeftOut.{NotBefore, SameBehind, is_idle}
use Rattle.promise_service.proofs.LeftOut.{same-time, same_step, shown-idle, rested-behind, left_out}
use Rattle.exports.proofs.Transport.{Stands, Sees, sees, stands}
use Rattle.exports_progress.specs.LeftOut.{with_last, SameWithoutSlots, idle_seen, awake_seen, not_idle_seen, time_of_slot, InOrderSeen, idle_until, ExportsLeftOut}

-- no reading but that of the link and of the time to pass to a slot looks at the last accepted time
time-acr : (n : ℕ) (s : State) (v : ℕ) → acr_of (with_time n s) v ≡ acr_of s v
unfolding acr_of with_time
time-acr n s v = refl

time-next : (n : ℕ) (s : State) → next_ready (with_time n s) ≡ next_ready s
unfolding next_ready with_time
time-next n s = refl

time-status : (n : ℕ) (s : State) (v : ℕ) → status_of (with_time n s) v ≡ status_of s v
unfolding status_of with_time
time-status n s v = refl

time-leaf : (n : ℕ) (s : State) (i : ℕ) → status_at (with_time n s) i ≡ status_at s i
unfolding status_at with_time
time-leaf n s i = refl

time-member : (n : ℕ) (s : State) (i : ℕ) → member_status_at (with_time n s) i ≡ member_status_at s i
unfolding member_status_at with_time
time-member n s i = refl

time-link : (n : ℕ) (s : State) (m : ℕ) → with_last m (totals_shown (totals (with_time n s))) ≡ with_last m (totals_shown (totals s))
unfolding totals with_time
time-link n s m = refl

-- nor does what a call returns besides
module _ (n m : ℕ) (s : State) where
  time-received : (r : Reading) (p : Outcome) → receive_answer r (with_time n s) (record { state = with_time m p.state; answer = p.answer; buffer = p.buffer }) ≡ receive_answer r s p
  unfolding with_time
  time-received (Unread k) p = refl
  time-received (DataCell vpi vci e) p = refl
  time-received (RmCell f) p = refl

  time-sent : (a : Answer) → sent_with (with_time n s) a ≡ sent_with s a
  unfolding with_time
  time-sent (Refused k) = refl
  time-sent (Accepted k) = refl
  time-sent (Closed k l) = refl
  time-sent Idle = refl
  time-sent (Sent v x k a l) = refl

  time-besides : (p : Outcome) (q : Sort) → besides_by (with_time n s) (record { state = with_time m p.state; answer = p.answer; buffer = p.buffer }) q ≡ besides_by s p q
  unfolding with_time
  time-besides p (opener v t c) = refl
  time-besides p (closer v) = refl
  time-besides p (arrival octets) = ap (λ x. besides_receive (received_of x)) (time-received (reading octets) p)
  time-besides p (slot_at t) = ap (λ x. besides_slot (sent_of x)) (time-sent p.answer)
  time-besides p another = refl

-- the time to pass to a slot looks no further back than now - lag
back_to : (t last n : ℕ) → t ≤ n → max (max t last) n ≡ max last n
back_to t last n h = omega (arith, h)

time-slot : (t now lag : ℕ) (s : State) → t + lag ≤ now → slot_time (with_time (max t s.last) s) now lag ≡ slot_time s now lag
unfolding next_ready with_time
time-slot t now lag s h = ap (λ (n : ℕ). min now (max (next_ready s) n)) (back_to t s.last (now - lag) (omega (arith, h)))

same-besides : (t n : ℕ) (r s : State) (c : Call) → r ≡ with_time n s → SameBehind t (step r c) (step s c) → besides_by r (step r c) (sort_of c) ≡ besides_by s (step s c) (sort_of c)
same-besides t n r s c e h =
    (λ i. besides_by (e i) (record { state = h.state i; answer = h.answer i; buffer = h.buffer i }) (sort_of c))
    ∙ time-besides n (max t (step s c).state.last) s (step s c) (sort_of c)

-- a reading that does not look at that time, on two tables that differ in it alone
read_same :
    {A : Type 0} (F : State → A) → ((n : ℕ) (s : State) → F (with_time n s) ≡ F s) → (n : ℕ) (r s : State) {l m : List ℕ} → Stands r l → Stands s m → r ≡ with_time n s
    → (x y : A) → MeetsReading (λ z. x ≡ F z) l → MeetsReading (λ z. y ≡ F z) m → x ≡ y
read_same F h n r s st su e x y k g = k.meets r st.well_formed st.table ∙ ap F e ∙ h n s ∙ sym (g.meets s su.well_formed su.table)

-- r is s with this last accepted time
one_seen :
    (t l : ℕ) (r s : State) (c : Call) (p q : Observation) → r ≡ with_time l s → SameBehind t (step r c) (step s c) → Sees r c p → Sees s c q → (u : ℕ) → t ≤ u
    → SameWithoutSlots u p q
one_seen t l r s c p q e h a b u n = record {
  returned = a.matches.returned ∙ ap reply_of h.answer ∙ sym b.matches.returned;
  besides = a.besides ∙ same-besides t l r s c e h ∙ sym b.besides;
  cells = a.matches.cells ∙ ap closed_cells h.answer ∙ sym b.matches.cells;
  octets = λ e. a.matches.buffer ∙ (λ i. buffer_content (h.buffer i) (e i)) ∙ sym b.matches.buffer;
  rates = λ v. read_same (λ z. allowed_of (acr_of z v)) (λ m z. ap allowed_of (time-acr m z v)) _ (step r c).state (step s c).state a.next b.next h.state;
  next = λ x y k l.
      k.is (step r c).state a.next.well_formed a.next.table ∙ ap next_ready h.state ∙ time-next _ (step s c).state ∙ sym (l.is (step s c).state b.next.well_formed b.next.table);
  times = λ now lag x y m k l.
      k.is (step r c).state a.next.well_formed a.next.table ∙ ap (λ (z : State). slot_time z now lag) h.state ∙ time-slot t now lag (step s c).state (omega (arith, m, n))
      ∙ sym (l.is (step s c).state b.next.well_formed b.next.table);
  status = λ v. read_same (λ z. connection_shown (status_of z v)) (λ m z. ap connection_shown (time-status m z v)) _ (step r c).state (step s c).state a.next b.next h.state;
  leaves = λ i. read_same (λ z. connection_shown (status_at z i)) (λ m z. ap connection_shown (time-leaf m z i)) _ (step r c).state (step s c).state a.next b.next h.state;
  members = λ i. read_same (λ z. member_shown (member_status_at z i)) (λ m z. ap member_shown (time-member m z i)) _ (step r c).state (step s c).state a.next b.next h.state;
  link = λ x y k l.
      ap (with_last x.last) (k.meets (step r c).state a.next.well_formed a.next.table ∙ ap (λ (z : State). totals_shown (totals z)) h.state)
      ∙ time-link _ (step s c).state x.last ∙ ap (with_last x.last) (sym (l.meets (step s c).state b.next.well_formed b.next.table));
}

same_seen :
    (t n : ℕ) (ds : List Call) {r s : State} {l k : List ℕ} → Stands r l → Stands s k → r ≡ with_time n s → InPlace (SameBehind t) (run r ds) (run s ds) → (ps qs : List Observation)
    → Transcript ds l ps → Transcript ds k qs → InPlace (SameWithoutSlots t) ps qs
same_seen t n [] st su e h [] [] ended ended = tt
same_seen t n (c ∷ cs) {r} {s} st su e h (p ∷ ps) (q ∷ qs) (then x tx) (then y ty) =
    let a = sees st x in
    let b = sees su y in
    (one_seen t n r s c p q e h.0 a b t (omega arith), same_seen t (max t (step s c).state.last) cs a.next b.next h.0.state h.1 ps qs tx ty)
same_seen t n [] {r = r} {s = s} {l = l} {k = k} st su e h [] (q ∷ qs) _ x11 = elim x11 [ ]
same_seen t n [] {r = r} {s = s} {l = l} {k = k} st su e h (p ∷ ps) qs x9 _ = elim x9 [ ]
same_seen t n (c ∷ cs) {r = r} {s = s} {l = l} {k = k} st su e h [] qs x9 _ = elim x9 [ ]
same_seen t n (c ∷ cs) {r = r} {s = s} {l = l} {k = k} st su e h (p ∷ ps) [] _ x13 = elim x13 [ ]

-- a slot that returned 0 and no cell was idle
kind-some : (k : Kind) → kind_number k ≡ 0 → ⊥
kind-some Forward e = omega (arith, e)
kind-some Turned e = omega (arith, e)
kind-some Data e = omega (arith, e)

was-idle : {s : State} {t room : ℕ} {p : Outcome} → Effect s (slot t room) p → (reply_of p.answer).refusal ≡ 0 → (reply_of p.answer).kind ≡ 0 → p.answer ≡ Idle
unfolding refuse idle_step send_from send_step
was-idle (refuses _ n h) e k = absurd (omega (arith, e, h))
was-idle (idles _ _ g b) e k = refl
was-idle (sends t _ i u g b) e k = absurd (kind-some (kind_at t b.holder) k)

answered-idle : (a : Answer) → a ≡ Idle → is_idle a ≡ true
unfolding is_idle
answered-idle a e = ap is_idle e

-- what a caller takes for an idle slot is one, and its time is the last accepted one
record Idled (c : Call) (p : Outcome) : Type 0 where
  idle : is_idle p.answer ≡ true
  later : (x : ℕ) → NotBefore x c → x ≤ time_of_slot c
  time : p.state.last ≡ time_of_slot c

no_slot : {A : Type 0} → false ≡ true → A
no_slot e = absurd (true≢false (sym e))

refused-idle : (c : Call) (n : ℕ) → 0 < n → (eqb (slot_taken c (eqb n 0)) 1 && true) ≡ false
refused-idle c n h = rw (ne_eqb n 0 (λ e. omega (arith, e, h))) refl

not-idle : (l : Lent) → l ≡ not_lent → (eqb (slot_lent l) 1 && true) ≡ true → false ≡ true
not-idle l q e = subst (λ (x : Lent). (eqb (slot_lent x) 1 && true) ≡ true) q e

idled : {s : State} {c : Call} {p : Outcome} → Shown s c p → idle_seen c (reply_of p.answer) ≡ true → Idled c p
unfolding refuse accept replay discard idle_step send_from send_step send_out_of_rate with_time slot_call time_of_slot is_idle
idled (refusing c n h) e = no_slot (sym (refused-idle c n h) ∙ e)
idled (accepting c n r l g) e = no_slot (not-idle (lent_of c) l e)
idled (discarding c n x u r l i g) e = no_slot (not-idle (lent_of c) l e)
idled (idling t room g) e = record { idle = refl; later = λ x n. n; time = refl }
idled (serving t room i u g b) e = absurd (kind-some (kind_at t b.holder) (eqb-true _ _ e))
idled (serving_out_of_rate a b t room d f g) e = no_slot e

-- the idle slots come in order
idle-seen : {s : State} {c : Call} {o : Observation} → Sees s c o → idle_seen c o.returned ≡ true → Idled c (step s c)
idle-seen {s} {c} z i = idled (shown z.well_formed c) (sym (ap (idle_seen c) z.matches.returned) ∙ i)

until-later :
    (x : ℕ) (ds : List Call) (ps : List Observation) {s : State} {l : List ℕ} → Stands s l → Transcript ds l ps → InOrderSeen x ds ps → x ≤ idle_until x ds ps
until-later x [] [] st ended g = omega arith
until-later x (c ∷ cs) (o ∷ os) {s} st (then p t) g = go (idle_seen c o.returned) refl g.1 (λ w g. until-later w cs os z.next t g)
  where
    z : Sees s c o
    z = sees st p

    go :
        (b : Bool) → idle_seen c o.returned ≡ b → InOrderSeen (cond b (time_of_slot c) x) cs os → ((w : ℕ) → InOrderSeen w cs os → w ≤ idle_until w cs os)
        → x ≤ idle_until (cond b (time_of_slot c) x) cs os
    go true i h f = let k : time_of_slot c ≤ idle_until (time_of_slot c) cs os = f (time_of_slot c) h in omega (arith, k, (idle-seen z i).later x g.0)
    go false i h f = f x h
until-later x [] (o ∷ os) {s = s} {l = l} st x8 g = elim x8 [ ]
until-later x (c ∷ cs) [] {s = s} {l = l} st x7 g = elim x7 [ ]

module _ (u : ℕ) where
  all_seen :
      (x : ℕ) (ds : List Call) (ps : List Observation) {s r : State} {l k : List ℕ} → Stands s l → Stands r k → s ≡ with_time (max x r.last) r → Transcript ds l ps → InOrderSeen x ds ps
      → idle_until x ds ps ≤ u → (qs : List Observation) → Transcript (awake_seen ds ps) k qs → InPlace (SameWithoutSlots u) (not_idle_seen ds ps) qs
  all_seen x [] [] st su e ended g n [] ended = tt
  all_seen x (c ∷ cs) (o ∷ os) {s} {r} {l} {k} st su e (then p t) g n qs y =
      go (idle_seen c o.returned) refl g.1 n (λ w q k su e g n qs y. all_seen w cs os z.next su e t g n qs y) qs y
    where
      z : Sees s c o
      z = sees st p

      h : SameBehind x (step s c) (step r c)
      h = subst (λ (w : State). SameBehind x (step w c) (step r c)) (sym e) (same_step x r c g.0)

      go :
          (b : Bool) → idle_seen c o.returned ≡ b → InOrderSeen (cond b (time_of_slot c) x) cs os → idle_until (cond b (time_of_slot c) x) cs os ≤ u
          → ((w : ℕ) (q : State) (k : List ℕ) → Stands q k → (step s c).state ≡ with_time (max w q.last) q → InOrderSeen w cs os → idle_until w cs os ≤ u → (qs : List Observation) → Transcript (awake_seen cs os) k qs → InPlace (SameWithoutSlots u) (not_idle_seen cs os) qs)
          → (qs : List Observation) → Transcript (cond b (awake_seen cs os) (c ∷ awake_seen cs os)) k qs → InPlace (SameWithoutSlots u) (cond b (not_idle_seen cs os) (o ∷ not_idle_seen cs os)) qs
      go true i g n f qs y =
          let a = idle-seen z i in
          let d = shown-idle (shown st.well_formed c) a.idle in
          f (time_of_slot c) r k su (rested-behind x r s (step s c).state e d.since d.state ∙ ap (λ (w : ℕ). with_time (max w r.last) r) a.time) g n qs y
      go false i g n f (q ∷ qs) (then p' t') =
          let z' = sees su p' in
          (one_seen x (max x r.last) s r c o q e h z z' u (omega (arith, n, until-later x cs os z.next t g)), f x (step r c).state q.table z'.next h.state g n qs t')
      go false i g n f [] y = elim y [ ]
  all_seen x [] [] {s = s} {r = r} {l = l} {k = k} st su e ended g n (_ ∷ _) y = elim y [ ]
  all_seen x [] (o ∷ os) {s = s} {r = r} {l = l} {k = k} st su e x17 g n qs y = elim x17 [ ]
  all_seen x (c ∷ cs) [] {s = s} {r = r} {l = l} {k = k} st su e x12 g n qs y = elim x12 [ ]

pub exports-left-out : ExportsLeftOut
exports-left-out = record {
  one = λ cs os x t room o p e k ds l ps qs y z.
      let s = final empty cs in
      let st = stands cs os x in
      let a = sees st p in
      let r : o.returned ≡ reply_of (step s (slot t room)).answer = a.matches.returned in
      let i = was-idle (effect s st.well_formed.unique (slot t room)) (sym (ap (λ (w : Reply). w.refusal) r) ∙ e) (sym (ap (λ (w : Reply). w.kind) r) ∙ k) in
      let d = shown-idle (shown st.well_formed (slot t room)) (answered-idle _ i) in
      same_seen t (step s (slot t room)).state.last ds a.next st d.state (left_out.one cs ds t room i l) ps qs y z;
  all = λ cs os x ds ps y g qs z.
      let s = final empty cs in
      all_seen (idle_until 0 ds ps) 0 ds ps (stands cs os x) (stands cs os x) (same-time s (max 0 s.last) (omega arith)) y g (omega arith) qs z;
}
