-- A source that hears nothing falls.
use Prim.Native.Nat.{ℕ, zero, suc, ◌+◌, ◌-◌, ◌≤◌, ◌<◌, min, max}
use mathlib.Core.Path.{◌≡◌, refl, sym, ap, subst, ◌∙◌}
use mathlib.Core.Logic.{◌≢◌, by_cases}
use mathlib.Core.Bool.{Bool, true, false, cond, ◌&&◌, not}
use mathlib.Core.List.{List, [], ◌∷◌}
use mathlib.Core.Option.{Option, some}
use native.Mathlib.Omega.{arith}
use native.Mathlib.Decide.{dec_lt}
use lib.Dec.{leb, ltb, eqb}
use borrow.Author.Tests.{le-leb, eq-eqb, ne_eqb, eqb-true}
use Rattle.rate_params.specs.declared.params.Params.{Params}
use Rattle.rate_params.specs.Params.{least, initial_used, crm, adtf_time}
use Rattle.rate_params.proofs.Ranges.{fits}
use Rattle.rate_params.proofs.Setup.{crm-is}
use Rattle.rate_moves.specs.declared.moves.Rate.{Rate}
use Rattle.rate_moves.specs.Moves.{first_cell, idle, reduced_by, unanswered, rate_by_marks, feedback, mark_level}
use Rattle.rate_moves.proofs.Cuts.{cut-mono, cut-le}
use Rattle.cell.specs.declared.fields.Fields.{Fields}
use Rattle.connection.specs.declared.parts.Connection.{Connection}
use Rattle.connection.specs.declared.parts.Pace.{Pace}
use Rattle.connection.specs.declared.parts.Pace.TheVariants.{Unsent, Running}
use Rattle.connection.specs.declared.kind.Kind.{Kind}
use Rattle.connection.specs.declared.kind.Kind.TheVariants.{Forward, Turned, Data}
use Rattle.connection.specs.Parts.{fresh, with_queue, dequeued}
use Rattle.connection.specs.Pace.{paced}
use Rattle.connection.specs.Source.{offered, after_backward_cell, after_out_of_rate, moved_by, sent_forward, sent_data, with_served}
use Rattle.connection.specs.Destination.{with_made, after_data_cell, after_forward_cell, sent_turned}
use Rattle.connection.specs.Received.{after_rm_cell}
use Rattle.connection.specs.Slot.{after}
use Rattle.connection.specs.Kind.{kind_at}
use Rattle.connection.proofs.Keeps.{after_same}
use Rattle.model.specs.State.{State, Entry, free, taken, empty, find}
use Rattle.model.specs.Invariant.{OnEntry, WellFormed}
use Rattle.model.specs.Answers.{Answer, Refused, Accepted, Closed, Idle, Sent}
use Rattle.model.specs.Call.{Call, goes_to}
use Rattle.model.specs.Step.{step}
use Rattle.model.specs.Run.{final}
use Rattle.model.proofs.Preserved.{valid-at}
use Rattle.model.proofs.Reached.{step-well-formed, reached-well-formed}
use Rattle.laws.specs.All.{All}
use Rattle.promise_service.specs.Deaf.{cut_times, forward_cells, forward_slot_of, forward_slots, Unheard, Silent, DeafFalls, DeafStays}
use Rattle.promise_service.proofs.Becomes.{Becomes, unchanged, entry_opened, entry_closed, data_offered, member_removed, data_received, rm_received, made_waits, out_of_rate_gone, cell_sent, becomes, Kept, always}

-- before its first cell nothing of a connection is unanswered
abbrev NoneYet : Connection → Type 0
NoneYet c = c.pace ≡ Unsent → c.unanswered ≡ 0

cleared : (b : Bool) (n : ℕ) → n ≡ 0 → cond b 0 n ≡ 0
cleared true n e = refl
cleared false n e = e

work_none : (level : ℕ) (o : List ℕ) (f : Fields) (d : Connection) → NoneYet d → NoneYet (after_rm_cell level o f d)
unfolding after_rm_cell after_backward_cell after_forward_cell
work_none level o f d h = go (eqb f.dir 1)
  where
    go : (b : Bool) → NoneYet (cond b (after_backward_cell f d) (after_forward_cell level o d))
    go true e = cleared (eqb f.bn 0) d.unanswered (h e)
    go false e = h e

paced-unsent : (t : ℕ) (b : Bool) (p : Pace) → paced t b p ≡ Unsent → p ≡ Unsent
unfolding paced
paced-unsent t b Unsent e = refl
paced-unsent t b (Running sent forward k turned) e = let z : ◌≡◌ {A = ℕ} 0 1 = cc in absurd (omega arith)

sent-none : (k : Kind) (t : ℕ) (m : Option ℕ) (d : Connection) → NoneYet d → NoneYet (with_served m (after k t d))
unfolding with_served after sent_forward sent_turned sent_data
sent-none Forward t m d h e = let z : ◌≡◌ {A = ℕ} 0 1 = cc in absurd (omega arith)
sent-none Turned t m d h e = h (paced-unsent t true d.pace e)
sent-none Data t m d h e = h (paced-unsent t false d.pace e)

none_kept : (v : ℕ) (x y : Entry) (c : Call) (a : Answer) → Becomes v x c a y → OnEntry NoneYet x → OnEntry NoneYet y
unfolding offered after_data_cell with_made after_out_of_rate fresh
none_kept v x y c a (unchanged n) h = h
none_kept v x y c a (entry_opened t n p) h = λ e. refl
none_kept v x y c a (entry_closed e) h = tt
none_kept v x y c a (data_offered n j) h = h
none_kept v x y c a (member_removed n e) h = h
none_kept v x y c a (data_received e j) h = h
none_kept v x y c a (rm_received {d} {o} level j f r e) h = work_none level o f d h
none_kept v x y c a (made_waits t level j p) h = h
none_kept v x y c a (out_of_rate_gone t j) h = h
none_kept v x y c a (cell_sent {d} {t} i m r l) h = sent-none (kind_at t d) t m d h

none-always : Kept NoneYet
none-always = record { each = none_kept }

-- an answer that goes elsewhere sends no forward cell
no-forward : (v : ℕ) (a : Answer) → goes_to a ≢ some v → forward_slot_of v a ≡ 0
unfolding goes_to forward_slot_of
no-forward v (Refused n) h = refl
no-forward v (Accepted n) h = refl
no-forward v (Closed n k) h = refl
no-forward v Idle h = refl
no-forward v (Sent u x k a n) h = rw (ne_eqb u v (λ e. h (ap some e))) refl

-- n forward cells after a rate a and a count y: every cut so far is in the rate
record Falls (p : Params) (y a n : ℕ) (e : Connection) : Type 0 where
  params : e.rate.params ≡ p
  counted : min (y + n) 8_388_608 ≤ e.unanswered
  none : NoneYet e
  below : (j : ℕ) → j ≤ n → j ≤ (y + n) - crm p → e.rate.acr ≤ max (least p) (cut_times j p.c a)

abbrev FallsAt : (p : Params) (y a n : ℕ) → Entry → Type 0
FallsAt p y a n free = ⊥
FallsAt p y a n (taken e) = Falls p y a n e

-- the moves before a forward cell raise no rate, and from Y = CRM on cut it
idle-below : (t : ℕ) (q : Rate) → (idle t q).acr ≤ q.acr
unfolding idle
idle-below t q = go (ltb (adtf_time q.params) t)
  where
    go : (b : Bool) → cond b (min q.acr (initial_used q.params)) q.acr ≤ q.acr
    go true = omega arith
    go false = omega arith

moved-below : (t u : ℕ) (p : Pace) (q : Rate) → (moved_by t u p q).acr ≤ max (least q.params) q.acr
unfolding moved_by first_cell unanswered idle
moved-below t u Unsent q = omega arith
moved-below t u (Running sent forward k turned) q =
    go (leb (crm q.params) u && not (eqb q.params.c 7)) (idle (t - forward) q).acr (idle-below (t - forward) q)
  where
    go : (b : Bool) (x : ℕ) → x ≤ q.acr → cond b (max (least q.params) (reduced_by q.params.c x)) x ≤ max (least q.params) q.acr
    go true x h = omega (arith, cut-le q.params.c x)
    go false x h = omega arith

moved-cut : (t u : ℕ) (p : Pace) (q : Rate) → p ≢ Unsent → crm q.params ≤ u → q.params.c ≢ 7 → (moved_by t u p q).acr ≤ max (least q.params) (reduced_by q.params.c q.acr)
unfolding moved_by unanswered idle
moved-cut t u Unsent q n h c = absurd (n refl)
moved-cut t u (Running sent forward k turned) q n h c =
    let l = cut-mono q.params.c (idle-below (t - forward) q) in
    rw (le-leb (crm q.params) u h, ne_eqb q.params.c 7 c) (omega (arith, l))

-- a cut of what is at most the minimum or x
cut-max : (k low x r : ℕ) → r ≤ max low x → max low (reduced_by k r) ≤ max low (reduced_by k x)
cut-max k low x r h = by_cases (dec_lt low x) (λ l. let m : r ≤ x = omega (arith, h, l) in omega (arith, cut-mono k m)) (λ l. let m : x ≤ low = omega (arith, l) in omega (arith, cut-le k r, h, m))

-- a backward cell with a mark raises no rate
marks-below : (ci ni : Bool) (q : Rate) → 0 < mark_level ci ni → rate_by_marks ci ni q ≤ q.acr
unfolding mark_level rate_by_marks
marks-below true ni q h = cut-le q.params.d q.acr
marks-below false true q h = omega arith
marks-below false false q h = absurd (omega (arith, h))

module _ (p : Params) (y a : ℕ) (low : 1 ≤ crm p) (high : crm p ≤ 8_388_608) (cuts : p.c ≢ 7) where
  falls-quiet :
      (n : ℕ) (d e : Connection) → e.rate.params ≡ d.rate.params → min (y + n) 8_388_608 ≤ e.unanswered → NoneYet e → e.rate.acr ≤ max (least p) d.rate.acr → Falls p y a n d
      → Falls p y a n e
  falls-quiet n d e q u k r h = record { params = q ∙ h.params; counted = u; none = k; below = λ j l m. omega (arith, r, h.below j l m) }

  same-descends : (n : ℕ) (e : Connection) → Falls p y a n e → Falls p y a (n + 0) e
  same-descends n e h = subst (λ (i : ℕ). Falls p y a i e) (omega arith) h

  falls-worked :
      (n level : ℕ) (o : List ℕ) (f : Fields) (d : Connection) → (f.dir ≡ 1 → (f.bn ≢ 0) × (0 < mark_level (eqb f.ci 1) (eqb f.ni 1))) → Falls p y a n d
      → Falls p y a n (after_rm_cell level o f d)
  unfolding after_rm_cell after_backward_cell after_forward_cell feedback
  falls-worked n level o f d g h = go (eqb f.dir 1) refl
    where
      go : (b : Bool) → eqb f.dir 1 ≡ b → Falls p y a n (cond b (after_backward_cell f d) (after_forward_cell level o d))
      go true e =
          let k = g (eqb-true _ _ e) in
          let same : cond (eqb f.bn 0) 0 d.unanswered ≡ d.unanswered = ap (λ (b : Bool). cond b 0 d.unanswered) (ne_eqb f.bn 0 k.0) in
          falls-quiet n d (after_backward_cell f d) refl (omega (arith, h.counted, same)) (λ q. cleared (eqb f.bn 0) d.unanswered (h.none q))
          (omega (arith, marks-below (eqb f.ci 1) (eqb f.ni 1) d.rate k.1, ap least h.params)) h
      go false e = falls-quiet n d (after_forward_cell level o d) refl h.counted h.none (omega arith) h

  falls-forward : (n t : ℕ) (m : Option ℕ) (d : Connection) → Falls p y a n d → Falls p y a (suc n) (with_served m (after Forward t d))
  unfolding with_served after sent_forward cut_times
  falls-forward n t m d h = record {
    params = (after_same Forward t d).params ∙ h.params;
    counted = omega (arith, h.counted);
    none = sent-none Forward t m d h.none;
    below = go;
  }
    where
      low-is : least d.rate.params ≡ least p
      low-is = ap least h.params

      go : (j : ℕ) → j ≤ suc n → j ≤ (y + suc n) - crm p → (moved_by t d.unanswered d.pace d.rate).acr ≤ max (least p) (cut_times j p.c a)
      go zero l k = omega (arith, moved-below t d.unanswered d.pace d.rate, h.below 0 (omega arith) (omega arith), low-is)
      go (suc i) l k =
          let reached : crm p ≤ d.unanswered = omega (arith, k, h.counted, high) in
          let before = h.below i (omega (arith, l)) (omega (arith, k)) in
          let sent : d.pace ≢ Unsent = (λ e. omega (arith, h.none e, reached, low)) in
          let now : (moved_by t d.unanswered d.pace d.rate).acr ≤ max (least p) (reduced_by p.c d.rate.acr) =
          subst (λ (q : Params). (moved_by t d.unanswered d.pace d.rate).acr ≤ max (least q) (reduced_by q.c d.rate.acr)) h.params
          (moved-cut t d.unanswered d.pace d.rate sent (omega (arith, reached, ap crm h.params)) (λ e. cuts (sym (ap (λ (q : Params). q.c) h.params) ∙ e))) in
          omega (arith, now, cut-max p.c (least p) (cut_times i p.c a) d.rate.acr before)

  falls-sent : (n t : ℕ) (m : Option ℕ) (d : Connection) (k : Kind) → Falls p y a n d → Falls p y a (n + forward_cells k) (with_served m (after k t d))
  unfolding forward_cells with_served after sent_turned sent_data
  falls-sent n t m d Forward h = subst (λ (i : ℕ). Falls p y a i (with_served m (after Forward t d))) (omega arith) (falls-forward n t m d h)
  falls-sent n t m d Turned h =
      subst (λ (i : ℕ). Falls p y a i (with_served m (after Turned t d))) (omega arith)
      (falls-quiet n d (with_served m (after Turned t d)) refl h.counted (sent-none Turned t m d h.none) (omega arith) h)
  falls-sent n t m d Data h =
      subst (λ (i : ℕ). Falls p y a i (with_served m (after Data t d))) (omega arith)
      (falls-quiet n d (with_served m (after Data t d)) refl h.counted (sent-none Data t m d h.none) (omega arith) h)

  falls-step : (n v : ℕ) (x z : Entry) (c : Call) (b : Answer) → Becomes v x c b z → Unheard v c → FallsAt p y a n x → FallsAt p y a (n + forward_slot_of v b) z
  unfolding offered after_data_cell with_made after_out_of_rate forward_slot_of
  falls-step n v x z c b (unchanged k) u h = subst (λ (i : ℕ). FallsAt p y a i z) (omega (arith, no-forward v b k)) h
  falls-step n v x z c b (entry_opened t k q) u h = absurd h
  falls-step n v x z c b (entry_closed e) u h = absurd (u e)
  falls-step n v x z c b (data_offered {d} k j) u h = same-descends n (offered k d) (falls-quiet n d (offered k d) refl h.counted h.none (omega arith) h)
  falls-step n v x z c b (member_removed {d} k e) u h =
      same-descends n (with_queue d (dequeued k d.queue)) (falls-quiet n d (with_queue d (dequeued k d.queue)) refl h.counted h.none (omega arith) h)
  falls-step n v x z c b (data_received {d} e j) u h = same-descends n (after_data_cell e d) (falls-quiet n d (after_data_cell e d) refl h.counted h.none (omega arith) h)
  falls-step n v x z c b (rm_received {d} {o} level j f r e) u h = same-descends n (after_rm_cell level o f d) (falls-worked n level o f d (u f r e) h)
  falls-step n v x z c b (made_waits {d} t level j k) u h = same-descends n (with_made t level d) (falls-quiet n d (with_made t level d) refl h.counted h.none (omega arith) h)
  falls-step n v x z c b (out_of_rate_gone {d} t j) u h = same-descends n (after_out_of_rate t d) (falls-quiet n d (after_out_of_rate t d) refl h.counted h.none (omega arith) h)
  falls-step n v x z c b (cell_sent {d} {t} i m r l) u h = rw (eq-eqb v v refl) (falls-sent n t m d (kind_at t d) h)

  falls-run : (v n : ℕ) {s : State} → WellFormed s → (ds : List Call) → All (Unheard v) ds → FallsAt p y a n (find v s.entries) → FallsAt p y a (n + forward_slots v s ds) (find v (final s ds).entries)
  falls-run v n {s} w [] u h = subst (λ (i : ℕ). FallsAt p y a i (find v s.entries)) (omega arith) h
  falls-run v n {s} w (c ∷ cs) u h =
      subst (λ (i : ℕ). FallsAt p y a i (find v (final (step s c).state cs).entries)) (omega arith)
      (falls-run v (n + forward_slot_of v (step s c).answer) (step-well-formed w c) cs u.1 (falls-step n v _ _ c _ (becomes v s w.unique c) u.0 h))

none-cut : (d : Connection) (j : ℕ) → j ≤ 0 → j ≤ (d.unanswered + 0) - crm d.rate.params → d.rate.acr ≤ max (least d.rate.params) (cut_times j d.rate.params.c d.rate.acr)
unfolding cut_times
none-cut d zero l k = omega arith
none-cut d (suc j) l k = absurd (omega (arith, l))

pub deaf-falls : DeafFalls
unfolding cut_times
deaf-falls cs ds v j d e f g u c n k =
    let s = final empty cs in
    let w = reached-well-formed cs in
    let valid = (valid-at w v d f).0 in
    let range = crm-is.range d.rate.params (fits d.rate.params valid.fits).n_least valid.tbe in
    let first : Falls d.rate.params d.unanswered d.rate.acr 0 d = record { params = refl; counted = omega arith; none = always NoneYet none-always v cs d f; below = none-cut d } in
    let last = falls-run d.rate.params d.unanswered d.rate.acr range.0 range.1 c v 0 w ds u (subst (FallsAt d.rate.params d.unanswered d.rate.acr 0) (sym f) first) in
    let end : Falls d.rate.params d.unanswered d.rate.acr (0 + forward_slots v s ds) e = subst (FallsAt d.rate.params d.unanswered d.rate.acr (0 + forward_slots v s ds)) g last in
    end.below j (omega (arith, n)) (omega (arith, k))

-- With CDF zero nothing is cut.
not-cut : (x y : Bool) → y ≡ true → (x && not y) ≡ false
not-cut true y e = rw e refl
not-cut false y e = refl

idle-above : (t : ℕ) (q : Rate) → min q.acr (initial_used q.params) ≤ (idle t q).acr
unfolding idle
idle-above t q = go (ltb (adtf_time q.params) t)
  where
    go : (b : Bool) → min q.acr (initial_used q.params) ≤ cond b (min q.acr (initial_used q.params)) q.acr
    go true = omega arith
    go false = omega arith

moved-above : (t u : ℕ) (p : Pace) (q : Rate) → q.params.c ≡ 7 → min q.acr (initial_used q.params) ≤ (moved_by t u p q).acr
unfolding moved_by first_cell unanswered idle
moved-above t u Unsent q e = omega arith
moved-above t u (Running sent forward k turned) q e = rw (not-cut (leb (crm q.params) u) (eqb q.params.c 7) (eq-eqb q.params.c 7 e)) (idle-above (t - forward) q)

record Stays (p : Params) (a : ℕ) (e : Connection) : Type 0 where
  params : e.rate.params ≡ p
  above : min a (initial_used p) ≤ e.rate.acr

abbrev StaysAt : (p : Params) (a : ℕ) → Entry → Type 0
StaysAt p a free = ⊥
StaysAt p a (taken e) = Stays p a e

module _ (p : Params) (a : ℕ) (uncut : p.c ≡ 7) where
  stays-worked : (level : ℕ) (o : List ℕ) (f : Fields) (d : Connection) → (f.dir ≡ 1 → ⊥) → Stays p a d → Stays p a (after_rm_cell level o f d)
  unfolding after_rm_cell after_forward_cell
  stays-worked level o f d n h = go (eqb f.dir 1) refl
    where
      go : (b : Bool) → eqb f.dir 1 ≡ b → Stays p a (cond b (after_backward_cell f d) (after_forward_cell level o d))
      go true e = absurd (n (eqb-true _ _ e))
      go false e = record { params = h.params; above = h.above }

  stays-sent : (t : ℕ) (m : Option ℕ) (d : Connection) (k : Kind) → Stays p a d → Stays p a (with_served m (after k t d))
  unfolding with_served after sent_forward sent_turned sent_data
  stays-sent t m d Forward h =
      let low = moved-above t d.unanswered d.pace d.rate (ap (λ (q : Params). q.c) h.params ∙ uncut) in
      record { params = (after_same Forward t d).params ∙ h.params; above = omega (arith, low, h.above, ap initial_used h.params) }
  stays-sent t m d Turned h = record { params = h.params; above = h.above }
  stays-sent t m d Data h = record { params = h.params; above = h.above }

  stays_step : (v : ℕ) (x z : Entry) (c : Call) (b : Answer) → Becomes v x c b z → Silent v c → StaysAt p a x → StaysAt p a z
  unfolding offered after_data_cell with_made after_out_of_rate
  stays_step v x z c b (unchanged k) u h = h
  stays_step v x z c b (entry_opened t k q) u h = absurd h
  stays_step v x z c b (entry_closed e) u h = absurd (u e)
  stays_step v x z c b (data_offered k j) u h = record { params = h.params; above = h.above }
  stays_step v x z c b (member_removed k e) u h = record { params = h.params; above = h.above }
  stays_step v x z c b (data_received e j) u h = record { params = h.params; above = h.above }
  stays_step v x z c b (rm_received {d} {o} level j f r e) u h = stays-worked level o f d (u f r e) h
  stays_step v x z c b (made_waits t level j k) u h = record { params = h.params; above = h.above }
  stays_step v x z c b (out_of_rate_gone t j) u h = record { params = h.params; above = h.above }
  stays_step v x z c b (cell_sent {d} {t} i m r l) u h = stays-sent t m d (kind_at t d) h

  stays-run : (v : ℕ) {s : State} → WellFormed s → (ds : List Call) → All (Silent v) ds → StaysAt p a (find v s.entries) → StaysAt p a (find v (final s ds).entries)
  stays-run v w [] u h = h
  stays-run v {s} w (c ∷ cs) u h = stays-run v {s = (step s c).state} (step-well-formed w c) cs u.1 (stays_step v _ _ c _ (becomes v s w.unique c) u.0 h)

pub deaf-stays : DeafStays
deaf-stays cs ds v d e f g u c =
    let p = d.rate.params in
    let a = d.rate.acr in
    let first : Stays p a d = record { params = refl; above = omega arith } in
    let last : Stays p a e = subst (StaysAt p a) g (stays-run p a c v (reached-well-formed cs) ds u (subst (StaysAt p a) (sym f) first)) in
    last.above
