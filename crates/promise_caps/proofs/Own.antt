-- Every call leaves each rate at or below the cap that the cells make.
use Prim.Native.Nat.{ℕ, ◌≤◌}
use mathlib.Core.Path.{◌≡◌, refl, sym, ap, subst, ◌∙◌}
use mathlib.Core.Bool.{Bool, true, false, cond, true≢false}
use mathlib.Core.List.{List, [], ◌∷◌}
use mathlib.Core.Option.{none, some}
use native.Mathlib.Nat.{le_refl, le_trans}
use native.Mathlib.Omega.{arith}
use lib.Dec.{eqb}
use borrow.Author.Tests.{eq-eqb, eqb-true}
use Rattle.rate.specs.Code.{rate_of}
use Rattle.rate_params.specs.declared.params.Params.{Params}
use Rattle.rate_params.specs.Params.{initial_used}
use Rattle.rate_moves.specs.declared.moves.Rate.{Rate}
use Rattle.rate_moves.specs.Moves.{feedback}
use Rattle.rate_moves.specs.Bounds.{RateInBounds}
use Rattle.rate_moves.proofs.FourMoves.{feedback-in-bounds}
use Rattle.cell.specs.declared.fields.Fields.{Fields}
use Rattle.cell.specs.Read.{Reading, Refused as Unread, DataCell, RmCell}
use Rattle.cell.specs.Name.{address_name}
use Rattle.cell.specs.Fields.{cell_name}
use Rattle.cell.specs.Reading.{reading}
use Rattle.connection_members.specs.Path.{path_vci}
use Rattle.connection.specs.declared.parts.Connection.{Connection}
use Rattle.connection.specs.Parts.{fresh}
use Rattle.connection.specs.Source.{after_backward_cell}
use Rattle.model.specs.State.{State, Entry, free, taken, empty, find, with_opened, with_time}
use Rattle.model.specs.Invariant.{NamesUnique, OnEntry, Each, WellFormed}
use Rattle.model.specs.Call.{Call, opening, closing, receiving, slot, opening_path, Outcome}
use Rattle.model.specs.Step.{refuse, accept, replay, step}
use Rattle.model.specs.Run.{final}
use Rattle.model.proofs.Entries.{taken≢free, each_at, find-hit, find_past, find-name}
use Rattle.model.proofs.Frames.{with-opened-read}
use Rattle.model.proofs.Effects.{OpenPassed, Effect, refuses, opens, opens_path, effect}
use Rattle.model.proofs.Preserved.{valid-at}
use Rattle.model.proofs.Reached.{step-well-formed, final-well-formed, reached-well-formed}
use Rattle.promise_lists.proofs.Received.{step-fed}
use Rattle.promise_lists.proofs.Moves.{StillOpen}
use Rattle.promise_cells.specs.Changes.{NotFedBack, NoFeedback}
use Rattle.promise_loop.specs.Settled.{settled_rate}
use Rattle.promise_loop.proofs.Fed.{Stands}
use Rattle.promise_loop.proofs.Others.{After, other_step}
use Rattle.model.specs.Aspects.{sort_of}
use Rattle.model.proofs.BySort.{BySort, an_opening, an_opening_path, a_closing, a_receiving, a_slot, another_call, by_sort}
use Rattle.promise_delivery.specs.Calls.{opens_name}
use Rattle.promise_delivery.specs.Turns.{Turn, table_at, time_passed, slot_of}
use Rattle.promise_delivery.proofs.Calls.{Later, absent, begun, step-later}
use Rattle.promise_caps.specs.Lag.{turns_of, CapTurnsFit}
use Rattle.promise_caps.specs.Known.{open_cap, fed_cap, read_cap, cap_by, cap_sort}
use Rattle.promise_caps.specs.Own.{params_in, caps_by, RatesUnder, own_turns, OwnTurnsFit, OwnCaps}

-- What holds of every connection that is found holds of each entry.
pub each-found : (P : Connection → Type 0) (ss : List Entry) → NamesUnique ss → ((u : ℕ) (d : Connection) → find u ss ≡ taken d → P d) → Each P ss
each-found P [] a h = tt
each-found P (free ∷ ss) a h = (tt, each-found P ss a.1 (λ u d e. h u d (find_past u free ss tt ∙ e)))
each-found P (taken c ∷ ss) a h = (h c.name c (find-hit c.name c ss refl), each-found P ss a.1 (λ u d e. h u d (find_past u (taken c) ss (apart u d e) ∙ e)))
  where
    apart : (u : ℕ) (d : Connection) → find u ss ≡ taken d → c.name ≡ u → ⊥
    apart u d e q = each_at (λ x. x.name ≡ c.name → ⊥) u ss d e a.0 (subst (OnEntry (λ x. x.name ≡ u)) e (find-name u ss) ∙ sym q)

-- what is read of an RM cell
abbrev is_rm : Reading → ℕ
is_rm (Unread n) = 0
is_rm (DataCell i j e) = 0
is_rm (RmCell f) = 1

abbrev name_read : Reading → ℕ
name_read (Unread n) = 0
name_read (DataCell i j e) = 0
name_read (RmCell f) = cell_name f

abbrev dir_read : Reading → ℕ
dir_read (Unread n) = 0
dir_read (DataCell i j e) = 0
dir_read (RmCell f) = f.dir

fed-low : (ci ni : Bool) (e : ℕ) (q : Rate) → RateInBounds q → (feedback ci ni e q).acr ≤ settled_rate q.params e
unfolding feedback
fed-low ci ni e q b = omega (arith, (feedback-in-bounds ci ni e q b).below, b.above, b.below)

module _ (v a : ℕ) (s : State) (w : WellFormed s) where
  abbrev Found : Call → Connection → Type 0
  Found c e = find v (step s c).state.entries ≡ taken e

  -- an open connection
  module _ (d : Connection) (f : find v s.entries ≡ taken d) (l : d.rate.acr ≤ a) where
    not-fed : (c : Call) → NotFedBack v c → (e : Connection) → Found c e → e.rate.acr ≤ a
    not-fed c n e g =
        let z : Stands v d.rate s = record { holder = d; found = f; rate = refl } in
        let y : StillOpen v (step s c).state = record { holder = e; found = g } in
        let x : After v d.rate s c = other_step w z c y in
        subst (OnEntry (λ h. h.rate.acr ≤ a)) (sym x.found ∙ g) (le_trans (x.down n) l)

    fed-under : (o : List ℕ) (x : Fields) → reading o ≡ RmCell x → x.dir ≡ 1 → cell_name x ≡ v → (e : Connection) → Found (receiving o) e → e.rate.acr ≤ settled_rate d.rate.params (rate_of x.er)
    unfolding after_backward_cell
    fed-under o x r i k e g =
        let at : find (cell_name x) s.entries ≡ taken d = ap (λ (u : ℕ). find u s.entries) k ∙ f in
        let h : find v (step s (receiving o)).state.entries ≡ taken (after_backward_cell x d) =
        ap (λ (u : ℕ). find u (step s (receiving o)).state.entries) (sym k) ∙ step-fed s w.unique o x d r i at in
        subst (OnEntry (λ h. h.rate.acr ≤ settled_rate d.rate.params (rate_of x.er))) (sym h ∙ g)
        (fed-low (eqb x.ci 1) (eqb x.ni 1) (rate_of x.er) d.rate (valid-at w v d f).1.rates)

    received : (o : List ℕ) (y : Reading) → reading o ≡ y → (e : Connection) → Found (receiving o) e → e.rate.acr ≤ read_cap v a (some d.rate.params) y
    unfolding read_cap fed_cap
    received o (Unread n) r e g = not-fed (receiving o) (λ x p i k. absurd (omega (arith, ap is_rm (sym r ∙ p)))) e g
    received o (DataCell i j b) r e g = not-fed (receiving o) (λ x p i k. absurd (omega (arith, ap is_rm (sym r ∙ p)))) e g
    received o (RmCell x) r e g = go (eqb x.dir 1) (eqb (cell_name x) v) refl refl
      where
        go : (b n : Bool) → eqb x.dir 1 ≡ b → eqb (cell_name x) v ≡ n → e.rate.acr ≤ cond b (cond n (fed_cap a (rate_of x.er) (some d.rate.params)) a) a
        go true true p q = omega (arith, fed-under o x r (eqb-true x.dir 1 p) (eqb-true (cell_name x) v q) e g)
        go true false p q = not-fed (receiving o) (λ y z i k. true≢false (sym (eq-eqb (cell_name x) v (ap name_read (sym r ∙ z) ∙ k)) ∙ q)) e g
        go false n p q = not-fed (receiving o) (λ y z i k. true≢false (sym (eq-eqb x.dir 1 (ap dir_read (sym r ∙ z) ∙ i)) ∙ p)) e g

  -- one that is not open
  module _ (f : find v s.entries ≡ free) where
    new_under :
        (u t : ℕ) (p : Params) → OpenPassed s u t p → (e : Connection) → find v (with_opened (fresh u t p) s).entries ≡ taken e
        → e.rate.acr ≤ cond (eqb u v) (initial_used p) a
    unfolding fresh
    new_under u t p g e h = go (eqb u v) refl
      where
        read : (b : Bool) → eqb u v ≡ b → find v (with_opened (fresh u t p) s).entries ≡ cond b (taken (fresh u t p)) (find v s.entries)
        read b q = with-opened-read (λ (x : Entry). x) v s (fresh u t p) g.new g.room ∙ ap (λ (z : Bool). cond z (taken (fresh u t p)) (find v s.entries)) q

        go : (b : Bool) → eqb u v ≡ b → e.rate.acr ≤ cond b (initial_used p) a
        go true q = subst (OnEntry (λ x. x.rate.acr ≤ initial_used p)) (sym (read true q) ∙ h) (le_refl _)
        go false q = absurd (taken≢free (sym h ∙ (read false q ∙ f)))

    opening-under :
        (i j t : ℕ) (p : Params) {o : Outcome} → Effect s (opening i j t p) o → (e : Connection) → find v o.state.entries ≡ taken e
        → e.rate.acr ≤ cond (eqb (address_name i j) v) (initial_used p) a
    unfolding refuse accept replay with_time
    opening-under i j t p (refuses c n z) e h = absurd (taken≢free (sym h ∙ f))
    opening-under i j t p (opens _ _ _ _ g) e h = new_under (address_name i j) t p g e h

    path-under :
        (i t : ℕ) (p : Params) {o : Outcome} → Effect s (opening_path i t p) o → (e : Connection) → find v o.state.entries ≡ taken e
        → e.rate.acr ≤ cond (eqb (address_name i path_vci) v) (initial_used p) a
    unfolding refuse accept replay with_time
    path-under i t p (refuses c n z) e h = absurd (taken≢free (sym h ∙ f))
    path-under i t p (opens_path _ _ _ g) e h = new_under (address_name i path_vci) t p g e h

    not_opened : (c : Call) → opens_name v (sort_of c) ≡ 0 → (e : Connection) → Found c e → e.rate.acr ≤ a
    not_opened c n e g = go (step-later v w c f)
      where
        go : Later v c (find v (step s c).state.entries) → e.rate.acr ≤ a
        go (absent q) = absurd (taken≢free (sym g ∙ q))
        go (begun x q p o) = absurd (omega (arith, n, o))

  abbrev Before : Type 0
  Before = (d : Connection) → find v s.entries ≡ taken d → d.rate.acr ≤ a

  -- no call but one that opens v, or brings its feedback
  other : (c : Call) → opens_name v (sort_of c) ≡ 0 → NotFedBack v c → Before → (e : Connection) → Found c e → e.rate.acr ≤ a
  other c o n h e g = go (find v s.entries) refl
    where
      go : (x : Entry) → find v s.entries ≡ x → e.rate.acr ≤ a
      go free f = not_opened f c o e g
      go (taken d) f = not-fed d f (h d f) c n e g

  free-cap : (y : Reading) → read_cap v a none y ≡ a
  unfolding read_cap fed_cap
  free-cap (Unread n) = refl
  free-cap (DataCell i j e) = refl
  free-cap (RmCell f) = go (eqb f.dir 1) (eqb (cell_name f) v)
    where
      go : (b n : Bool) → cond b (cond n a a) a ≡ a
      go true true = refl
      go true false = refl
      go false n = refl

  same-cap : (b : Bool) → cond b a a ≡ a
  same-cap true = refl
  same-cap false = refl

  step-under : {c : Call} → BySort c → Before → (e : Connection) → Found c e → e.rate.acr ≤ cap_by v a (params_in (find v s.entries)) c
  unfolding cap_by open_cap opens_name
  step-under (an_opening i j t p) h e g = go (find v s.entries) refl
    where
      go : (x : Entry) → find v s.entries ≡ x → e.rate.acr ≤ cond (eqb (address_name i j) v) (open_cap a p (params_in x)) a
      go free f = opening-under f i j t p (effect s w.unique (opening i j t p)) e g
      go (taken d) f = rw (same-cap (eqb (address_name i j) v)) (not-fed d f (h d f) (opening i j t p) tt e g)
  step-under (an_opening_path i t p) h e g = go (find v s.entries) refl
    where
      go : (x : Entry) → find v s.entries ≡ x → e.rate.acr ≤ cond (eqb (address_name i path_vci) v) (open_cap a p (params_in x)) a
      go free f = path-under f i t p (effect s w.unique (opening_path i t p)) e g
      go (taken d) f = rw (same-cap (eqb (address_name i path_vci) v)) (not-fed d f (h d f) (opening_path i t p) tt e g)
  step-under (a_closing i j) h e g = other (closing i j) refl tt h e g
  step-under (a_receiving o) h e g = go (find v s.entries) refl
    where
      go : (x : Entry) → find v s.entries ≡ x → e.rate.acr ≤ read_cap v a (params_in x) (reading o)
      go free f = rw (free-cap (reading o)) (not_opened f (receiving o) refl e g)
      go (taken d) f = received d f (h d f) o (reading o) refl e g
  step-under (a_slot t room) h e g = other (slot t room) refl tt h e g
  step-under (another_call c q) h e g =
      let cap : cap_sort v a (params_in (find v s.entries)) (sort_of c) ≡ a = ap (cap_sort v a (params_in (find v s.entries))) q in
      subst (λ (n : ℕ). e.rate.acr ≤ n) (sym cap) (other c (ap (opens_name v) q) (subst (NoFeedback v) (sym q) tt) h e g)

-- All names.
rates-step : (q : ℕ → ℕ) (s : State) → WellFormed s → (c : Call) → RatesUnder q s → RatesUnder (λ v. cap_by v (q v) (params_in (find v s.entries)) c) (step s c).state
rates-step q s w c h =
    each-found (λ d. d.rate.acr ≤ cap_by d.name (q d.name) (params_in (find d.name s.entries)) c) (step s c).state.entries (step-well-formed w c).unique
    (λ u e g. subst (λ (n : ℕ). e.rate.acr ≤ cap_by n (q n) (params_in (find n s.entries)) c) (sym (named u (step s c).state.entries e g))
    (step-under u (q u) s w (by_sort c) (λ d f. subst (λ (n : ℕ). d.rate.acr ≤ q n) (named u s.entries d f) (each_at (λ x. x.rate.acr ≤ q x.name) u s.entries d f h)) e g))
  where
    named : (u : ℕ) (ss : List Entry) (e : Connection) → find u ss ≡ taken e → e.name ≡ u
    named u ss e g = subst (OnEntry (λ x. x.name ≡ u)) g (find-name u ss)

rates-kept : (q : ℕ → ℕ) (s : State) → WellFormed s → (cs : List Call) → RatesUnder q s → RatesUnder (caps_by q s cs) (final s cs)
rates-kept q s w [] h = h
rates-kept q s w (c ∷ cs) h = rates-kept (λ v. cap_by v (q v) (params_in (find v s.entries)) c) (step s c).state (step-well-formed w c) cs (rates-step q s w c h)

rates-slot : (r : ℕ → ℕ) (s : State) → WellFormed s → (t room : ℕ) → RatesUnder r s → RatesUnder r (step s (slot t room)).state
unfolding cap_by
rates-slot r s w t room h = rates-step r s w (slot t room) h

own-turns :
    (vs : List ℕ) (S G lag : ℕ) → S ≤ G → (xs : List Turn) (q : ℕ → ℕ) (m : ℕ) (s : State) → WellFormed s → RatesUnder q s → OwnTurnsFit vs q S G lag m s xs
    → CapTurnsFit vs S G lag m s (own_turns lag q s xs)
own-turns vs S G lag wide [] q m s w h f = tt
own-turns vs S G lag wide (x ∷ xs) q m s w h f =
    let here = table_at s x in
    let r = caps_by q s x.between in
    let k : RatesUnder r here = rates-kept q s w x.between h in
    let z = final-well-formed w x.between in (
      record {
        others = f.0.others;
        timely = f.0.timely;
        in_range = f.0.in_range;
        soon = f.0.soon;
        held = record { among = f.0.among; rates = k };
        fits = f.0.fits;
        fitted = f.0.fitted;
      },
      own-turns vs S G lag wide xs r x.now (slot_of lag s x).state (step-well-formed z (slot (time_passed lag s x) 53)) (rates-slot r here z (time_passed lag s x) 53 k) f.1,
    )

own_same : (lag : ℕ) (q : ℕ → ℕ) (s : State) (xs : List Turn) → turns_of (own_turns lag q s xs) ≡ xs
own_same lag q s [] = refl
own_same lag q s (x ∷ xs) = ap (λ (ys : List Turn). x ∷ ys) (own_same lag (caps_by q s x.between) (slot_of lag s x).state xs)

pub own-caps : OwnCaps
own-caps cs = let s = final empty cs in let w = reached-well-formed cs in record {
  kept = λ q ds h. rates-kept q s w ds h;
  turns = λ vs q S G lag m xs wide h f. own-turns vs S G lag wide xs q m s w h f;
  same = λ q lag xs. own_same lag q s xs;
}
