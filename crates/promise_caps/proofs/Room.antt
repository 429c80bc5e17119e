-- A call changes the cap of one name, within what the others leave.
use Prim.Native.Nat.{ℕ, ◌+◌, ◌-◌, ◌≤◌, ◌<◌, max}
use mathlib.Core.Path.{◌≡◌, refl, sym, ap, subst, ◌∙◌}
use mathlib.Core.Logic.{◌≢◌, by_cases}
use mathlib.Core.Bool.{Bool, true, false, cond, ◌||◌, true≢false}
use mathlib.Core.List.{List, [], ◌∷◌}
use mathlib.Core.Option.{Option, none, some}
use native.Mathlib.Nat.{le_refl, le_trans}
use native.Mathlib.Decide.{dec_lt}
use native.Mathlib.Omega.{arith}
use lib.Dec.{eqb}
use borrow.Author.Tests.{eq-eqb, ne_eqb, eqb-true}
use Rattle.rate.specs.Code.{rate_of}
use Rattle.rate_params.specs.declared.params.Params.{Params}
use Rattle.rate_params.specs.Params.{least, initial_used}
use Rattle.cell.specs.declared.fields.Fields.{Fields}
use Rattle.cell.specs.Read.{Reading, Refused as Unread, DataCell, RmCell}
use Rattle.cell.specs.Name.{address_name}
use Rattle.cell.specs.Fields.{cell_name}
use Rattle.cell.specs.Reading.{reading}
use Rattle.port.specs.Limit.{limit}
use Rattle.port.proofs.Followed.{none_above}
use Rattle.connection_members.specs.Path.{path_vci}
use Rattle.model.specs.Call.{Call, opening, closing, receiving, slot, opening_path}
use Rattle.model.specs.Run.{params_after, params_by}
use Rattle.promise_delivery.specs.Calls.{total, is_in}
use Rattle.model.specs.Aspects.{Sort, sort_of}
use Rattle.model.proofs.BySort.{BySort, an_opening, an_opening_path, a_closing, a_receiving, a_slot, another_call, by_sort}
use Rattle.promise_delivery.proofs.Total.{total_mono}
use Rattle.promise_caps.specs.Known.{open_cap, fed_cap, read_cap, cap_by, Known, known_by, if_given, load, cap_sort}
use Rattle.promise_caps.specs.Room.{Distinct, room, ReadInRoom, InRoom, CapsAtLeast, RoomsKept}

-- one number for each name; that of u changes
module _ (u : ℕ) (w z : ℕ → ℕ) (others : (v : ℕ) → u ≢ v → z v ≤ w v) where
  abbrev rest : List ℕ → ℕ
  rest vs = total (λ v. cond (eqb v u) 0 (w v)) vs

  without : (vs : List ℕ) → is_in u vs ≡ false → total z vs ≤ rest vs
  unfolding is_in
  without [] e = le_refl 0
  without (v ∷ vs) e = go (eqb v u) refl e (without vs)
    where
      go : (b : Bool) → eqb v u ≡ b → (b || is_in u vs) ≡ false → (is_in u vs ≡ false → total z vs ≤ rest vs) → z v + total z vs ≤ cond b 0 (w v) + rest vs
      go true q e ih = absurd (true≢false e)
      go false q e ih = omega (arith, ih e, others v (λ (n : u ≡ v). true≢false (sym (eq-eqb v u (sym n)) ∙ q)))

  one_more : (vs : List ℕ) → Distinct vs → total z vs ≤ rest vs + z u
  one_more [] d = omega arith
  one_more (v ∷ vs) d = go (eqb v u) refl (one_more vs d.1)
    where
      go : (b : Bool) → eqb v u ≡ b → total z vs ≤ rest vs + z u → z v + total z vs ≤ (cond b 0 (w v) + rest vs) + z u
      go true q ih =
          let e : v ≡ u = eqb-true v u q in
          omega (arith, ap z e, without vs (subst (λ (n : ℕ). is_in n vs ≡ false) e d.0))
      go false q ih = omega (arith, ih, others v (λ (n : u ≡ v). true≢false (sym (eq-eqb v u (sym n)) ∙ q)))

  rest-most : (vs : List ℕ) → rest vs ≤ total w vs
  rest-most vs = total_mono (λ v. cond (eqb v u) 0 (w v)) w (λ v. go v (eqb v u)) vs
    where
      go : (v : ℕ) (b : Bool) → cond b 0 (w v) ≤ w v
      go v true = omega arith
      go v false = le_refl _

  still-fits : (capacity : ℕ) (vs : List ℕ) → Distinct vs → total w vs ≤ capacity → z u ≤ max (w u) (capacity - rest vs) → total z vs ≤ capacity
  still-fits capacity vs d f h = by_cases (dec_lt (w u) (z u)) (λ l. omega (arith, l, one_more vs d, rest-most vs)) (λ l. le_trans (total_mono z w (λ v. lower l v) vs) f)
    where
      lower : (w u < z u → ⊥) → (v : ℕ) → z v ≤ w v
      lower l v = go (eqb u v) refl
        where
          go : (b : Bool) → eqb u v ≡ b → z v ≤ w v
          go true q = subst (λ (n : ℕ). z n ≤ w n) (eqb-true u v q) (omega (arith, l))
          go false q = others v (λ (n : u ≡ v). true≢false (sym (eq-eqb u v n) ∙ q))

module _ (capacity : ℕ) (vs : List ℕ) (k : ℕ → Known) (d : Distinct vs) (low : CapsAtLeast k) (f : total (λ v. load (k v)) vs ≤ capacity) where
  abbrev After : Call → Bool → Type 0
  After c b = total (λ v. load (known_by v c b (k v))) vs ≤ capacity

  -- one that raises none
  no-rise : (c : Call) (b : Bool) → ((v : ℕ) → load (known_by v c b (k v)) ≤ load (k v)) → After c b
  no-rise c b h = le_trans (total_mono (λ v. load (known_by v c b (k v))) (λ v. load (k v)) h vs) f

  -- an open of u
  abbrev open_load : (b z : Bool) → Params → Known → ℕ
  open_load b z p y = if_given (cond b (cond z (some p) y.given) y.given) (cond z (open_cap y.cap p y.given) y.cap)

  open-most : (b z : Bool) (g : Option Params) (a : ℕ) (p : Params) → open_load b z p (record { given = g; cap = a }) ≤ max (if_given g a) (initial_used p)
  unfolding if_given open_cap
  open-most true true none a p = omega arith
  open-most true true (some q) a p = omega arith
  open-most true false none a p = omega arith
  open-most true false (some q) a p = omega arith
  open-most false true none a p = omega arith
  open-most false true (some q) a p = omega arith
  open-most false false none a p = omega arith
  open-most false false (some q) a p = omega arith

  open-other : (b : Bool) (y : Known) (p : Params) → open_load b false p y ≤ load y
  open-other true y p = le_refl _
  open-other false y p = le_refl _

  opened : (u : ℕ) (p : Params) (c : Call) (b : Bool) → ((v : ℕ) → load (known_by v c b (k v)) ≡ open_load b (eqb u v) p (k v)) → initial_used p ≤ room capacity vs k u → After c b
  opened u p c b e h =
      still-fits u (λ v. load (k v)) (λ v. load (known_by v c b (k v)))
      (λ v n. subst (λ (m : ℕ). m ≤ load (k v)) (sym (e v ∙ ap (λ (z : Bool). open_load b z p (k v)) (ne_eqb u v n))) (open-other b (k v) p)) capacity vs d f
      (let y = open-most b (eqb u u) (k u).given (k u).cap p in omega (arith, h, e u, y))

  close-load : (b z : Bool) (g : Option Params) (a : ℕ) → if_given (cond b (cond z none g) g) a ≤ if_given g a
  unfolding if_given
  close-load true true g a = omega arith
  close-load true false g a = le_refl _
  close-load false z g a = le_refl _

  -- a call that changes neither, accepted or not
  unmoved :
      (c : Call) → ((v : ℕ) (g : Option Params) → params_by v (sort_of c) g ≡ g) → ((v a : ℕ) (g : Option Params) → cap_sort v a g (sort_of c) ≡ a) → (b : Bool)
      → After c b
  unfolding params_after cap_by
  unmoved c given cap b = no-rise c b (λ v. go b v)
    where
      go : (b : Bool) (v : ℕ) → load (known_by v c b (k v)) ≤ load (k v)
      go true v = rw (given v (k v).given, cap v (k v).cap (k v).given) (le_refl _)
      go false v = rw (cap v (k v).cap (k v).given) (le_refl _)

  -- a received cell, accepted or not
  read-load : (o : List ℕ) (b : Bool) (v : ℕ) → load (known_by v (receiving o) b (k v)) ≡ if_given (k v).given (read_cap v (k v).cap (k v).given (reading o))
  unfolding params_after cap_by
  read-load o true v = refl
  read-load o false v = refl

  -- a backward cell of u
  fed-load : (g : Option Params) (a er r : ℕ) → ((p : Params) → g ≡ some p → least p ≤ a) → er ≤ r → if_given g (fed_cap a er g) ≤ max (if_given g a) r
  unfolding if_given fed_cap
  fed-load none a er r h l = omega arith
  fed-load (some p) a er r h l = omega (arith, h p refl)

  read_fits : (o : List ℕ) (b : Bool) (y : Reading) → reading o ≡ y → ReadInRoom capacity vs k y → After (receiving o) b
  unfolding read_cap
  read_fits o b (Unread n) e h = no-rise (receiving o) b (λ v. rw (read-load o b v, e) (le_refl _))
  read_fits o b (DataCell i j x) e h = no-rise (receiving o) b (λ v. rw (read-load o b v, e) (le_refl _))
  read_fits o b (RmCell x) e h = go (eqb x.dir 1) refl
    where
      u : ℕ
      u = cell_name x

      after : Bool → ℕ → ℕ
      after z v = if_given (k v).given (cond z (cond (eqb (cell_name x) v) (fed_cap (k v).cap (rate_of x.er) (k v).given) (k v).cap) (k v).cap)

      is : (z : Bool) → eqb x.dir 1 ≡ z → (v : ℕ) → load (known_by v (receiving o) b (k v)) ≡ after z v
      is z q v = read-load o b v ∙ rw (e, q) refl

      go : (z : Bool) → eqb x.dir 1 ≡ z → After (receiving o) b
      go false q = no-rise (receiving o) b (λ v. subst (λ (n : ℕ). n ≤ load (k v)) (sym (is false q v)) (le_refl _))
      go true q =
          still-fits u (λ v. load (k v)) (λ v. load (known_by v (receiving o) b (k v)))
          (λ v n. subst (λ (m : ℕ). m ≤ load (k v)) (sym (is true q v ∙ ap (λ (y : Bool). if_given (k v).given (cond y (fed_cap (k v).cap (rate_of x.er) (k v).given) (k v).cap)) (ne_eqb (cell_name x) v n))) (le_refl _))
          capacity vs d f
          (subst (λ (m : ℕ). m ≤ max (load (k u)) (room capacity vs k u))
          (sym (is true q u ∙ ap (λ (y : Bool). if_given (k u).given (cond y (fed_cap (k u).cap (rate_of x.er) (k u).given) (k u).cap)) (eq-eqb (cell_name x) u refl)))
          (fed-load (k u).given (k u).cap (rate_of x.er) (room capacity vs k u) (low u) (h (eqb-true x.dir 1 q))))

  call_fits : {c : Call} → BySort c → (b : Bool) → InRoom capacity vs k c → After c b
  unfolding params_after cap_by
  call_fits (an_opening i j t p) b h = opened (address_name i j) p (opening i j t p) b (λ v. refl) (omega (arith, h))
  call_fits (an_opening_path i t p) b h = opened (address_name i path_vci) p (opening_path i t p) b (λ v. refl) (omega (arith, h))
  call_fits (a_closing i j) b h = no-rise (closing i j) b (λ v. close-load b (eqb (address_name i j) v) (k v).given (k v).cap)
  call_fits (a_receiving o) b h = read_fits o b (reading o) refl h
  call_fits (a_slot t r) b h = unmoved (slot t r) (λ v g. refl) (λ v a g. refl) b
  call_fits (another_call c q) b h = unmoved c (λ v g. ap (λ (x : Sort). params_by v x g) q) (λ v a g. ap (cap_sort v a g) q) b

  limited-in : (rate : ℕ) (y : Reading) → ((x : Fields) → y ≡ RmCell x → x.dir ≡ 1 → rate_of x.er ≤ room capacity vs k (cell_name x)) → ReadInRoom capacity vs k y
  limited-in rate (Unread n) h = tt
  limited-in rate (DataCell i j e) h = tt
  limited-in rate (RmCell x) h = λ q. h x refl q

own_room : (w : ℕ → ℕ) (capacity : ℕ) (vs : List ℕ) (v : ℕ) → is_in v vs ≡ true → total w vs ≤ capacity → w v + total (λ u. cond (eqb u v) 0 (w u)) vs ≤ total w vs
unfolding is_in
own_room w capacity [] v e f = absurd (true≢false (sym e))
own_room w capacity (u ∷ vs) v e f = go (eqb u v) refl e (λ i. own_room w capacity vs v i (omega (arith, f)))
  where
    low : (b : Bool) (x : ℕ) → cond b 0 (w x) ≤ w x
    low true x = omega arith
    low false x = le_refl _

    go : (b : Bool) → eqb u v ≡ b → (b || is_in v vs) ≡ true → (is_in v vs ≡ true → w v + total (λ u. cond (eqb u v) 0 (w u)) vs ≤ total w vs)
        → w v + (cond b 0 (w u) + total (λ u. cond (eqb u v) 0 (w u)) vs) ≤ w u + total w vs
    go true q e ih = omega (arith, ap w (eqb-true u v q), total_mono (λ u. cond (eqb u v) 0 (w u)) w (λ x. low (eqb x v) x) vs)
    go false q e ih = omega (arith, ih e)

pub rooms-kept : RoomsKept
rooms-kept capacity vs k d low f = record {
  fits = λ c b h. call_fits capacity vs k d low f (by_sort c) b h;
  enough = λ v e. omega (arith, f, own_room (λ u. load (k u)) capacity vs v e f);
  limited = λ rate o h.
      limited-in capacity vs k d low f rate (reading (limit rate o).cell) (λ x e q. le_trans (none_above rate o x e q) (h x e q));
}
