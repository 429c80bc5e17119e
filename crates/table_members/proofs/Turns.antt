-- The turn: the scan from the name after the last one served, else from the first of the path.
use Prim.Native.Nat.{ℕ, ◌+◌, ◌-◌, ◌*◌, ◌/◌, ◌%◌, ◌≤◌, ◌<◌}
use mathlib.Core.Path.{◌≡◌, refl, sym, ap, ap₂, subst, ◌∙◌}
use mathlib.Core.Bool.{Bool, true, false, cond, ◌&&◌}
use mathlib.Core.List.{List, [], ◌∷◌, ◌++◌}
use mathlib.Core.Option.{Option, none, some}
use native.Mathlib.Nat.{le_trans}
use native.Mathlib.Omega.{arith}
use lib.Dec.{leb, ltb}
use lib.ListN.{get_or, set, drop}
use borrow.Author.Tests.{ltb-true, ltb-false, le-leb, lt-leb, lt-ltb, le-ltb, ne_eqb}
use Rattle.cell.specs.Name.{no_name, vci_in}
use Rattle.connection_members.specs.Path.{is_path, first_vci}
use Rattle.connection_members.specs.Members.{Member, member_capacity, on_path, is_member, cells_of}
use Rattle.connection_members.specs.Turn.{first_from, or_else, turn, after_serving}
use Rattle.connection_members.specs.Invariant.{Rising, ValidMember, ValidMembers}
use Rattle.laws.specs.All.{All}
use Rattle.connection_members.proofs.Lists.{all_map, all_named}
use Rattle.connection_members.proofs.Turns.{turn-none}
use Rattle.connection_members.proofs.Valid.{cells_fit}
use Rattle.table.specs.Layout.{members_from, member_words}
use Rattle.std.specs.Prelude.{Option as CodeOption, Some, None}
use Rattle.table_column.specs.Descending.{at_least}
use Rattle.table_column.specs.Column.{CountsAtLeast, CountsUpTo}
use Rattle.table_column.proofs.Descending.{at-least-fewer}
use Rattle.table_members.specs.Place.{below, word_limit, first_below}
use Rattle.table_members.specs.Words.{WithMembers, TurnAt, TurnFound, Next, Turns, name_or_zero, Serves}
use Rattle.table_members.proofs.Packed.{in-column, words-below}
use Rattle.table_members.proofs.Places.{below_step, below-stop, below_none, above}
use Rattle.table_members.proofs.Found.{word_at, store_cells}
use Rattle.table_members.proofs.Runs.{Lies, under, among, over, lies, first_of, on-path, under-path, over-path}

-- ---- a path's members with data, from a name on

first-behind : (top : ℕ) (ms : List Member) → All (λ n. top ≤ n.name) ms → first_below top ms ≡ none
unfolding first_below
first-behind top [] h = refl
first-behind top (m ∷ ms) h = rw (le-ltb m.name top h.0)

module _ (v : ℕ) (path : v % 65536 ≡ 6) where
  abbrev top : ℕ
  top = first_of v + 65536

  -- from x on is a scan from the place of x, up to the next path's first name
  first_run : (x : ℕ) → first_of v ≤ x → x ≤ top → (ms : List Member) → Rising ms → first_from v x ms ≡ first_below top (drop (below x ms) ms)
  unfolding first_from first_below below
  first_run x h g [] r = refl
  first_run x h g (m ∷ ms) r = go (lies x top m.name g) (first_run x h g ms r.1)
    where
      stopped : x ≤ m.name → drop (below x (m ∷ ms)) (m ∷ ms) ≡ m ∷ ms
      stopped a = ap (λ (n : ℕ). drop n (m ∷ ms)) (below-stop x m ms r a)

      all_from : x ≤ m.name → first_below top (drop (below x ms) ms) ≡ first_below top ms
      all_from a = ap (λ (n : ℕ). first_below top (drop n ms)) (below_none x ms (above x m ms a r.0))

      skip : (t c : Bool) → (t && (false && c)) ≡ false
      skip true c = refl
      skip false c = refl

      go : Lies x top m.name → first_from v x ms ≡ first_below top (drop (below x ms) ms)
          → cond (on_path v m.name && (leb x m.name && ltb 0 m.cells)) (some m.name) (first_from v x ms) ≡ first_below top (drop (below x (m ∷ ms)) (m ∷ ms))
      go (under a) k =
          rw (lt-leb x m.name a, skip (on_path v m.name) (ltb 0 m.cells))
          (k ∙ sym (ap (λ (n : ℕ). first_below top (drop n (m ∷ ms))) (below_step x m ms a)))
      go (among a b) k =
          rw (on-path v m.name path (le_trans h a) b, le-leb x m.name a)
          (ap (cond (ltb 0 m.cells) (some m.name)) (k ∙ all_from a)
          ∙ sym (ap (λ (t : Bool). cond t (cond (ltb 0 m.cells) (some m.name) (first_below top ms)) none) (lt-ltb m.name top b))
          ∙ sym (ap (first_below top) (stopped a)))
      go (over a b) k =
          rw (over-path v m.name path a)
          (k ∙ all_from b ∙ first-behind top ms (above top m ms a r.0)
          ∙ sym (ap (λ (t : Bool). cond t (cond (ltb 0 m.cells) (some m.name) (first_below top ms)) none) (le-ltb m.name top a))
          ∙ sym (ap (first_below top) (stopped b)))

  -- from 0 on is from the path's first name on
  first-start : (ms : List Member) → first_from v 0 ms ≡ first_from v (first_of v) ms
  unfolding first_from
  first-start [] = refl
  first-start (m ∷ ms) = go (ltb m.name (first_of v)) refl (first-start ms)
    where
      go : (b : Bool) → ltb m.name (first_of v) ≡ b → first_from v 0 ms ≡ first_from v (first_of v) ms
          → cond (on_path v m.name && (leb 0 m.name && ltb 0 m.cells)) (some m.name) (first_from v 0 ms)
          ≡ cond (on_path v m.name && (leb (first_of v) m.name && ltb 0 m.cells)) (some m.name) (first_from v (first_of v) ms)
      go true q k = rw (under-path v m.name path (ltb-true m.name (first_of v) q)) k
      go false q k = rw (le-leb 0 m.name (omega arith), le-leb (first_of v) m.name (ltb-false m.name (first_of v) q), k)

  -- the two scans of a turn
  turn-scans : (q : ℕ) → q ≤ 65535 → (ms : List Member) → Rising ms
      → turn v q ms ≡ or_else (first_below top (drop (below (first_of v + q + 1) ms) ms)) (first_below top (drop (below (first_of v) ms) ms))
  unfolding turn
  turn-scans q h ms r =
      ap₂ or_else (first_run (first_of v + q + 1) (omega arith) (omega (arith, h)) ms r) (first-start ms ∙ first_run (first_of v) (omega arith) (omega arith) ms r)

-- ---- in the words of a table

module _ (l : List ℕ) (v q x : ℕ) (path : v % 65536 ≡ 6) (last : q ≤ 65535) (first : x ≡ v / 65536 % 256 * 65536) where
  -- the turn, of a path's name
  scans : v < no_name → (ms : List Member) → Rising ms
      → turn v q ms ≡ or_else (first_below (x + 65536) (drop (below (x + q + 1) ms) ms)) (first_below (x + 65536) (drop (below x ms) ms))
  scans h ms r =
      let e : first_of v ≡ x = omega (arith, first, h) in
      turn-scans v path q last ms r
      ∙ ap (λ (y : ℕ). or_else (first_below (y + 65536) (drop (below (y + q + 1) ms) ms)) (first_below (y + 65536) (drop (below y ms) ms))) e

  -- where the two scans begin
  module _ (n p : ℕ) (is-limit : n ≡ word_limit (x + q + 1)) (c : CountsAtLeast members_from member_capacity l n p) where
    after_last : (b : List ℕ) (ms : List Member) → WithMembers l b ms → p ≡ below (x + q + 1) ms
    after_last b ms w =
        c.is b (member_words ms) [] (in-column l b ms w) ∙ ap (λ (y : ℕ). at_least y (member_words ms)) is-limit
        ∙ words-below (x + q + 1) ms (omega (arith, first, last)) w.valid

    from_first : (k s : ℕ) → k ≡ word_limit x → CountsUpTo members_from member_capacity p l k s → (b : List ℕ) (ms : List Member) → WithMembers l b ms → s ≡ below x ms
    from_first k s e u b ms w =
        let f : at_least k (member_words ms) ≡ below x ms = ap (λ (y : ℕ). at_least y (member_words ms)) e ∙ words-below x ms (omega (arith, first)) w.valid in
        u.is b (member_words ms) [] (in-column l b ms w)
        (omega (arith, c.is b (member_words ms) [] (in-column l b ms w), at-least-fewer n k (member_words ms) (omega (arith, is-limit, e)))) ∙ f

    pub turn-after : (r : CodeOption ℕ) → Next l p (x + 65536) r → (i : ℕ) → r ≡ Some i → Turns l v q (Some i)
    unfolding or_else
    turn-after r d i e = let m : Next l p (x + 65536) (Some i) = subst (Next l p (x + 65536)) e d in record {
      inside = m.inside;
      is = λ b ms w h. let t : TurnAt ms (first_below (x + 65536) (drop p ms)) i = m.is b ms w in record {
        name = t.name;
        here = t.here;
        is =
            scans h ms w.valid.rising
            ∙ ap (λ (o : Option ℕ). or_else o (first_below (x + 65536) (drop (below x ms) ms))) (ap (λ (y : ℕ). first_below (x + 65536) (drop y ms)) (sym (after_last b ms w)) ∙ t.is);
      };
    }

    pub turn-round :
        (k s : ℕ) → k ≡ word_limit x → CountsUpTo members_from member_capacity p l k s → (o r : CodeOption ℕ) → Next l p (x + 65536) o → o ≡ None → Next l s (x + 65536) r → Turns l v q r
    unfolding or_else
    turn-round k s f u o r d e m = record { inside = m.inside; is = λ b ms w h. go r b ms w h (m.is b ms w) }
      where
        none_after : (b : List ℕ) (ms : List Member) → WithMembers l b ms → first_below (x + 65536) (drop (below (x + q + 1) ms) ms) ≡ none
        none_after b ms w = ap (λ (y : ℕ). first_below (x + 65536) (drop y ms)) (sym (after_last b ms w)) ∙ (subst (Next l p (x + 65536)) e d).is b ms w

        round : (b : List ℕ) (ms : List Member) → WithMembers l b ms → v < no_name → turn v q ms ≡ first_below (x + 65536) (drop s ms)
        round b ms w h =
            scans h ms w.valid.rising ∙ ap (λ (y : Option ℕ). or_else y (first_below (x + 65536) (drop (below x ms) ms))) (none_after b ms w)
            ∙ ap (λ (y : ℕ). first_below (x + 65536) (drop y ms)) (sym (from_first k s f u b ms w))

        go : (r : CodeOption ℕ) (b : List ℕ) (ms : List Member) → WithMembers l b ms → v < no_name → TurnFound ms (first_below (x + 65536) (drop s ms)) r → TurnFound ms (turn v q ms) r
        go (Some i) b ms w h t = record { name = t.name; here = t.here; is = round b ms w h ∙ t.is }
        go None b ms w h t = round b ms w h ∙ t

pub turn-channel : (l : List ℕ) (v q : ℕ) → (v % 65536 ≡ 6 → ⊥) → Turns l v q None
unfolding is_path
turn-channel l v q p = record { inside = tt; is = λ b ms w h. turn-none v q ms (ne_eqb (vci_in v) 6 p) }

-- ---- the member whose turn it is has one cell less

pub served-none : (l : List ℕ) (v q : ℕ) (r : CodeOption ℕ) → Turns l v q r → r ≡ None → Serves v q l l 0
unfolding after_serving
served-none l v q r t n = record {
  is = λ b ms w h. let e : turn v q ms ≡ none = (subst (Turns l v q) n t).is b ms w h in (w.is ∙ ap (λ (o : Option ℕ). b ++ member_words (after_serving o ms)) (sym e), sym (ap name_or_zero e));
}

-- a member's name
named_in : (ms : List Member) → ValidMembers ms → (x : ℕ) → is_member x ms ≡ true → (x < no_name) × (first_vci ≤ vci_in x)
named_in ms v x e =
    all_named (λ y. (y < no_name) × (first_vci ≤ vci_in y)) x ms (all_map ValidMember (λ m. (m.name < no_name) × (first_vci ≤ vci_in m.name)) (λ m k. (k.coded, k.high)) ms v.each) e

module _ (l : List ℕ) (v q : ℕ) (r : CodeOption ℕ) (u : Turns l v q r) (i : ℕ) (e : r ≡ Some i) where
  t : Turns l v q (Some i)
  t = subst (Turns l v q) e u

  pub served-at : (i < member_capacity) × (0 < get_or l (members_from + i) 0 % 65536)
  served-at = t.inside

  pub served-one : Serves v q l (set l (members_from + i) (get_or l (members_from + i) 0 - 1)) (no_name - get_or l (members_from + i) 0 / 65536 % no_name)
  unfolding after_serving
  served-one = record {
    is = λ b ms w h.
        let k : TurnAt ms (turn v q ms) i = t.is b ms w h in
        let x : ℕ = k.name in
        let d : get_or l (members_from + i) 0 ≡ (no_name - x) * 65536 + cells_of x ms = word_at l b ms w x i t.inside.0 k.here in
        let n = named_in ms w.valid x k.here.member in
        let f : cells_of x ms ≤ 65535 = cells_fit x ms w.valid in
        let y : get_or l (members_from + i) 0 - 1 ≡ (no_name - x) * 65536 + (cells_of x ms - 1) = omega (arith, d, f, t.inside.1) in (
          ap (set l (members_from + i)) y ∙ store_cells l b ms w x i (cells_of x ms - 1) k.here ∙ ap (λ (o : Option ℕ). b ++ member_words (after_serving o ms)) (sym k.is),
          name_back x (get_or l (members_from + i) 0) (cells_of x ms) d f n.0 n.1 ∙ sym (ap name_or_zero k.is),
        );
  }
    where
      name_back : (x w c : ℕ) → w ≡ (no_name - x) * 65536 + c → c ≤ 65535 → x < no_name → 32 ≤ x % 65536 → no_name - w / 65536 % no_name ≡ x
      name_back x w c e f g k = let z : w / 65536 ≡ no_name - x = omega (arith, e, f, g) in omega (arith, z, g, k)
