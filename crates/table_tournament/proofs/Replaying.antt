-- A replay: what holds before each level, what a level makes of it, and the two ends.
use Prim.Native.Nat.{ℕ, suc, ◌+◌, ◌-◌, ◌*◌, ◌/◌, ◌≤◌, ◌<◌}
use mathlib.Core.Path.{◌≡◌, refl, sym, ap, ap₂, subst, ◌∙◌}
use mathlib.Core.Logic.{◌≢◌}
use mathlib.Core.Bool.{Bool, true, false, cond, not, ◌&&◌}
use mathlib.Core.List.{List}
use native.Mathlib.Nat.{zero-add}
use native.Mathlib.Numerals.{add-one}
use native.Mathlib.Omega.{arith}
use lib.Dec.{eqb}
use lib.ListN.{length, get_or, set}
use borrow.Author.Tests.{eqb-true, eq-eqb, ne_eqb}
use Rattle.model.specs.State.{Entry, free, capacity}
use Rattle.model.specs.Tournament.{levels, MatchWinner, leaf_winner, neighbour, winner_at, winner_word, ends, replayed_from, replayed}
use Rattle.model.proofs.Places.{above, Stands, aside, above-stands, winner-entry, up, unlike, off-path, path-unchanged, ended}
use Rattle.model.proofs.Replays.{not-below}
use Rattle.table.specs.Layout.{nodes, nodes_from, winner_number, winner_key}
use Rattle.table.proofs.Nodes.{length-winners, above-leaves}
use Rattle.table_tournament.specs.declared.winner.KeyedWinner.{KeyedWinner}
use Rattle.table_tournament.specs.KeyedWinner.{word_mark, keyed_winner, keyed_node, keyed_leaf, matched}
use Rattle.table_tournament.specs.Replaying.{with_nodes, Playable, Replays, ReplaysAll}
use Rattle.table_tournament.proofs.Keyed.{as_keyed, marked_number, marked_winner, mark-other, mark-off, mark-none, mark-ends, mark-goes-on, neighbour-below}
use Rattle.table_tournament.proofs.Stored.{Sized, node_in, set-node}
use Rattle.table_tournament.proofs.Matches.{matched-first, all_known, leaf-in}
use Rattle.table_tournament.proofs.Midway.{mid_winner, mid_nodes, mid-above, mid_start, mid-store, mid-end}

-- ---- the count, a level more

left_over : (n : ℕ) → n < levels → levels - n ≡ suc (levels - suc n)
left_over n l = omega arith

module _ (x : ℕ) (ss rs : List Entry) (n p : ℕ) (l : n < levels) where
  count-on : ends x (winner_at ss (suc n) p) (winner_at rs (suc n) p) ≡ false
      → n + replayed_from x ss rs (suc n) p (levels - n) ≡ suc n + replayed_from x ss rs (suc (suc n)) (p / 2) (levels - suc n)
  unfolding replayed_from
  count-on e = ap (λ (m : ℕ). n + replayed_from x ss rs (suc n) p m) (left_over n l) ∙ rw e (omega arith)

  count-end : ends x (winner_at ss (suc n) p) (winner_at rs (suc n) p) ≡ true → n + replayed_from x ss rs (suc n) p (levels - n) ≡ n + 1
  unfolding replayed_from
  count-end e = ap (λ (m : ℕ). n + replayed_from x ss rs (suc n) p m) (left_over n l) ∙ rw e refl

count-done : (x : ℕ) (ss rs : List Entry) (n p : ℕ) → levels ≤ n → n + replayed_from x ss rs (suc n) p (levels - n) ≡ n
unfolding replayed_from
count-done x ss rs n p l = let z : levels - n ≡ 0 = omega arith in rw z (omega arith)

-- ---- before each level

-- the levels done, and what the code holds: the winner above leaf x so far, marked if it is that leaf, and its
-- neighbour's
pub record Half (mark : ℕ) (t : List ℕ) (x n : ℕ) (best other : KeyedWinner) (h : List ℕ) (ss : List Entry) (y : Entry) (tail : List ℕ) : Type 0 where
  pub words : t ≡ with_nodes h (mid_nodes x ss y n) (set ss x y) tail
  pub won : best ≡ marked_winner mark x (winner_at (set ss x y) n (above n (capacity + x)))
  pub against : n < levels → other ≡ marked_winner mark x (winner_at (set ss x y) n (neighbour (above n (capacity + x))))

-- what holds of the entries before and now, if the words before the replay are theirs
abbrev Replayed : (before : List ℕ) (x : ℕ) → (List ℕ → List Entry → Entry → List ℕ → Type 0) → Type 0
Replayed before x P =
    (h : List ℕ) (ss : List Entry) (y : Entry) (tail : List ℕ) → length h ≡ nodes_from → Playable (set ss x y) → before ≡ with_nodes h (nodes ss) (set ss x y) tail
    → P h ss y tail

pub record Reached (mark : ℕ) (before t : List ℕ) (x n : ℕ) (best other : KeyedWinner) : Type 0 where
  pub is : Replayed before x (Half mark t x n best other)

-- no level so far has ended the count
pub record Counted (before : List ℕ) (x n : ℕ) : Type 0 where
  pub is : Replayed before x (λ h ss y tail. replayed x ss (set ss x y) ≡ n + replayed_from x ss (set ss x y) (suc n) (above (suc n) (capacity + x)) (levels - n))

sized : (h : List ℕ) {rs : List Entry} → length h ≡ nodes_from → Playable rs → Sized h rs
sized h e o = record { front = e; entries = o.size }

length-mid : (x : ℕ) (ss : List Entry) (y : Entry) (n : ℕ) → length (mid_nodes x ss y n) ≡ 2 * capacity
length-mid x ss y n = length-winners (mid_winner x ss y n) 0 capacity

leaf-at : (ss : List Entry) (x p : ℕ) → p - capacity ≡ x → winner_at ss 0 p ≡ leaf_winner x (get_or ss x free)
unfolding winner_at
leaf-at ss x p e = rw e

-- the start
pub starts : (mark : ℕ) (l : List ℕ) (x : ℕ) {best other : KeyedWinner} → x < capacity → best ≡ keyed_leaf l x mark → other ≡ keyed_leaf l (neighbour x) 0 → Reached mark l l x 0 best other
unfolding above
starts mark l x b e f = record {
  is = λ h ss y tail lh o q.
      let ns = mid_nodes x ss y 0 in
      let leaf = leaf-in (set ss x y) o h ns tail (sized h lh o) (length-mid x ss y 0) in
      let w : l ≡ with_nodes h ns (set ss x y) tail = q ∙ ap (λ (ns : List ℕ). with_nodes h ns (set ss x y) tail) (mid_start x ss y) in
      record {
        words = w;
        won = e ∙ ap (λ (m : List ℕ). keyed_leaf m x mark) w ∙ leaf x mark b mark x (sym (ap (λ (t : Bool). cond t mark 0) (eq-eqb x x refl)))
            ∙ ap (marked_winner mark x) (sym (leaf-at (set ss x y) x (capacity + x) (omega arith)));
        against = λ _. f ∙ ap (λ (m : List ℕ). keyed_leaf m (neighbour x) 0) w
            ∙ leaf (neighbour x) 0 (neighbour-below (capacity / 2) x b) mark x (sym (ap (λ (t : Bool). cond t mark 0) (ne_eqb (neighbour x) x (λ z. unlike x (sym z)))))
            ∙ ap (marked_winner mark x) (sym (leaf-at (set ss x y) (neighbour x) (neighbour (capacity + x)) (omega arith)));
      };
}

pub count-starts : (l : List ℕ) (x : ℕ) → Counted l x 0
unfolding replayed above
count-starts l x = record { is = λ h ss y tail lh o q. sym (zero-add _) }

-- whether a replay ends, in the words that the code compares
pub ends-yes : (x : ℕ) (a b : MatchWinner) → winner_word a ≡ winner_word b → winner_word b ≢ x + 1 → ends x a b ≡ true
unfolding ends
ends-yes x a b e n = rw (eq-eqb (winner_word a) (winner_word b) e, ne_eqb (winner_word b) (x + 1) n)

pub ends-no : (x : ℕ) (a b : MatchWinner) → (winner_word a ≡ winner_word b → winner_word b ≡ x + 1) → ends x a b ≡ false
unfolding ends
ends-no x a b e = go (eqb (winner_word a) (winner_word b)) refl
  where
    go : (t : Bool) → eqb (winner_word a) (winner_word b) ≡ t → (t && not (eqb (winner_word b) (x + 1))) ≡ false
    go true f = rw (eq-eqb (winner_word b) (x + 1) (e (eqb-true (winner_word a) (winner_word b) f)))
    go false f = refl

-- ---- a level

-- the place of the match after so many levels
next-above : (x n : ℕ) {place : ℕ} → place ≡ above (n + 1) (capacity + x) → place ≡ above (suc n) (capacity + x)
next-above x n e = e ∙ ap (λ (k : ℕ). above k (capacity + x)) (add-one n)

level-stands : (x n place : ℕ) → x < capacity → n < levels → place ≡ above (suc n) (capacity + x) → Stands (levels - suc n) (suc n) place
level-stands x n place b l e = rw e (above-stands x b (levels - suc n) (suc n) (omega arith))

module _ (before t : List ℕ) (x n place : ℕ) (best other now : KeyedWinner) (b : x < capacity) (l : n < levels) (on : place ≡ above (n + 1) (capacity + x)) (m : now ≡ matched best other) where
  a : place ≡ above (suc n) (capacity + x)
  a = next-above x n on

  here : Stands (levels - suc n) (suc n) place
  here = level-stands x n place b l a

  module _ (mark : ℕ) (small : mark ≤ word_mark) (h : List ℕ) (ss : List Entry) (y : Entry) (tail : List ℕ) (e : length h ≡ nodes_from) (o : Playable (set ss x y)) (f : Half mark t x n best other h ss y tail) where
    now-won : now ≡ marked_winner mark x (winner_at (set ss x y) (suc n) place)
    unfolding above
    now-won =
        let rs = set ss x y in
        let q = above n (capacity + x) in
        let s = above-stands x b (suc (levels - suc n)) n (omega arith) in
        let known = all_known rs o n in
        m ∙ ap₂ matched f.won (f.against l)
        ∙ matched-first rs mark x small (winner_at rs n q) (winner_at rs n (neighbour q)) (known q (winner_at rs n q) (winner-entry rs n q s))
        (known (neighbour q) (winner_at rs n (neighbour q)) (winner-entry rs n (neighbour q) (aside q s)))
        ∙ ap (marked_winner mark x) (sym (up rs o.unique (levels - suc n) n q s) ∙ ap (winner_at rs (suc n)) (sym a))

    new_word : now.word ≡ marked_number mark x (winner_at (set ss x y) (suc n) place)
    new_word = ap (λ (s : KeyedWinner). s.word) now-won

    -- what the code reads at a place of the next level
    node : {g p : ℕ} → Stands g (suc n) p → keyed_node t p ≡ keyed_winner (winner_at ss (suc n) p)
    node {g} {p} s =
        ap (λ (u : List ℕ). keyed_node u p) f.words ∙ node_in h (set ss x y) tail (sized h e o) (mid_winner x ss y n) p (above-leaves s)
        ∙ ap keyed_winner (mid-above x ss y n s (omega arith))

    old-word : get_or t (nodes_from + 2 * place) 0 ≡ winner_number (winner_at ss (suc n) place)
    old-word = ap (λ (s : KeyedWinner). s.word) (node here)

    -- The level is stored: w is the winner's number without its mark.
    carried : (t' : List ℕ) (w : ℕ) (next : KeyedWinner) → ((c : MatchWinner) → now.word ≡ marked_number mark x c → w ≡ winner_number c)
        → t' ≡ set (set t (nodes_from + 2 * place) w) (nodes_from + 2 * place + 1) now.key → next ≡ keyed_node t (neighbour place) → Half mark t' x (suc n) now next h ss y tail
    unfolding above
    carried t' w next v s g = record {
      words = stored;
      won = now-won ∙ ap (λ (p : ℕ). marked_winner mark x (winner_at (set ss x y) (suc n) p)) a;
      against = λ k. g ∙ neighbour-won {g = levels - suc (suc n)} (rw a (above-stands x b (suc (levels - suc (suc n))) (suc n) (omega arith)))
          ∙ ap (λ (p : ℕ). marked_winner mark x (winner_at (set ss x y) (suc n) (neighbour p))) a;
    }
      where
        stored : t' ≡ with_nodes h (mid_nodes x ss y (suc n)) (set ss x y) tail
        stored =
            s ∙ ap (λ (u : List ℕ). set (set u (nodes_from + 2 * place) w) (nodes_from + 2 * place + 1) now.key) f.words
            ∙ set-node h (set ss x y) tail (sized h e o) (mid_nodes x ss y n) place w now.key (above-leaves here) (length-mid x ss y n)
            ∙ ap (λ (ns : List ℕ). with_nodes h ns (set ss x y) tail)
            (mid-store x ss y n place w now.key here (sym a) (v (winner_at (set ss x y) (suc n) place) new_word) (ap (λ (s : KeyedWinner). s.key) now-won))

        -- the neighbour is not above the leaf, so that its winner is as before and is not that leaf
        neighbour-won : {g : ℕ} → Stands (suc g) (suc n) place → keyed_node t (neighbour place) ≡ marked_winner mark x (winner_at (set ss x y) (suc n) (neighbour place))
        neighbour-won k =
            let s = aside place k in
            let apart : above (suc n) (capacity + x) ≢ neighbour place = λ z. unlike place (a ∙ z) in
            let c = winner_at (set ss x y) (suc n) (neighbour place) in
            node s ∙ ap keyed_winner (sym (off-path ss x y (suc n) (neighbour place) s apart))
            ∙ ap (λ (w : ℕ). as_keyed w (winner_key c)) (mark-other mark x c (not-below (set ss x y) x (suc n) (neighbour place) c (winner-entry (set ss x y) (suc n) (neighbour place) s) apart))

  -- it goes on
  goes-up : (mark : ℕ) → mark ≤ word_mark → Reached mark before t x n best other → (t' : List ℕ) (w : ℕ) (next : KeyedWinner) (k : ℕ) → k ≡ neighbour place
      → ((c : MatchWinner) → now.word ≡ marked_number mark x c → w ≡ winner_number c) → t' ≡ set (set t (nodes_from + 2 * place) w) (nodes_from + 2 * place + 1) now.key
      → next ≡ keyed_node t k → Reached mark before t' x (n + 1) now next
  goes-up mark z r t' w next k u v s g =
      subst (λ (j : ℕ). Reached mark before t' x j now next) (sym (add-one n))
      (record { is = λ h ss y tail e o q. carried mark z h ss y tail e o (r.is h ss y tail e o q) t' w next v s (g ∙ ap (keyed_node t) u) })

  -- without marks
  pub goes-on-all : Reached 0 before t x n best other → (t' : List ℕ) (next : KeyedWinner) (k : ℕ) → k ≡ neighbour place
      → t' ≡ set (set t (nodes_from + 2 * place) now.word) (nodes_from + 2 * place + 1) now.key → next ≡ keyed_node t k → Reached 0 before t' x (n + 1) now next
  goes-on-all r t' next k u s g = goes-up 0 (omega arith) r t' now.word next k u (λ c e. e ∙ mark-none x c) s g

  -- with marks, which tell the end
  module _ (r : Reached word_mark before t x n best other) where
    pub goes_on : (t' : List ℕ) (next : KeyedWinner) (k : ℕ) → k ≡ neighbour place
        → t' ≡ set (set t (nodes_from + 2 * place) (now.word / 2 * 2)) (nodes_from + 2 * place + 1) now.key → next ≡ keyed_node t k → Reached word_mark before t' x (n + 1) now next
    goes_on t' next k u s g = goes-up word_mark (omega arith) r t' (now.word / 2 * 2) next k u (λ c e. ap (λ (k : ℕ). k / 2 * 2) e ∙ mark-off x c) s g

    module _ (counted : Counted before x n) where
      here-counted : Replayed before x (λ h ss y tail. replayed x ss (set ss x y) ≡ n + replayed_from x ss (set ss x y) (suc n) place (levels - n))
      here-counted h ss y tail e o q = counted.is h ss y tail e o q ∙ ap (λ (p : ℕ). n + replayed_from x ss (set ss x y) (suc n) p (levels - n)) (sym a)

      pub count-goes-on : get_or t (nodes_from + 2 * place) 0 ≢ now.word → Counted before x (n + 1)
      unfolding above
      count-goes-on d =
          subst (Counted before x) (sym (add-one n))
          (record {
            is = λ h ss y tail e o q.
                let rs = set ss x y in
                let f = r.is h ss y tail e o q in
                let old = old-word word_mark (omega arith) h ss y tail e o f in
                let new = new_word word_mark (omega arith) h ss y tail e o f in
                here-counted h ss y tail e o q
                ∙ count-on x ss rs n place l (ends-no x (winner_at ss (suc n) place) (winner_at rs (suc n) place) (mark-goes-on ss x y (suc n) place here (λ k. d (old ∙ k ∙ sym new))))
                ∙ ap (λ (p : ℕ). suc n + replayed_from x ss rs (suc (suc n)) (p / 2) (levels - suc n)) a;
          })

      pub stops : get_or t (nodes_from + 2 * place) 0 ≡ now.word → Replays before t x (n + 1)
      stops s = record {
        is = λ h ss y tail e o q.
            let rs = set ss x y in
            let f = r.is h ss y tail e o q in
            let d = mark-ends ss x y (suc n) place here (sym (old-word word_mark (omega arith) h ss y tail e o f) ∙ s ∙ new_word word_mark (omega arith) h ss y tail e o f) in
            let u = d.0 in
            let v = d.1 in (
              f.words ∙ ap (λ (ns : List ℕ). with_nodes h ns rs tail) (mid-end x ss y n (path-unchanged ss x y (suc n) place (sym a) (ended ss x y (suc n) place here u v))),
              sym (here-counted h ss y tail e o q ∙ count-end x ss rs n place l (ends-yes x (winner_at ss (suc n) place) (winner_at rs (suc n) place) u v)),
            );
      }

-- ---- past the last level

pub finishes-all : (mark : ℕ) (before t : List ℕ) (x n : ℕ) (best other : KeyedWinner) → levels ≤ n → Reached mark before t x n best other → ReplaysAll before t x
finishes-all mark before t x n best other l r = record {
  is = λ h ss y tail e o q.
      (r.is h ss y tail e o q).words ∙ ap (λ (ns : List ℕ). with_nodes h ns (set ss x y) tail) (mid-end x ss y n (λ g p s. absurd (omega (arith, s.height))));
}

pub finishes : (before t : List ℕ) (x n : ℕ) → levels ≤ n → ReplaysAll before t x → Counted before x n → Replays before t x n
finishes before t x n l r c = record {
  is = λ h ss y tail e o q. (r.is h ss y tail e o q, sym (c.is h ss y tail e o q ∙ count-done x ss (set ss x y) n (above (suc n) (capacity + x)) l));
}
