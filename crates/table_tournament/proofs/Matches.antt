-- A match over the words of a table is the match of the leads that they stand for.
use Rattle.std.specs.Prelude.{Some, None}
use Prim.Native.Nat.{ℕ, ◌+◌, ◌-◌, ◌*◌, ◌^◌, ◌≤◌, ◌<◌}
use mathlib.Core.Path.{◌≡◌, refl, sym, ap, ap₂, subst, ◌∙◌}
use mathlib.Core.Bool.{Bool, true, false, cond}
use mathlib.Core.List.{List}
use native.Mathlib.Omega.{arith}
use lib.Dec.{leb, ltb, eqb}
use lib.ListN.{length, get_or}
use borrow.Author.Tests.{leb-true, leb-false, ltb-true, ltb-false, eqb-true, eqb-false, eq-eqb, ne_eqb, lt-ltb, le-ltb}
use Rattle.cell.specs.Name.{no_name}
use Rattle.connection.specs.declared.parts.Connection.{Connection}
use Rattle.connection.specs.Range.{InstantBelow}
use Rattle.connection.specs.Ready.{ready_instant}
use Rattle.connection.specs.Parts.{Instant}
use Rattle.model.specs.State.{Entry, free, taken, position, holds, capacity}
use Rattle.model.specs.Winner.{is_ahead}
use Rattle.model.specs.Invariant.{OnEntry}
use Rattle.model.specs.Tournament.{MatchWinner, no_winner, won_by, instant_winner, leaf_winner, first}
use Rattle.model.proofs.Entries.{each-get, entry_place, Case, same, other, case}
use Rattle.model.proofs.Places.{OnMatchWinner, on-map, Comes}
use Rattle.table.specs.Layout.{halves, key, record_from, winner_number, winner_key}
use Rattle.table.specs.Loading.{name_of}
use Rattle.table.proofs.Loaded.{name_back}
use Rattle.table.proofs.Words.{key_number, identity_number}
use Rattle.table_tournament.specs.declared.winner.KeyedWinner.{KeyedWinner}
use Rattle.table_tournament.specs.KeyedWinner.{word_mark, keyed_leaf, matched}
use Rattle.table_tournament.specs.Replaying.{with_nodes, Playable}
use Rattle.table_tournament.proofs.Keyed.{as_keyed, leaf-none, leaf-some, mark_of, marked_winner}
use Rattle.table_tournament.proofs.Stored.{Sized, key_in, identity-in}

-- a lead whose name tells its leaf, and whose instant has a key above 0
pub record Known (ss : List Entry) (i v x : ℕ) : Type 0 where
  pub placed : position (holds v) ss ≡ x
  pub inside : x < capacity
  pub keyed : i < 2 ^ 64 - 1

-- Two connections have their numbers in the order of their names, marked or not. (Leaf k is marked.)
abbrev numbered : (mark k name leaf : ℕ) → ℕ
numbered m k v x = halves v (2 * (x + 1)) + cond (eqb x k) m 0

number-less : (m k v w x y : ℕ) → m ≤ word_mark → x < capacity → v < w → numbered m k v x < numbered m k w y
number-less m k v w x y b l n = go (eqb x k)
  where
    go : (t : Bool) → halves v (2 * (x + 1)) + cond t m 0 < numbered m k w y
    go true = omega arith
    go false = omega arith

number-most : (ss : List Entry) (m k i j v w x y : ℕ) → m ≤ word_mark → Known ss i v x → Known ss j w y → v ≤ w → numbered m k v x ≤ numbered m k w y
number-most ss m k i j v w x y b p q l = go (case v w)
  where
    go : Case v w → numbered m k v x ≤ numbered m k w y
    go (same e) =
        let z : x ≡ y = sym p.placed ∙ ap (λ (n : ℕ). position (holds n) ss) e ∙ q.placed in
        let n : numbered m k v x ≡ numbered m k w y = ap₂ (numbered m k) e z in
        omega arith
    go (other e) = let n = number-less m k v w x y b p.inside (omega (arith, e)) in omega arith

pub matched-first : (ss : List Entry) (mark k : ℕ) → mark ≤ word_mark → (a b : MatchWinner) → OnMatchWinner (Known ss) a → OnMatchWinner (Known ss) b
    → matched (marked_winner mark k a) (marked_winner mark k b) ≡ marked_winner mark k (first a b)
unfolding first winner_number winner_key mark_of
matched-first ss mark k r no_winner no_winner p q = refl
matched-first ss mark k r no_winner (won_by j w y) p q =
    let l = q.keyed in
    rw (ne_eqb 0 (2 ^ 64 - 1 - j) (λ z. omega arith), lt-ltb 0 (2 ^ 64 - 1 - j) (omega arith))
matched-first ss mark k r (won_by i v x) no_winner p q =
    let l = p.keyed in
    rw (ne_eqb (2 ^ 64 - 1 - i) 0 (λ z. omega arith), le-ltb (2 ^ 64 - 1 - i) 0 (omega arith))
matched-first ss mark k r (won_by i v x) (won_by j w y) p q = go (ltb i j) (eqb i j) refl refl
  where
    a : KeyedWinner
    a = marked_winner mark k (won_by i v x)

    b : KeyedWinner
    b = marked_winner mark k (won_by j w y)

    -- the code's two tests against the one of the match
    settle : (e t u s : Bool) → eqb a.key b.key ≡ e → ltb b.word a.word ≡ u → ltb a.key b.key ≡ t → is_ahead i v j w ≡ s → cond e (cond u b a) (cond t b a) ≡ cond s a b
        → matched a b ≡ marked_winner mark k (cond (is_ahead i v j w) (won_by i v x) (won_by j w y))
    settle e t u true c f g h z = rw (c, f, g, h) z
    settle e t u false c f g h z = rw (c, f, g, h) z

    tie : (t : Bool) → leb v w ≡ t → eqb a.key b.key ≡ true → is_ahead i v j w ≡ t → matched a b ≡ marked_winner mark k (cond (is_ahead i v j w) (won_by i v x) (won_by j w y))
    tie true e g h = settle true (ltb a.key b.key) false true g (le-ltb b.word a.word (number-most ss mark k i j v w x y r p q (leb-true v w e))) refl h refl
    tie false e g h = settle true (ltb a.key b.key) true false g (lt-ltb b.word a.word (number-less mark k w v y x r q.inside (leb-false v w e))) refl h refl

    go : (s e : Bool) → ltb i j ≡ s → eqb i j ≡ e → matched a b ≡ marked_winner mark k (cond (is_ahead i v j w) (won_by i v x) (won_by j w y))
    go true e f g =
        let l = ltb-true i j f in
        let n = p.keyed in
        settle false false (ltb b.word a.word) true (ne_eqb (2 ^ 64 - 1 - i) (2 ^ 64 - 1 - j) (λ z. omega arith)) refl (le-ltb (2 ^ 64 - 1 - i) (2 ^ 64 - 1 - j) (omega arith)) (rw f) refl
    go false true f g = tie (leb v w) refl (eq-eqb _ _ (ap (λ (m : ℕ). 2 ^ 64 - 1 - m) (eqb-true i j g))) (rw (f, g))
    go false false f g =
        let l = ltb-false i j f in
        let m = eqb-false i j g in
        let n = p.keyed in
        let o = q.keyed in
        settle false true (ltb b.word a.word) false (ne_eqb (2 ^ 64 - 1 - i) (2 ^ 64 - 1 - j) (λ z. m (omega arith))) refl (lt-ltb (2 ^ 64 - 1 - i) (2 ^ 64 - 1 - j) (omega (arith, m))) (rw (f, g)) refl

-- ---- what stands in the words

module _ (ss : List Entry) (o : Playable ss) where
  early : (x : ℕ) (c : Connection) (i : ℕ) → get_or ss x free ≡ taken c → ready_instant c ≡ Some i → i < 2 ^ 63 + 2 ^ 40
  early x c i g f = subst InstantBelow f (subst (OnEntry (λ c. InstantBelow (ready_instant c))) g (each-get (λ c. InstantBelow (ready_instant c)) ss o.below x))

  known : (d p i v x : ℕ) → Comes ss d p i v x → Known ss i v x
  known d p i v x c = record {
    placed = ap (λ (n : ℕ). position (holds n) ss) (sym c.named) ∙ entry_place ss o.unique x c.holder c.here;
    inside = c.inside;
    keyed = omega (arith, early x c.holder i c.here c.ready_at);
  }

  pub all_known : (d p : ℕ) (a : MatchWinner) → OnMatchWinner (Comes ss d p) a → OnMatchWinner (Known ss) a
  all_known d p a = on-map (Comes ss d p) (Known ss) (known d p) a

  -- the winner of a leaf, with its mark or without
  module _ (h ns t : List ℕ) (z : Sized h ss) (e : length ns ≡ 2 * capacity) where
    pub leaf-in : (x m : ℕ) → x < capacity → (mark k : ℕ) → m ≡ cond (eqb x k) mark 0 → keyed_leaf (with_nodes h ns ss t) x m ≡ marked_winner mark k (leaf_winner x (get_or ss x free))
    unfolding leaf_winner instant_winner winner_number winner_key mark_of
    leaf-in x m l mark k marked = entry (get_or ss x free) refl
      where
        keyed : get_or (with_nodes h ns ss t) (record_from x) 0 ≡ key_number (get_or ss x free)
        keyed = key_in h ss t z ns e x l

        nobody : get_or (with_nodes h ns ss t) (record_from x) 0 ≡ 0 → keyed_leaf (with_nodes h ns ss t) x m ≡ as_keyed 0 0
        nobody f = sym (leaf-none (with_nodes h ns ss t) x m f)

        named : (c : Connection) → get_or ss x free ≡ taken c → c.name ≡ name_of (get_or (with_nodes h ns ss t) (record_from x + 1) 0)
        named c g =
            sym (ap name_of (identity-in h ss t z ns e x l ∙ ap identity_number g)
            ∙ name_back c.trm c.rate.params.n c.name (subst (OnEntry (λ c. c.name < no_name)) g (each-get (λ c. c.name < no_name) ss o.named x)))

        ready : (c : Connection) → get_or ss x free ≡ taken c → (r : Instant) → ready_instant c ≡ r → keyed_leaf (with_nodes h ns ss t) x m ≡ marked_winner mark k (instant_winner c.name x r)
        ready c g None f = nobody (keyed ∙ ap key_number g ∙ ap key f)
        ready c g (Some i) f =
            let q : get_or (with_nodes h ns ss t) (record_from x) 0 ≡ 2 ^ 64 - 1 - i = keyed ∙ ap key_number g ∙ ap key f in
            let b = early x c i g f in
            sym (leaf-some (with_nodes h ns ss t) x m (ap (λ (v : ℕ). halves v (2 * (x + 1))) (named c g)) (λ z. omega arith))
            ∙ ap₂ (λ (n q : ℕ). as_keyed (halves c.name (2 * (x + 1)) + n) q) marked q

        entry : (s : Entry) → get_or ss x free ≡ s → keyed_leaf (with_nodes h ns ss t) x m ≡ marked_winner mark k (leaf_winner x s)
        entry free g = nobody (keyed ∙ ap key_number g)
        entry (taken c) g = ready c g (ready_instant c) refl
