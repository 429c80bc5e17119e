-- What a search in the words of a state that calls reach finds: the entry of a name, and the lowest free one.
use Rattle.std.proofs.Common.{◌≡◌, ℕ, zero, suc, ◌+◌, ◌-◌, ◌*◌, ◌%◌, ◌^◌, ◌<◌, ◌≤◌, true, false, List, [], ◌∷◌, length, get_or, sym, refl, ap, ◌∙◌, subst, append_assoc, le_of_suc-le-suc, not-suc-le-zero, zero-add, arith, le-ltb, lt-ltb}
use lib.Count.{count_trailing_zeros}
use Rattle.connection.specs.declared.parts.Connection.{Connection}
use Rattle.model.specs.State.{State, Entry, free, taken, position, is_free, holds, find, room_left, capacity}
use Rattle.model.specs.Invariant.{OnEntry, NamesUnique, WellFormed}
use Rattle.table.specs.Layout.{words, used, bitmap, is_taken, group, directory, directory_word, directory_words, used_from, groups, directory_from}
use Rattle.table_column.specs.Descending.{at_least}
use Rattle.table_names.specs.Finding.{Located, FindsName, FindsFree}
use Rattle.table_names.specs.Filing.{InDirectory, FindsPlace}
use Rattle.table_names.proofs.Samples.{place_of, word_in}
use Rattle.std.specs.Prelude.{Some, None}
use Rattle.model.proofs.Entries.{entry_place, find-name, taken_in}
use Rattle.table.proofs.Directory.{length-words, length-directory}
use Rattle.table.proofs.Splits.{start, length-start, length-before-directory, before_directory, behind_directory, directory-split}
use Rattle.table.proofs.Used.{used-at, Past, past-start, past-full, past-vacant, past_all}
use Rattle.table_column.proofs.Descending.{Reach, above, below, reach, Among, at-least-among, at-least-drops, at-least-most, at-least-in, at-least-out, at-least-self}
use Rattle.table_names.proofs.Directories.{descending-directory, directory-count}

pub found_at : {ss : List Entry} {v i : ℕ} → (l : Located ss v i) → find v ss ≡ taken l.holder
unfolding find
found_at {ss} l = ap (λ (k : ℕ). get_or ss k free) l.place ∙ l.here

-- ---- the search for a name

-- the first word that a name above v can have
abbrev higher : ℕ → ℕ
higher v = (v + 1) * capacity + capacity

-- the directory in the words of a state
pub in-state : (s : State) → WellFormed s → (l : List ℕ) → l ≡ words s
    → InDirectory l (before_directory s) (directory s.entries) (behind_directory s)
in-state s w l e = (e ∙ directory-split s, length-before-directory s, length-directory s.entries ∙ w.size, descending-directory s.entries)

words-at : (k : ℕ) (ss : List Entry) (j : ℕ) → j < length ss → get_or (directory_words k ss) j 0 ≡ directory_word (k + j) (get_or ss j free)
unfolding directory_words
words-at k [] j h = absurd (not-suc-le-zero h)
words-at k (s ∷ ss) zero h = ap (λ (n : ℕ). directory_word n s) (omega arith)
words-at k (s ∷ ss) (suc j) h = words-at (suc k) ss j (le_of_suc-le-suc h) ∙ ap (λ (n : ℕ). directory_word n (get_or ss j free)) (omega arith)

-- a word of the directory is that of an entry
entry_of : (ss : List Entry) (p : ℕ) → p < length ss → Among (get_or (directory ss) p 0) (directory_words 0 ss)
entry_of ss p h =
    let x : ℕ = get_or (directory ss) p 0 in
    let n : p < length (directory ss) = omega (arith, h, length-directory ss) in
    at-least-among x (directory_words 0 ss)
    (omega (arith, at-least-self (directory ss) (descending-directory ss) p n, fewer (reach (suc p) (at_least (suc x) (directory ss))), directory-count x ss, directory-count (suc x) ss))
  where
    fewer : Reach (suc p) (at_least (suc (get_or (directory ss) p 0)) (directory ss)) → at_least (suc (get_or (directory ss) p 0)) (directory ss) ≤ p
    fewer (above q) = absurd (omega (arith, at-least-in (suc (get_or (directory ss) p 0)) (directory ss) (descending-directory ss) p q))
    fewer (below q) = omega (arith, q)

-- the word of entry j is the one that the name v has in entry i
module _ (ss : List Entry) (unique : NamesUnique ss) (v i : ℕ) (h : i < capacity) (j : ℕ) (inside : j < capacity) where
  located : (y : Entry) → get_or ss j free ≡ y → directory_word j y ≡ (v + 1) * capacity + i → Located ss v i
  unfolding directory_word
  located free f q = absurd (omega (arith, q))
  located (taken c) f q =
      let n : c.name ≡ v = omega (arith, q, h, inside) in
      let e : j ≡ i = omega (arith, q, h, inside) in
      record {
        holder = c;
        here = ap (λ (k : ℕ). get_or ss k free) (sym e) ∙ f;
        named = n;
        place = ap (λ (u : ℕ). position (holds u) ss) (sym n) ∙ entry_place ss unique j c f ∙ e;
      }

located-at : (ss : List Entry) → NamesUnique ss → length ss ≡ capacity → (v i p : ℕ) → i < capacity → p < capacity → get_or (directory ss) p 0 ≡ (v + 1) * capacity + i
    → Located ss v i
located-at ss u n v i p k h e =
    let m : Among (get_or (directory ss) p 0) (directory_words 0 ss) = entry_of ss p (omega (arith, h, n)) in
    let o : m.place < length ss = omega (arith, m.inside, length-words 0 ss) in
    located ss u v i k m.place (omega (arith, o, n)) (get_or ss m.place free) refl
    (ap (λ (k : ℕ). directory_word k (get_or ss m.place free)) (sym (zero-add m.place)) ∙ sym (words-at 0 ss m.place o) ∙ m.is ∙ e)

-- the word of entry i stands first among those that are below those of higher names
module _ (ss : List Entry) (i v : ℕ) (c : Connection) (here : get_or ss i free ≡ taken c) (named : c.name ≡ v) (size : length ss ≡ capacity) where
  first_below : (p : ℕ) → p ≡ place_of (higher v) (directory ss) → ((v + 1) * capacity ≤ get_or (directory ss) p 0) × (get_or (directory ss) p 0 < higher v)
  unfolding directory_word
  first_below p e =
      let h : i < length ss = taken_in ss i c here in
      let x : ℕ = (v + 1) * capacity + i in
      let w : get_or (directory_words 0 ss) i 0 ≡ x =
      words-at 0 ss i h ∙ ap (λ (k : ℕ). directory_word k (get_or ss i free)) (zero-add i) ∙ ap (directory_word i) here ∙ ap (λ (u : ℕ). (u + 1) * capacity + i) named in
      let d : at_least (higher v) (directory_words 0 ss) < at_least x (directory_words 0 ss) =
      subst (λ (y : ℕ). at_least (higher v) (directory_words 0 ss) < at_least y (directory_words 0 ss)) w
      (at-least-drops (higher v) (directory_words 0 ss) i (omega (arith, h, length-words 0 ss)) (omega (arith, w, h, size))) in
      let q : p ≡ at_least (higher v) (directory ss) =
      omega (arith, e, d, directory-count x ss, directory-count (higher v) ss, at-least-most x (directory ss), length-directory ss, size) in
      let lo : x ≤ get_or (directory ss) p 0 =
      at-least-in x (directory ss) (descending-directory ss) p (omega (arith, q, d, directory-count x ss, directory-count (higher v) ss)) in
      let hi : get_or (directory ss) p 0 < higher v =
      at-least-out (higher v) (directory ss) (descending-directory ss) p (omega (arith, q)) (omega (arith, e, length-directory ss, size)) in
      (omega (arith, lo), hi)

module _ (l : List ℕ) (v p : ℕ) (a : FindsPlace l (higher v) p) where
  place_is : (s : State) → WellFormed s → l ≡ words s → p ≡ place_of (higher v) (directory s.entries)
  place_is s w q = a.is (before_directory s) (directory s.entries) (behind_directory s) (in-state s w l q) (omega arith)

  place_inside : (s : State) → WellFormed s → l ≡ words s → p < capacity
  place_inside s w q = omega (arith, place_is s w q)

  word-is : (s : State) → WellFormed s → l ≡ words s → get_or l (directory_from + p) 0 ≡ get_or (directory s.entries) p 0
  word-is s w q = word_in l (before_directory s) (directory s.entries) (behind_directory s) (in-state s w l q) p (place_inside s w q)

  -- the word less the first that the name can have
  module _ (i : ℕ) (d : (i + (v + 1) * capacity) % 2 ^ 64 ≡ get_or l (directory_from + p) 0) where
    pub found_here : v < 2 ^ 32 → i < capacity → FindsName l v (Some i)
    found_here f h = record {
      inside = h;
      is = λ s w q. located-at s.entries w.unique w.size v i p h (place_inside s w q) (sym (word-is s w q) ∙ omega (arith, d, f, h));
    }

    pub found_nowhere : i < 2 ^ 64 → capacity ≤ i → FindsName l v None
    unfolding find
    found_nowhere f h = record { inside = tt; is = λ s w q. go s w q (find v s.entries) refl (find-name v s.entries) }
      where
        go : (s : State) → WellFormed s → l ≡ words s → (x : Entry) → find v s.entries ≡ x → OnEntry (λ c. c.name ≡ v) (find v s.entries) → find v s.entries ≡ free
        go s w q free e n = e
        go s w q (taken c) e n =
            let b = first_below s.entries (position (holds v) s.entries) v c e (subst (OnEntry (λ c. c.name ≡ v)) e n) w.size p (place_is s w q) in
            absurd (omega (arith, d, f, h, word-is s w q, b.0, b.1))

-- ---- the lowest free entry

-- of the words of a state: the entries before group g are taken
pub record Searched (l : List ℕ) (g : ℕ) : Type 0 where
  pub inside : g ≤ groups
  pub is : (s : State) → WellFormed s → l ≡ words s → Past s.entries g

pub searched-start : (l : List ℕ) → Searched l 0
searched-start l = record { inside = omega arith; is = λ s w q. past-start s.entries }

none_left : (s : State) → WellFormed s → capacity ≤ position is_free s.entries → room_left s ≡ false
unfolding room_left
none_left s w h = le-ltb (position is_free s.entries) (length s.entries) (omega (arith, w.size, h))

module _ (l : List ℕ) (g : ℕ) (b : Searched l g) where
  group-word : g < groups → (s : State) → l ≡ words s → (m : ℕ) → m ≡ 18446744073709551615 - get_or l (used_from + g) 0
      → m ≡ 18446744073709551615 - bitmap is_taken (group g s.entries)
  group-word h s q m e =
      e ∙ ap (λ (x : ℕ). 18446744073709551615 - x) (ap (λ (x : List ℕ). get_or x (used_from + g) 0) (q ∙ directory-split s ∙ append_assoc (start s.level s.last) (used s.entries) _) ∙ used-at s.entries g h (start s.level s.last) _ (length-start s.level s.last))

  module _ (h : g < groups) (m : ℕ) (e : m ≡ 18446744073709551615 - get_or l (used_from + g) 0) where
    pub searched-next : m ≡ 0 → Searched l (g + 1)
    searched-next z = record {
      inside = omega (arith, h);
      is = λ s w q. subst (Past s.entries) (omega arith) (past-full s.entries w.size g (b.is s w q) (sym z ∙ group-word h s q m e));
    }

    module _ (i : ℕ) (d : i ≡ count_trailing_zeros 64 m) (k : i < 64) where
      first-vacant : (s : State) → WellFormed s → l ≡ words s → position is_free s.entries ≡ g * 64 + i
      first-vacant s w q = past-vacant s.entries w.size g (b.is s w q) m (group-word h s q m e) (omega (arith, d, k)) ∙ ap (λ (n : ℕ). g * 64 + n) (sym d)

      pub searched-found : g * 64 + i < capacity → FindsFree l (Some (g * 64 + i))
      searched-found n = record { inside = n; is = first-vacant }

      -- the bit is that of no entry
      pub searched-behind : capacity ≤ g * 64 + i → FindsFree l None
      searched-behind n = record { inside = tt; is = λ s w q. none_left s w (omega (arith, n, first-vacant s w q)) }

  pub searched-none : groups ≤ g → FindsFree l None
  searched-none h = record {
    inside = tt;
    is = λ s w q.
        let n : g ≡ groups = omega (arith, h, b.inside) in
        none_left s w (past_all s.entries (subst (Past s.entries) n (b.is s w q)));
  }

pub room_at : (s : State) → WellFormed s → (i : ℕ) → i < capacity → position is_free s.entries ≡ i → room_left s ≡ true
unfolding room_left
room_at s w i h e = lt-ltb (position is_free s.entries) (length s.entries) (omega (arith, w.size))
