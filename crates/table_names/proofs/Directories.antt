-- The directory of some entries: it falls, and an entry that is taken or freed has its word enter it or leave it.
use Rattle.std.proofs.Common.{◌≡◌, ℕ, zero, suc, ◌+◌, ◌*◌, ◌<◌, ◌≤◌, Bool, true, false, cond, ltb, List, [], ◌∷◌, length, get_or, set, sym, refl, ap, ◌∙◌, subst, le_of_suc-le-suc, not-suc-le-zero, zero-add, arith, lit≤, length-set, ltb-false, ltb-true}
use Rattle.connection.specs.declared.parts.Connection.{Connection}
use Rattle.model.specs.State.{Entry, free, taken, capacity}
use Rattle.model.specs.Tournament.{levels}
use Rattle.table.specs.Layout.{directory_from, directory, directory_word, directory_words, insert_descending, sort_descending}
use Rattle.model.proofs.Entries.{taken_in}
use Rattle.table.proofs.Directory.{length-directory}
use Rattle.table_column.specs.Column.{Column}
use Rattle.table_column.specs.Descending.{at_least, Descending, inserted_at, removed_at}
use Rattle.table_column.proofs.Descending.{reaches}
use Rattle.table_column.proofs.Counts.{enters, leaves}

-- where it stands
pub names-column : Column directory_from capacity
names-column = record { halvings = levels; is = refl; inside = lit≤ tt }

-- ---- sorting

insert-first : (x y : ℕ) (ys : List ℕ) → x ≤ y → get_or ys 0 0 ≤ y → get_or (insert_descending x ys) 0 0 ≤ y
unfolding insert_descending
insert-first x y [] h l = h
insert-first x y (z ∷ zs) h l = go (ltb x z)
  where
    go : (b : Bool) → get_or (cond b (z ∷ insert_descending x zs) (x ∷ z ∷ zs)) 0 0 ≤ y
    go true = l
    go false = h

insert-descends : (x : ℕ) (ys : List ℕ) → Descending ys → Descending (insert_descending x ys)
unfolding insert_descending
insert-descends x [] f = (omega arith, tt)
insert-descends x (y ∷ ys) f = go (ltb x y) refl (insert-descends x ys f.1)
  where
    go : (b : Bool) → ltb x y ≡ b → Descending (insert_descending x ys) → Descending (cond b (y ∷ insert_descending x ys) (x ∷ y ∷ ys))
    go true e r = (insert-first x y ys (omega (arith, ltb-true x y e)) f.0, r)
    go false e r = (ltb-false x y e, f)

sort-descends : (xs : List ℕ) → Descending (sort_descending xs)
unfolding sort_descending
sort-descends [] = tt
sort-descends (x ∷ xs) = insert-descends x (sort_descending xs) (sort-descends xs)

insert-count : (w x : ℕ) (ys : List ℕ) → at_least w (insert_descending x ys) ≡ reaches w x + at_least w ys
unfolding at_least insert_descending
insert-count w x [] = refl
insert-count w x (y ∷ ys) = go (ltb x y) (insert-count w x ys)
  where
    go : (b : Bool) → at_least w (insert_descending x ys) ≡ reaches w x + at_least w ys
        → at_least w (cond b (y ∷ insert_descending x ys) (x ∷ y ∷ ys)) ≡ reaches w x + (reaches w y + at_least w ys)
    go true h = omega (arith, h)
    go false h = refl

sort-count : (w : ℕ) (xs : List ℕ) → at_least w (sort_descending xs) ≡ at_least w xs
unfolding at_least sort_descending
sort-count w [] = refl
sort-count w (x ∷ xs) = insert-count w x (sort_descending xs) ∙ ap (λ (n : ℕ). reaches w x + n) (sort-count w xs)

pub descending-directory : (ss : List Entry) → Descending (directory ss)
descending-directory ss = sort-descends (directory_words 0 ss)

pub directory-count : (w : ℕ) (ss : List Entry) → at_least w (directory ss) ≡ at_least w (directory_words 0 ss)
directory-count w ss = sort-count w (directory_words 0 ss)

-- ---- one entry changes

words-set : (w k : ℕ) (ss : List Entry) (i : ℕ) (x : Entry) → i < length ss
    → at_least w (directory_words k (set ss i x)) + reaches w (directory_word (k + i) (get_or ss i free)) ≡ at_least w (directory_words k ss) + reaches w (directory_word (k + i) x)
unfolding at_least directory_words
words-set w k [] i x h = absurd (not-suc-le-zero h)
words-set w k (s ∷ ss) zero x h = let e : k + 0 ≡ k = omega arith in rw e (omega arith)
words-set w k (s ∷ ss) (suc i) x h =
    let e : k + suc i ≡ suc k + i = omega arith in
    rw e (omega (arith, words-set w (suc k) ss i x (le_of_suc-le-suc h)))

directory-set : (w : ℕ) (ss : List Entry) (i : ℕ) (y x : Entry) → i < length ss → get_or ss i free ≡ y
    → at_least w (directory (set ss i x)) + reaches w (directory_word i y) ≡ at_least w (directory ss) + reaches w (directory_word i x)
directory-set w ss i y x h e =
    omega (
      arith,
      words-set w 0 ss i x h,
      ap (λ (s : Entry). reaches w (directory_word i s)) e,
      ap (λ (k : ℕ). reaches w (directory_word k (get_or ss i free))) (zero-add i),
      ap (λ (k : ℕ). reaches w (directory_word k x)) (zero-add i),
      directory-count w ss,
      directory-count w (set ss i x),
    )

word-positive : (v i : ℕ) → 0 < (v + 1) * capacity + i
word-positive v i = omega arith

pub directory-inserted : (ss : List Entry) (i : ℕ) (c : Connection) → i < length ss → get_or ss i free ≡ free → let w = (c.name + 1) * capacity + i in
    (at_least w (directory ss) < length ss) × (directory (set ss i (taken c)) ≡ inserted_at (at_least w (directory ss)) w (directory ss))
unfolding directory_word
directory-inserted ss i c h e =
    let e' = enters (directory ss) (directory (set ss i (taken c))) _ (descending-directory ss) (descending-directory (set ss i (taken c))) (word-positive c.name i) (length-directory (set ss i (taken c)) ∙ length-set ss i (taken c) ∙ sym (length-directory ss)) (λ v. directory-set v ss i free (taken c) h e) in
    (subst (λ (n : ℕ). at_least ((c.name + 1) * capacity + i) (directory ss) < n) (length-directory ss) e'.0, e'.1)

pub directory-removed : (ss : List Entry) (i : ℕ) (c : Connection) → get_or ss i free ≡ taken c → let w = (c.name + 1) * capacity + i in
    (at_least (w + 1) (directory ss) < length ss) × (directory (set ss i free) ≡ removed_at (at_least (w + 1) (directory ss)) (directory ss))
unfolding directory_word
directory-removed ss i c e =
    let e' = leaves (directory (set ss i free)) (directory ss) _ (descending-directory (set ss i free)) (descending-directory ss) (word-positive c.name i) (sym (length-directory (set ss i free) ∙ length-set ss i free ∙ sym (length-directory ss))) (λ v. sym (directory-set v ss i (taken c) free (taken_in ss i c e) e)) in
    (subst (λ (n : ℕ). at_least ((c.name + 1) * capacity + i + 1) (directory ss) < n) (length-directory ss) e'.0, e'.1)
