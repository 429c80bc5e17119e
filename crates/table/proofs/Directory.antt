-- The directory's words, in descending order: how many they are, those of an empty table, and that they stay
-- while no entry is taken or freed.
use Prim.Native.Nat.{ℕ, zero, suc, ◌+◌, ◌-◌, ◌*◌}
use mathlib.Core.Path.{◌≡◌, refl, ap, ◌∙◌}
use mathlib.Core.Bool.{Bool, true, false, cond}
use mathlib.Core.List.{List, [], ◌∷◌, ◌++◌}
use native.Mathlib.Omega.{arith}
use lib.Dec.{ltb}
use lib.ListN.{length, get_or, set, replicate, length-append, replicate-append-replicate}
use Rattle.laws.proofs.Rows.{length-row, row-zeros}
use Rattle.connection.specs.declared.parts.Connection.{Connection}
use Rattle.model.specs.State.{Entry, free, taken, capacity}
use Rattle.table.specs.Layout.{directory, directory_word, directory_words, insert_descending, sort_descending, sample_word, samples, sampled, groups}

pub length-words : (k : ℕ) (ss : List Entry) → length (directory_words k ss) ≡ length ss
unfolding directory_words
length-words k [] = refl
length-words k (s ∷ ss) = ap suc (length-words (suc k) ss)

length-insert : (x : ℕ) (ys : List ℕ) → length (insert_descending x ys) ≡ suc (length ys)
unfolding insert_descending
length-insert x [] = refl
length-insert x (y ∷ ys) = go (ltb x y) (length-insert x ys)
  where
    go : (b : Bool) → length (insert_descending x ys) ≡ suc (length ys) → length (cond b (y ∷ insert_descending x ys) (x ∷ y ∷ ys)) ≡ suc (suc (length ys))
    go true h = ap suc h
    go false h = refl

length-sort : (xs : List ℕ) → length (sort_descending xs) ≡ length xs
unfolding sort_descending
length-sort [] = refl
length-sort (x ∷ xs) = length-insert x (sort_descending xs) ∙ ap suc (length-sort xs)

pub length-directory : (ss : List Entry) → length (directory ss) ≡ length ss
length-directory ss = length-sort (directory_words 0 ss) ∙ length-words 0 ss

-- a directory behind its samples
pub length-sampled : (ds : List ℕ) → length (sampled ds) ≡ groups + (8 * groups + length ds)
length-sampled ds =
    omega (
      arith,
      length-append (samples 64 groups ds) (samples 8 (8 * groups) ds ++ ds),
      length-append (samples 8 (8 * groups) ds) ds,
      length-row (sample_word 64 ds) 0 groups,
      length-row (sample_word 8 ds) 0 (8 * groups),
    )

-- ---- no entry

words-free : (k n : ℕ) → directory_words k (replicate n free) ≡ replicate n 0
unfolding directory_words directory_word
words-free k zero = refl
words-free k (suc n) = ap (λ (l : List ℕ). 0 ∷ l) (words-free (suc k) n)

insert-zeros : (n : ℕ) → insert_descending 0 (replicate n 0) ≡ replicate (suc n) 0
unfolding insert_descending
insert-zeros zero = refl
insert-zeros (suc n) = refl

sort-zeros : (n : ℕ) → sort_descending (replicate n 0) ≡ replicate n 0
unfolding sort_descending
sort-zeros zero = refl
sort-zeros (suc n) = ap (insert_descending 0) (sort-zeros n) ∙ insert-zeros n

pub directory-free : (n : ℕ) → directory (replicate n free) ≡ replicate n 0
directory-free n = ap sort_descending (words-free 0 n) ∙ sort-zeros n

zero-at : (n j : ℕ) → ◌≡◌ {A = ℕ} (get_or (replicate n 0) j 0) 0
zero-at zero j = refl
zero-at (suc n) zero = refl
zero-at (suc n) (suc j) = zero-at n j

sample-zero : (k n j : ℕ) → sample_word k (replicate n 0) j ≡ 0
sample-zero k n j = go (ltb (j * k + k) capacity)
  where
    go : (b : Bool) → ◌≡◌ {A = ℕ} (cond b (get_or (replicate n 0) (j * k + (k - 1)) 0) 0) 0
    go true = zero-at n (j * k + (k - 1))
    go false = refl

pub sampled-zeros : (n : ℕ) → sampled (replicate n 0) ≡ replicate (groups + (8 * groups + n)) 0
sampled-zeros n =
    ap (λ (l : List ℕ). l ++ (samples 8 (8 * groups) (replicate n 0) ++ replicate n 0)) (row-zeros (sample_word 64 (replicate n 0)) 0 groups (sample-zero 64 n))
    ∙ ap (λ (l : List ℕ). replicate groups 0 ++ (l ++ replicate n 0)) (row-zeros (sample_word 8 (replicate n 0)) 0 (8 * groups) (sample-zero 8 n))
    ∙ ap (λ (l : List ℕ). replicate groups 0 ++ l) (replicate-append-replicate {A = ℕ} (8 * groups) n 0)
    ∙ replicate-append-replicate {A = ℕ} groups (8 * groups + n) 0

-- ---- an entry whose connection keeps its name

words_same : (k : ℕ) (ss : List Entry) (i : ℕ) (c d : Connection) → get_or ss i free ≡ taken c → d.name ≡ c.name → directory_words k (set ss i (taken d)) ≡ directory_words k ss
unfolding directory_words directory_word
words_same k [] i c d e p = refl
words_same k (s ∷ ss) zero c d e p = rw (e, p) refl
words_same k (s ∷ ss) (suc i) c d e p = ap (λ (l : List ℕ). directory_word k s ∷ l) (words_same (suc k) ss i c d e p)

pub directory-same : (ss : List Entry) (i : ℕ) (c d : Connection) → get_or ss i free ≡ taken c → d.name ≡ c.name → directory (set ss i (taken d)) ≡ directory ss
directory-same ss i c d e p = ap sort_descending (words_same 0 ss i c d e p)
