-- The directory and its samples are three columns of a table: what a sample says of a word's place.
use Rattle.std.proofs.Common.{◌≡◌, ℕ, zero, suc, ◌+◌, ◌-◌, ◌*◌, ◌<◌, ◌≤◌, min, Bool, true, false, cond, ltb, List, ◌++◌, length, get_or, sym, refl, ap, ◌∙◌, append_assoc, suc-mul, zero-add, arith, length-append, ltb-false, ltb-true}
use Rattle.laws.specs.Rows.{row}
use Rattle.laws.proofs.Rows.{length-row, row_at}
use Rattle.model.specs.State.{capacity}
use Rattle.table.specs.Layout.{sample_word, samples, sampled, groups, samples_from, finer_from, directory_from}
use Rattle.table_column.specs.Descending.{at_least, Descending}
use Rattle.table_column.specs.Column.{InColumn}
use Rattle.table_column.proofs.Descending.{descending-le, at-least-over, at-least-under}
use Rattle.table_column.proofs.Halving.{in-column}
use Rattle.table_names.specs.Filing.{InDirectory, both_samples}

-- ---- they fall

row_first : (g : ℕ → ℕ) (h n : ℕ) → g (suc h) ≤ g h → get_or (row g (suc h) n) 0 0 ≤ g h
unfolding row
row_first g h zero f = omega arith
row_first g h (suc n) f = f

row-descends : (g : ℕ → ℕ) (h n : ℕ) → ((j : ℕ) → g (suc j) ≤ g j) → Descending (row g h n)
unfolding row
row-descends g h zero f = tt
row-descends g h (suc n) f = (row_first g h n (f h), row-descends g (suc h) n f)

sample-descends : (k : ℕ) (ds : List ℕ) → Descending ds → (j : ℕ) → sample_word k ds (suc j) ≤ sample_word k ds j
sample-descends k ds f j = go (ltb (suc j * k + k) capacity) (ltb (j * k + k) capacity) refl refl
  where
    go : (b c : Bool) → ltb (suc j * k + k) capacity ≡ b → ltb (j * k + k) capacity ≡ c
        → cond b (get_or ds (suc j * k + (k - 1)) 0) 0 ≤ cond c (get_or ds (j * k + (k - 1)) 0) 0
    go true true p q = descending-le ds f (j * k + (k - 1)) (suc j * k + (k - 1)) (omega (arith, suc-mul j k))
    go true false p q = absurd (omega (arith, suc-mul j k, ltb-true (suc j * k + k) capacity p, ltb-false (j * k + k) capacity q))
    go false c p q = omega arith

samples-descend : (k n : ℕ) (ds : List ℕ) → Descending ds → Descending (samples k n ds)
samples-descend k n ds f = row-descends (sample_word k ds) 0 n (sample-descends k ds f)

-- ---- what one says of the place of w, which is the last place at most

abbrev pub place_of : ℕ → List ℕ → ℕ
place_of w ds = min (at_least w ds) (capacity - 1)

module _ (k w : ℕ) (ds : List ℕ) (size : length ds ≡ capacity) (f : Descending ds) (some : 0 < k) (j : ℕ) where
  pub sample-behind : 0 < w → w ≤ sample_word k ds j → suc j * k ≤ place_of w ds
  sample-behind pos = go (ltb (j * k + k) capacity) refl
    where
      go : (b : Bool) → ltb (j * k + k) capacity ≡ b → w ≤ cond b (get_or ds (j * k + (k - 1)) 0) 0 → suc j * k ≤ place_of w ds
      go true e q =
          let l : j * k + k < capacity = ltb-true (j * k + k) capacity e in
          omega (arith, suc-mul j k, l, some, at-least-over w ds f (j * k + (k - 1)) (omega (arith, size, l)) q)
      go false e q = absurd (omega (arith, q, pos))

  pub sample-before : sample_word k ds j < w → place_of w ds < suc j * k
  sample-before = go (ltb (j * k + k) capacity) refl
    where
      go : (b : Bool) → ltb (j * k + k) capacity ≡ b → cond b (get_or ds (j * k + (k - 1)) 0) 0 < w → place_of w ds < suc j * k
      go true e q =
          let l : j * k + k < capacity = ltb-true (j * k + k) capacity e in
          omega (arith, suc-mul j k, l, some, at-least-under w ds f (j * k + (k - 1)) (omega (arith, size, l)) q)
      go false e q = omega (arith, suc-mul j k, ltb-false (j * k + k) capacity e)

pub sample-at : (k n : ℕ) (ds : List ℕ) (j : ℕ) → j < n → get_or (samples k n ds) j 0 ≡ sample_word k ds j
sample-at k n ds j l = row_at (sample_word k ds) 0 n j l ∙ ap (sample_word k ds) (zero-add j)

-- ---- the three columns

pub sampled-is : (ds t : List ℕ) → sampled ds ++ t ≡ both_samples ds ++ (ds ++ t)
sampled-is ds t = regroup (samples 64 groups ds) (samples 8 (8 * groups) ds)
  where
    regroup : (a b : List ℕ) → (a ++ (b ++ ds)) ++ t ≡ (a ++ b) ++ (ds ++ t)
    regroup a b = simp append_assoc

pub length_both : (h xs : List ℕ) → length h ≡ samples_from → length (h ++ both_samples xs) ≡ directory_from
length_both h xs e =
    omega (
      arith,
      length-append h (both_samples xs),
      length-append (samples 64 groups xs) (samples 8 (8 * groups) xs),
      length-row (sample_word 64 xs) 0 groups,
      length-row (sample_word 8 xs) 0 (8 * groups),
      e,
    )

module _ (l h ds t : List ℕ) (i : InDirectory l h ds t) where
  pub samples-column : InColumn samples_from groups l h (samples 64 groups ds) ((samples 8 (8 * groups) ds ++ ds) ++ t)
  samples-column = (
    i.0 ∙ ap (λ (m : List ℕ). h ++ m) (append_assoc (samples 64 groups ds) (samples 8 (8 * groups) ds ++ ds) t),
    i.1,
    length-row (sample_word 64 ds) 0 groups,
    samples-descend 64 groups ds i.3,
  )

  pub finer-column : InColumn finer_from (8 * groups) l (h ++ samples 64 groups ds) (samples 8 (8 * groups) ds) (ds ++ t)
  finer-column = (
    i.0 ∙ regroup h (samples 64 groups ds) (samples 8 (8 * groups) ds) ds t,
    omega (arith, length-append h (samples 64 groups ds), i.1, length-row (sample_word 64 ds) 0 groups),
    length-row (sample_word 8 ds) 0 (8 * groups),
    samples-descend 8 (8 * groups) ds i.3,
  )
    where
      regroup : (a b c d e : List ℕ) → a ++ ((b ++ (c ++ d)) ++ e) ≡ (a ++ b) ++ (c ++ (d ++ e))
      regroup a b c d e = simp append_assoc

  pub directory-column : InColumn directory_from capacity l (h ++ both_samples ds) ds t
  directory-column = (i.0 ∙ ap (λ (m : List ℕ). h ++ m) (sampled-is ds t) ∙ sym (append_assoc h (both_samples ds) (ds ++ t)), length_both h ds i.1, i.2, i.3)

  -- a word of the directory
  pub word_in : (j : ℕ) → j < capacity → get_or l (directory_from + j) 0 ≡ get_or ds j 0
  word_in = in-column directory_from capacity l (h ++ both_samples ds) ds t directory-column
