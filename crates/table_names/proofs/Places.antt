-- The place of a word, by a sample of 64 words, then one of eight, then the words themselves.
use Rattle.std.proofs.Common.{◌≡◌, ℕ, suc, ◌+◌, ◌-◌, ◌*◌, ◌<◌, ◌≤◌, List, ◌++◌, length, get_or, refl, arith, lit≤}
use Rattle.model.specs.State.{capacity}
use Rattle.model.specs.Tournament.{levels}
use Rattle.table.specs.Layout.{sample_word, samples, groups, size, samples_from, finer_from, directory_from}
use Rattle.table_column.specs.Column.{Column, AtLeast}
use Rattle.table_column.proofs.Descending.{at-least-over, at-least-under}
use Rattle.table_column.proofs.Parts.{narrows, narrows-part}
use Rattle.table_names.specs.Filing.{InDirectory, FindsPlace, both_samples}
use Rattle.table_names.proofs.Samples.{place_of, sample-behind, sample-before, sample-at, samples-column, finer-column, directory-column}

-- where they stand
pub samples-place : Column samples_from groups
samples-place = record { halvings = levels - 6; is = refl; inside = lit≤ tt }

pub eight-words : (from s n : ℕ) → s < n → from + 8 * n ≤ size → Column (from + 8 * s) 8
eight-words from s n l k = record { halvings = 3; is = refl; inside = omega (arith, l, k) }

-- ---- of any table: the sample of eight that is found, and the word

module _ (q r : ℕ) (a : q < groups) (b : 8 * q ≤ r) (c : r - 8 * q < 8) where
  pub block_inside : r < 8 * groups
  block_inside = omega (arith, a, b, c)

  word-inside : (p : ℕ) → 8 * r ≤ p → p - 8 * r < 8 → p < groups * 64
  word-inside p d e = omega (arith, a, b, c, d, e)

-- ---- of a directory with its samples

module _ (l h ds t : List ℕ) (i : InDirectory l h ds t) (w : ℕ) (pos : 0 < w) where
  -- q groups of 64 words stand before the place of w
  grouped : (q : ℕ) → AtLeast samples_from groups l w q → (q * 64 ≤ place_of w ds) × (place_of w ds < suc q * 64)
  grouped q a =
      narrows samples_from groups l w q a h (samples 64 groups ds) _ (samples-column l h ds t i) (λ j. j * 64) (place_of w ds)
      (λ j k b. sample-behind 64 w ds i.2 i.3 (omega arith) j pos (omega (arith, b, at j (omega (arith, k)))))
      (λ j k b. sample-before 64 w ds i.2 i.3 (omega arith) j (omega (arith, b, at j (omega (arith, k)))))
      (omega arith) (omega arith)
    where
      at : (j : ℕ) → j < groups → get_or (samples 64 groups ds) j 0 ≡ sample_word 64 ds j
      at j k = sample-at 64 groups ds j k

  -- and r blocks of eight
  blocked : (q r : ℕ) → AtLeast samples_from groups l w q → 8 * q ≤ r → AtLeast (finer_from + 8 * q) 8 l w (r - 8 * q) → (r * 8 ≤ place_of w ds) × (place_of w ds < suc r * 8)
  blocked q r a s b =
      let n =
      narrows-part finer_from (8 * groups) (8 * q) 8 l w (r - 8 * q) b (h ++ samples 64 groups ds) (samples 8 (8 * groups) ds) (ds ++ t) (finer-column l h ds t i)
      (omega (arith, a.inside)) (λ j. (8 * q + j) * 8) (place_of w ds)
      (λ j k d. omega (arith, sample-behind 8 w ds i.2 i.3 (omega arith) (8 * q + j) pos (omega (arith, d, at j (omega (arith, k))))))
      (λ j k d. omega (arith, sample-before 8 w ds i.2 i.3 (omega arith) (8 * q + j) (omega (arith, d, at j (omega (arith, k))))))
      (omega (arith, (grouped q a).0)) (omega (arith, (grouped q a).1)) in
      (omega (arith, s, n.0), omega (arith, s, n.1))
    where
      at : (j : ℕ) → j < 8 → get_or (samples 8 (8 * groups) ds) (8 * q + j) 0 ≡ sample_word 8 ds (8 * q + j)
      at j k = sample-at 8 (8 * groups) ds (8 * q + j) (omega (arith, a.inside, k))

  -- and p words
  placed : (r p : ℕ) → (r * 8 ≤ place_of w ds) × (place_of w ds < suc r * 8) → 8 * r ≤ p → AtLeast (directory_from + 8 * r) 8 l w (p - 8 * r) → p ≡ place_of w ds
  placed r p b s a =
      let n =
      narrows-part directory_from capacity (8 * r) 8 l w (p - 8 * r) a (h ++ both_samples ds) ds t (directory-column l h ds t i)
      whole (λ j. 8 * r + j) (place_of w ds)
      (λ j k d. omega (arith, whole, k, at-least-over w ds i.3 (8 * r + j) (inside j k) d))
      (λ j k d. omega (arith, at-least-under w ds i.3 (8 * r + j) (inside j k) d))
      (omega (arith, b.0)) (omega (arith, b.1)) in
      omega (arith, s, n.0, n.1)
    where
      whole : 8 * r + 8 ≤ capacity
      whole = omega (arith, b.0)

      inside : (j : ℕ) → suc j < 8 → 8 * r + j < length ds
      inside j k = omega (arith, whole, k, i.2)

pub finds-place : (l : List ℕ) (w q r p : ℕ) → AtLeast samples_from groups l w q → (8 * q ≤ r) × AtLeast (finer_from + 8 * q) 8 l w (r - 8 * q)
    → (8 * r ≤ p) × AtLeast (directory_from + 8 * r) 8 l w (p - 8 * r) → FindsPlace l w p
finds-place l w q r p a b c = record {
  inside = word-inside q r a.inside b.0 b.1.inside p c.0 c.1.inside;
  is = λ h ds t i pos. placed l h ds t i w pos r p (blocked l h ds t i w pos q r a b.0 b.1) c.0 c.1;
}
