-- What finding a word's place, filing a word and taking it out make of the directory and its samples, which stand in a
-- table between other words.
use Rattle.std.specs.Prelude.{◌≡◌, ℕ, ◌+◌, ◌-◌, ◌*◌, ◌/◌, ◌%◌, ◌<◌, min, cond, List, [], ◌∷◌, ◌++◌, length, set, ◌==◌, slice_set}
use Rattle.model.specs.State.{capacity}
use Rattle.table.specs.Layout.{samples, sampled, groups, samples_from, finer_from, directory_from}
use Rattle.table_column.specs.Descending.{at_least, Descending, shifted, inserted_at, removed_at}

-- a table's words with these in the directory's place
abbrev pub InDirectory : List ℕ → (h ds t : List ℕ) → Type 0
InDirectory l h ds t = (l ≡ h ++ (sampled ds ++ t)) × (length h ≡ samples_from) × (length ds ≡ capacity) × Descending ds

-- of any table: a word that it has
pub record FindsPlace (l : List ℕ) (w p : ℕ) : Type 0 where
  pub inside : p < groups * 64
  pub is : (h ds t : List ℕ) → InDirectory l h ds t → 0 < w → p ≡ min (at_least w ds) (capacity - 1)

-- the last word of block b, and the samples that repeat it
abbrev pub last_put : List ℕ → (b w : ℕ) → List ℕ
last_put l b w =
    let m = set (slice_set l (directory_from + (b * 8 + 7)) w) (finer_from + b) w in
    cond (b % 8 == 7) (slice_set m (samples_from + b / 8) w) m

-- the samples of both kinds
abbrev pub both_samples : List ℕ → List ℕ
both_samples ds = samples 64 groups ds ++ samples 8 (8 * groups) ds

-- a table's words with xs, the words before the last one of block b, and ys in the directory's place
abbrev pub InBlocks : List ℕ → (b : ℕ) → (h xs ys t : List ℕ) → Type 0
InBlocks l b h xs ys t = (l ≡ h ++ (sampled (xs ++ ys) ++ t)) × (length h ≡ samples_from) × (length xs ≡ b * 8 + 7) × (length ys + (b * 8 + 7) ≡ capacity) × Descending ys

-- the word stands before ys, whose last word is gone
pub record ShiftsUp (b w : ℕ) (before after : List ℕ) : Type 0 where
  pub is : (h xs ys t : List ℕ) → InBlocks before b h xs ys t → after ≡ h ++ (sampled (xs ++ shifted w ys) ++ t)

-- the same with y as that last word, where the samples have x in its place
abbrev pub InBlocksBut : List ℕ → (b : ℕ) → (h xs : List ℕ) (x y : ℕ) (ys t : List ℕ) → Type 0
InBlocksBut l b h xs x y ys t =
    (l ≡ h ++ (both_samples (xs ++ (x ∷ ys)) ++ ((xs ++ (y ∷ ys)) ++ t)))
    × (length h ≡ samples_from) × (length xs ≡ b * 8 + 7) × (length ys + (b * 8 + 8) ≡ capacity) × Descending ys

-- y is gone
pub record ShiftsDown (b : ℕ) (before after : List ℕ) : Type 0 where
  pub is : (h xs ys t : List ℕ) (x y : ℕ) → InBlocksBut before b h xs x y ys t → after ≡ h ++ (sampled (xs ++ (ys ++ (0 ∷ []))) ++ t)

-- a word more, behind those that are at least it
pub record Files (w : ℕ) (before after : List ℕ) : Type 0 where
  pub is : (h ds t : List ℕ) → InDirectory before h ds t → at_least w ds < capacity → after ≡ h ++ (sampled (inserted_at (at_least w ds) w ds) ++ t)

-- the first of the words below it less
pub record Unfiles (w : ℕ) (before after : List ℕ) : Type 0 where
  pub is : (h ds t : List ℕ) → InDirectory before h ds t → at_least w ds < capacity → after ≡ h ++ (sampled (removed_at (at_least w ds) ds) ++ t)
