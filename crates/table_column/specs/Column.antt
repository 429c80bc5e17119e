-- What the functions make of a column of descending words that stands in a table between other words.
use Rattle.std.specs.Prelude.{ℕ, ◌+◌, ◌-◌, ◌^◌, ◌≤◌, ◌<◌, min, ◌≡◌, List, ◌++◌, length, drop}
use Rattle.table.specs.Layout.{size}
use Rattle.table_column.specs.Descending.{at_least, Descending, pushed, inserted_at, removed_at, without_run}

-- a column's place in the table: its first word and its length, which is a power of 2
pub record Column (from len : ℕ) : Type 0 where
  pub halvings : ℕ
  pub is : len ≡ 2 ^ halvings
  pub inside : from + len ≤ size

-- a table's words with these in the column's place
abbrev pub InColumn : (from len : ℕ) → List ℕ → (h ds t : List ℕ) → Type 0
InColumn from len l h ds t = (l ≡ h ++ (ds ++ t)) × (length h ≡ from) × (length ds ≡ len) × Descending ds

-- of any table: a word of the column
pub record AtLeast (from len : ℕ) (l : List ℕ) (w r : ℕ) : Type 0 where
  pub inside : r < len
  pub is : (h ds t : List ℕ) → InColumn from len l h ds t → r ≡ min (at_least w ds) (len - 1)

-- of any table: at most as many as the column has
pub record CountsAtLeast (from len : ℕ) (l : List ℕ) (w r : ℕ) : Type 0 where
  pub inside : r ≤ len
  pub is : (h ds t : List ℕ) → InColumn from len l h ds t → r ≡ at_least w ds

-- the same, where at most p are
pub record CountsUpTo (from len p : ℕ) (l : List ℕ) (w r : ℕ) : Type 0 where
  pub is : (h ds t : List ℕ) → InColumn from len l h ds t → at_least w ds ≤ p → r ≡ at_least w ds

-- a word enters at place p, and the last one comes out
pub record Enters (from p len w : ℕ) (before after : List ℕ) (r : ℕ) : Type 0 where
  pub is : (h ds t : List ℕ) → InColumn from len before h ds t → (after ≡ h ++ (inserted_at p w ds ++ t)) × (r ≡ pushed w (drop p ds))

-- the word at place p goes
pub record Leaves (from p len : ℕ) (before after : List ℕ) : Type 0 where
  pub is : (h ds t : List ℕ) → InColumn from len before h ds t → after ≡ h ++ (removed_at p ds ++ t)

-- the word stands behind those that are at least it
pub record Inserts (from len w : ℕ) (before after : List ℕ) : Type 0 where
  pub is : (h ds t : List ℕ) → InColumn from len before h ds t → at_least w ds < len → after ≡ h ++ (inserted_at (at_least w ds) w ds ++ t)

-- the first of the words below it goes
pub record RemovesWord (from len w : ℕ) (before after : List ℕ) : Type 0 where
  pub is : (h ds t : List ℕ) → InColumn from len before h ds t → at_least w ds < len → after ≡ h ++ (removed_at (at_least w ds) ds ++ t)

-- a run of words goes
pub record RemovesRun (from len high low : ℕ) (before after : List ℕ) : Type 0 where
  pub is : (h ds t : List ℕ) → InColumn from len before h ds t → 0 < low → after ≡ h ++ (without_run high low ds ++ t)
