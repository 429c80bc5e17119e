-- Falling lists of words: how many are at least a number, and what one word more or less does to
-- a list that keeps its length.
use Rattle.std.specs.Prelude.{ℕ, zero, suc, ◌+◌, ◌≤◌, cond, ◌&&◌, List, [], ◌∷◌, ◌++◌, leb, ltb, get_or}

-- how many words are at least this one
unfoldable pub at_least : ℕ → List ℕ → ℕ
at_least w [] = 0
at_least w (x ∷ xs) = cond (leb w x) 1 0 + at_least w xs

-- no word is above the one before it
abbrev pub Descending : List ℕ → Type 0
Descending [] = Unit
Descending (x ∷ xs) = (get_or xs 0 0 ≤ x) × Descending xs

-- one word more before the others, and the last one gone
unfoldable pub shifted : ℕ → List ℕ → List ℕ
shifted w [] = []
shifted w (x ∷ xs) = w ∷ shifted x xs

-- the one that is gone
unfoldable pub pushed : ℕ → List ℕ → ℕ
pushed w [] = w
pushed w (x ∷ xs) = pushed x xs

unfoldable pub inserted_at : (place : ℕ) → ℕ → List ℕ → List ℕ
inserted_at zero w xs = shifted w xs
inserted_at (suc p) w [] = []
inserted_at (suc p) w (x ∷ xs) = x ∷ inserted_at p w xs

-- one word less, and a 0 behind the others
unfoldable pub removed_at : (place : ℕ) → List ℕ → List ℕ
removed_at p [] = []
removed_at zero (x ∷ xs) = xs ++ (0 ∷ [])
removed_at (suc p) (x ∷ xs) = x ∷ removed_at p xs

-- without the words that are at least `low` and below `high`, and as many zeros behind the others
unfoldable pub without_run : (high low : ℕ) → List ℕ → List ℕ
without_run u w [] = []
without_run u w (x ∷ xs) = cond (leb w x && ltb x u) (without_run u w xs ++ (0 ∷ [])) (x ∷ without_run u w xs)
