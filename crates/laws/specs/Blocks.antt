-- Blocks of one width in a flat list of words, and a run of stores as straight-line code makes it.
use Rattle.std.specs.Prelude.{ℕ, ◌+◌, List, [], ◌∷◌, ◌++◌, set}

-- the blocks of a row, one after the other
abbrev pub flat : {A : Type 0} → (A → List ℕ) → List A → List ℕ
flat f [] = []
flat f (a ∷ xs) = f a ++ flat f xs

-- stores at b + k, b + k + 1, ..
abbrev pub put_from : List ℕ → ℕ → ℕ → List ℕ → List ℕ
put_from l b k [] = l
put_from l b k (v ∷ vs) = put_from (set l (b + k) v) b (k + 1) vs

-- stores at b, b + 1, ..
abbrev pub put : List ℕ → ℕ → List ℕ → List ℕ
put l b [] = l
put l b (v ∷ vs) = put_from (set l b v) b 1 vs
