-- A row of values, one for each number from h on.
use Rattle.std.specs.Prelude.{ℕ, zero, suc, List, [], ◌∷◌}

unfoldable pub row : (ℕ → ℕ) → (h n : ℕ) → List ℕ
row g h zero = []
row g h (suc n) = g h ∷ row g (suc h) n
