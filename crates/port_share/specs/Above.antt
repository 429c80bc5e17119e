-- For the code's own functions: how many demands are above s, which is what one unit more for each of them costs.
use Rattle.std.specs.Prelude.{ℕ, ◌+◌, cond, List, [], ◌∷◌, ltb}

unfoldable pub one_above : (s d : ℕ) → ℕ
one_above s d = cond (ltb s d) 1 0

unfoldable pub above : (s : ℕ) → List ℕ → ℕ
above s [] = 0
above s (d ∷ ds) = one_above s d + above s ds
