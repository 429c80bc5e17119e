-- Demanded rates: how many and how high they may be, and their sums. (Document 02, L10.)
use Rattle.std.specs.Prelude.{ℕ, ◌+◌, min, Bool, true, ◌&&◌, List, [], ◌∷◌, leb, length}
use Rattle.rate.specs.Units.{largest_rate}

-- at most 1,024
abbrev pub few_enough : List ℕ → Bool
few_enough ds = leb (length ds) 1024

-- none above the largest rate
unfoldable pub in_range : List ℕ → Bool
in_range [] = true
in_range (d ∷ ds) = leb d largest_rate && in_range ds

-- the plain sum
unfoldable pub plain_sum : List ℕ → ℕ
plain_sum [] = 0
plain_sum (d ∷ ds) = d + plain_sum ds

-- the sum of the demands, each cut to s where it is above s
unfoldable pub cut_sum : (s : ℕ) → List ℕ → ℕ
cut_sum s [] = 0
cut_sum s (d ∷ ds) = min d s + cut_sum s ds
