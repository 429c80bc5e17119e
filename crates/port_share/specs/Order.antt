-- The order of the demands does not matter. (Document 02, L10.)
use Rattle.std.specs.Prelude.{ℕ, ◌≡◌}
use mathlib.Core.List.{List, Permᴰ}
use Rattle.port_share.specs.Share.{fair_share}

-- one list is a permutation of the other: the same answer, refusals included
abbrev pub SameInAnyOrder : Type 0
SameInAnyOrder = (capacity : ℕ) (ds es : List ℕ) → Permᴰ ds es → fair_share capacity ds ≡ fair_share capacity es
