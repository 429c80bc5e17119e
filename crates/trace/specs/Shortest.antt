-- Shortest form only: what is read as a number was written in its shortest form. (Document 02, L11.)
use Rattle.std.specs.Prelude.{ℕ, ◌+◌, ◌^◌, ◌<◌, ◌≡◌, List, length, get_or, Ok}
use Rattle.trace.specs.Numbers.{number_at, written, Stands}

-- each number of the list is an octet's
abbrev pub Octets : List ℕ → Type 0
Octets s = (i : ℕ) → get_or s i 0 < 256

-- the shortest form of x, a number of 64 bits, stands in s from the offset k on and ends before j
pub record WrittenAt (s : List ℕ) (k x j : ℕ) : Type 0 where
  pub small : x < 2 ^ 64
  pub stands : Stands s k (written 9 x)
  pub end : j ≡ k + length (written 9 x)

abbrev pub ShortestOnly : Type 0
ShortestOnly = (s : List ℕ) → Octets s → (k x j : ℕ) → number_at s k ≡ Ok (x, j) → WrittenAt s k x j
