-- Octets of a cell, counted from 1 as document 01 counts them.
use Rattle.std.specs.Prelude.{ℕ, ◌+◌, ◌-◌, ◌*◌, ◌/◌, ◌%◌, ◌<◌, List, [], ◌∷◌, get_or, drop}

-- octet i of a cell
abbrev pub octet : ℕ → List ℕ → ℕ
octet i o = get_or o (i - 1) 0

-- octets i and i + 1 as one number, high octet first
abbrev pub pair : ℕ → List ℕ → ℕ
pair i o = octet i o * 256 + octet (i + 1) o

-- a number in two octets
abbrev pub two : ℕ → List ℕ
two x = (x / 256 % 256) ∷ (x % 256) ∷ []

-- octets 6 to 53
abbrev pub payload : List ℕ → List ℕ
payload o = drop 5 o

-- each number of the list is an octet's: below 256
pub record AreOctets (o : List ℕ) : Type 0 where
  pub each : (i : ℕ) → get_or o i 0 < 256
