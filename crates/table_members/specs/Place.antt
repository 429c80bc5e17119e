-- Where a member's word stands among those of a table. (Document 02, L13.)
use Rattle.std.specs.Prelude.{ℕ, ◌+◌, ◌-◌, ◌*◌, ◌≡◌, true, cond, List, [], ◌∷◌, ltb}
use Rattle.std.proofs.Math.Option.{Option, none, some}
use Rattle.cell.specs.Name.{no_name}
use Rattle.connection_members.specs.Members.{Member, is_member}

-- how many names are below x
unfoldable pub below : (x : ℕ) → List Member → ℕ
below x [] = 0
below x (m ∷ ms) = cond (ltb m.name x) 1 0 + below x ms

-- the words of names below x are at least this number, and no others
abbrev pub word_limit : (x : ℕ) → ℕ
word_limit x = (no_name + 1 - x) * 65536

-- the member x, in word i
pub record MemberAt (ms : List Member) (x i : ℕ) : Type 0 where
  pub member : is_member x ms ≡ true
  pub place : below x ms ≡ i

-- the first with data, up to the first name that is not below `top`
unfoldable pub first_below : (top : ℕ) → List Member → Option ℕ
first_below top [] = none
first_below top (m ∷ ms) = cond (ltb m.name top) (cond (ltb 0 m.cells) (some m.name) (first_below top ms)) none
