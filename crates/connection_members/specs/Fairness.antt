-- The members of a path are served in turn. (Document 02, L13.)
use Rattle.std.specs.Prelude.{ℕ, ◌+◌, ◌≤◌, ◌<◌, ◌≡◌, cond, List, [], ◌∷◌, eqb}
use Rattle.std.proofs.Math.Option.{Option, none, some}
use Rattle.connection_members.specs.Path.{path_of}
use Rattle.connection_members.specs.Members.{Member, cells_of}
use Rattle.connection_members.specs.Turn.{turn, last_after}
use Rattle.connection_members.specs.Invariant.{Rising}

-- 1 if the turn is this member's
unfoldable pub turn_of : (x : ℕ) → Option ℕ → ℕ
turn_of x none = 0
turn_of x (some y) = cond (eqb y x) 1 0

-- A stretch of data slots of a path, each with the members as they are at that slot. What waits and who is a member
-- may change between them. This counts the data cells of the member x, if the VCI q was served last before them.
unfoldable pub times_served : (path x last : ℕ) → List (List Member) → ℕ
times_served v x q [] = 0
times_served v x q (ms ∷ slots) = turn_of x (turn v q ms) + times_served v x (last_after (turn v q ms) q) slots

-- both have data at each of the slots
abbrev pub BothWait : (a b : ℕ) → List (List Member) → Type 0
BothWait a b [] = Unit
BothWait a b (ms ∷ slots) = (Rising ms × (0 < cells_of a ms) × (0 < cells_of b ms)) × BothWait a b slots

-- the data cells of two members differ by at most 1
abbrev pub Fair : Type 0
Fair =
    (v a b q : ℕ) (slots : List (List Member)) → path_of a ≡ v → path_of b ≡ v → BothWait a b slots
    → (times_served v a q slots ≤ times_served v b q slots + 1) × (times_served v b q slots ≤ times_served v a q slots + 1)
