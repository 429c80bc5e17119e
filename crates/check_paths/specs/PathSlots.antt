-- A path with three members: whose turn it is, what a removal and a close answer, and where its cells are counted.
-- All is computed from the empty table. (Document 02, L13.)
use Rattle.std.specs.Prelude.{ℕ, ◌≡◌, List, [], ◌∷◌, ◌++◌}
use Rattle.std.proofs.Math.Option.{some}
use Rattle.connection.specs.declared.kind.Kind.TheVariants.{Forward, Turned, Data}
use Rattle.connection.specs.Slot.{written}
use Rattle.model.specs.State.{empty}
use Rattle.model.specs.Call.{Call, opening, closing, receiving, slot, opening_path, adding, offering_member, removing, goes_to}
use Rattle.model.specs.Step.{step}
use Rattle.model.specs.Run.{final}
use Rattle.model.specs.Conservation.{cells_offered, data_slots, cells_closed, cells_waiting}
use Rattle.check_examples.specs.Unstarred.{accepted, closed_with, sent, next, slots_each, house}
use Rattle.check_paths.specs.PathRefusals.{data_cell, rm_on_path}

-- the path of VPI 1, named 65,542; VCIs 60, 40 and 50, named 65,596, 65,576 and 65,586, with this many cells each
abbrev pub three_members : (a b c : ℕ) → List Call
three_members a b c = opening_path 1 0 house ∷ adding 1 60 ∷ adding 1 40 ∷ adding 1 50 ∷ offering_member 1 40 a ∷ offering_member 1 50 b ∷ offering_member 1 60 c ∷ []

-- and then n slots at 0, 1, 2 .. milliseconds: a forward cell of the path first, and data cells after it
abbrev pub after_members : (a b c n : ℕ) → List Call
after_members a b c n = three_members a b c ++ slots_each 0 n

-- VCI 50, which was served last, is removed
abbrev pub removed : (a b c : ℕ) → List Call
removed a b c = after_members a b c 3 ++ (removing 1 50 ∷ [])

-- VCI 40 was served last; the path is closed and opened again, with data on both its members, and its forward cell goes
abbrev pub reopened : List Call
reopened =
    after_members 2 2 2 2
    ++ (closing 1 6 ∷ opening_path 1 2_000_000 house ∷ adding 1 40 ∷ adding 1 50 ∷ offering_member 1 50 1 ∷ offering_member 1 40 1 ∷ slot 2_000_000 53 ∷ [])

-- a data cell with EFCI 1 on a member, then a forward cell of the path, and the path's first cell
abbrev pub marked : List Call
marked = opening_path 1 0 house ∷ adding 1 40 ∷ data_cell 1 40 1 ∷ receiving (rm_on_path 1 6 0 0) ∷ slot 0 53 ∷ []

pub record PathSlots : Type 0 where
  -- before any was served the lowest with data; then in rising VCI, round to the lowest
  pub forward : next (after_members 2 2 2 0) (slot 0 53) ≡ sent 65_542 Forward 512_000
  pub lowest : next (after_members 2 2 2 1) (slot 1_000_000 53) ≡ sent 65_576 Data 512_000
  pub second : next (after_members 2 2 2 2) (slot 2_000_000 53) ≡ sent 65_586 Data 512_000
  pub third : next (after_members 2 2 2 3) (slot 3_000_000 53) ≡ sent 65_596 Data 512_000
  pub round : next (after_members 2 2 2 4) (slot 4_000_000 53) ≡ sent 65_576 Data 512_000
  -- one without data is passed over
  pub passed_over : next (after_members 2 0 2 2) (slot 2_000_000 53) ≡ sent 65_596 Data 512_000
  pub alone : next (after_members 0 0 2 2) (slot 2_000_000 53) ≡ sent 65_596 Data 512_000
  -- the connection that the slot goes to is the path
  pub goes : goes_to (step (final empty (after_members 2 2 2 1)) (slot 1_000_000 53)).answer ≡ some 65_542
  -- A removal answers what waited on the member, and the turn goes on from it. A close answers the
  -- sum, and the turn starts over.
  pub removal : next (after_members 2 2 2 3) (removing 1 50) ≡ closed_with 1
  pub goes_on : next (removed 2 2 2) (slot 3_000_000 53) ≡ sent 65_596 Data 512_000
  pub closed : next (after_members 2 3 4 2) (closing 1 6) ≡ closed_with 8
  pub begins_anew : next reopened (slot 3_000_000 53) ≡ sent 65_576 Data 512_000
  -- the members went with the path, and a channel may have their pair
  pub channel : next (three_members 1 1 1 ++ (closing 1 6 ∷ [])) (opening 1 40 0 house) ≡ accepted
  -- all is counted by path: 9 = 2 + 5 + 2
  pub offered : cells_offered 65_542 (removed 2 3 4) ≡ 9
  pub slots : data_slots 65_542 (removed 2 3 4) ≡ 2
  pub waiting : cells_waiting 65_542 (final empty (removed 2 3 4)) ≡ 5
  pub discarded : cells_closed 65_542 (removed 2 3 4) ≡ 2
  -- a member's EFCI marks the path's next turned cell, which has the path's VPI and VCI
  pub turned : next marked (slot 1_000_000 53) ≡ sent 65_542 Turned 512_000
  pub carries : (step (final empty marked) (slot 1_000_000 53)).buffer ≡ written (rm_on_path 1 6 1 1)
