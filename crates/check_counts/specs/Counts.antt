-- The comparisons of single calls, computed from the empty table: 1 where the leaf wins nothing; else up to the
-- first match that it does not win; all levels up to the root. (Document 02, L4 and L13.)
use Rattle.std.specs.Prelude.{ℕ, ◌≡◌, List, [], ◌∷◌}
use Rattle.model.specs.State.{empty}
use Rattle.model.specs.Tournament.{levels}
use Rattle.model.specs.Call.{Call, opening, closing, offering, levelling, slot, opening_path, adding, offering_member, removing, comparisons}
use Rattle.model.specs.Step.{step}
use Rattle.model.specs.Run.{final}
use Rattle.check_examples.specs.Unstarred.{house}
use Rattle.check_paths.specs.PathRefusals.{data_cell}

-- the comparisons of a call after these calls from the empty table
abbrev pub counted : List Call → Call → ℕ
counted cs c = comparisons (step (final empty cs) c).answer

-- VPI 0: VCI 33 in leaf 0, then VCI 34 in leaf 1 and VCI 35 in leaf 2. They open at one time, so the instants at
-- which they become ready are tied.
abbrev pub one : List Call
one = opening 0 33 0 house ∷ []

abbrev pub one_ready : List Call
one_ready = opening 0 33 0 house ∷ offering 0 33 1 ∷ []

abbrev pub three_opened : List Call
three_opened = opening 0 33 0 house ∷ opening 0 34 0 house ∷ opening 0 35 0 house ∷ offering 0 33 1 ∷ []

-- and VCI 35 is ready too
abbrev pub pairs : List Call
pairs = opening 0 33 0 house ∷ opening 0 34 0 house ∷ opening 0 35 0 house ∷ offering 0 33 1 ∷ offering 0 35 1 ∷ []

-- the lower name in the higher leaf
abbrev pub crossed : List Call
crossed = opening 0 34 0 house ∷ opening 0 33 0 house ∷ offering 0 34 1 ∷ []

-- the path of VPI 1 in leaf 0 with the member VCI 40; and data on it
abbrev pub opened_with_path : List Call
opened_with_path = opening_path 1 0 house ∷ adding 1 40 ∷ []

abbrev pub path_ready : List Call
path_ready = opening_path 1 0 house ∷ adding 1 40 ∷ offering_member 1 40 2 ∷ []

pub record Counts : Type 0 where
  pub opened : counted [] (opening 0 33 0 house) ≡ 1
  pub opened_beside : counted one_ready (opening 0 34 0 house) ≡ 1
  -- no cells are offered, and the connection is still not ready
  pub nothing_offered : counted one (offering 0 33 0) ≡ 1
  -- the only connection becomes ready, and wins every match
  pub only_ready : counted one (offering 0 33 1) ≡ levels
  -- it has won every match already, and still does
  pub winner_offered : counted one_ready (offering 0 33 1) ≡ levels
  -- the neighbouring leaf loses its first match; the lower name wins it and all above
  pub neighbour_loses : counted three_opened (offering 0 34 1) ≡ 1
  pub lower_name_wins : counted crossed (offering 0 33 1) ≡ levels
  -- leaf 2 wins the match against leaf 3, which is empty, and loses the next
  pub second_lost : counted three_opened (offering 0 35 1) ≡ 2
  pub second_left : counted pairs (closing 0 35) ≡ 2
  -- the winner is closed
  pub winner_closed : counted one_ready (closing 0 33) ≡ levels
  -- a slot for its winner, an idle slot, a level, a refused call
  pub cell_sent : counted one_ready (slot 0 53) ≡ levels
  pub idle_slot : counted one (slot 0 53) ≡ 0
  pub level_set : counted one_ready (levelling 1) ≡ 0
  pub not_open : counted one_ready (closing 0 34) ≡ 0
  -- a member's calls replay its path's leaf, and adding replays none
  pub path_opened : counted [] (opening_path 1 0 house) ≡ 1
  pub member_added : counted opened_with_path (adding 1 50) ≡ 0
  pub member_offered : counted opened_with_path (offering_member 1 40 1) ≡ levels
  pub member_removed : counted path_ready (removing 1 40) ≡ levels
  pub idle_removed : counted opened_with_path (removing 1 40) ≡ 1
  pub member_marked : counted path_ready (data_cell 1 40 1) ≡ levels
