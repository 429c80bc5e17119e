-- The data cells of one name through an open, offers, slots, a close and an open again, computed from the
-- empty table. (Document 02, L12.)
use Rattle.std.specs.Prelude.{◌≡◌, List, [], ◌∷◌}
use Rattle.connection.specs.declared.kind.Kind.TheVariants.{Forward}
use Rattle.model.specs.State.{empty}
use Rattle.model.specs.Call.{Call, opening, closing, offering, slot}
use Rattle.model.specs.Run.{final}
use Rattle.model.specs.Conservation.{cells_offered, data_slots, cells_closed, cells_waiting}
use Rattle.check_examples.specs.Unstarred.{refused, closed_with, sent, next, house}

-- three cells wait on VCI 33; 65,533 more would be one too many
abbrev pub three : List Call
three = opening 0 33 0 house ∷ offering 0 33 3 ∷ []

-- a forward cell and a data cell went
abbrev pub two_left : List Call
two_left = opening 0 33 0 house ∷ offering 0 33 3 ∷ offering 0 33 65_533 ∷ slot 0 53 ∷ slot 1_000_000 53 ∷ []

-- closed and opened again; five more cells, and again a forward and a data cell
abbrev pub again : List Call
again =
    opening 0 33 0 house ∷ offering 0 33 3 ∷ offering 0 33 65_533 ∷ slot 0 53 ∷ slot 1_000_000 53 ∷ closing 0 33
    ∷ opening 0 33 2_000_000 house ∷ offering 0 33 5 ∷ slot 2_000_000 53 ∷ slot 3_000_000 53 ∷ []

pub record ConservedCalls : Type 0 where
  pub overfull : next three (offering 0 33 65_533) ≡ refused 15
  pub forward : next three (slot 0 53) ≡ sent 33 Forward 512_000
  pub waited : next two_left (closing 0 33) ≡ closed_with 2
  -- 8 = 2 + 4 + 2
  pub offered : cells_offered 33 again ≡ 8
  pub slots : data_slots 33 again ≡ 2
  pub waiting : cells_waiting 33 (final empty again) ≡ 4
  pub closed : cells_closed 33 again ≡ 2
  -- another name has none
  pub other : (cells_offered 34 again ≡ 0) × (data_slots 34 again ≡ 0) × (cells_waiting 34 (final empty again) ≡ 0) × (cells_closed 34 again ≡ 0)
