-- As many members as there can be, computed from the empty table. (Document 02, L13.)
use Rattle.std.specs.Prelude.{ℕ, zero, suc, ◌+◌, ◌≡◌, List, [], ◌∷◌}
use Rattle.model.specs.Call.{Call, opening, opening_path, adding}
use Rattle.check_examples.specs.Unstarred.{refused, accepted, next, house}

-- n members of VPI 1, from VCI 34 on
abbrev pub addings : (n : ℕ) → List Call
addings zero = []
addings (suc n) = adding 1 (34 + n) ∷ addings n

-- beside the channel VCI 33 and another path
abbrev pub crowd : (n : ℕ) → List Call
crowd n = opening_path 1 0 house ∷ opening 1 33 0 house ∷ opening_path 2 0 house ∷ addings n

pub record Crowded : Type 0 where
  pub last : next (crowd 255) (adding 2 60) ≡ accepted
  -- 26 after 12 and 27, and for every path
  pub channel : next (crowd 256) (adding 1 33) ≡ refused 12
  pub twice : next (crowd 256) (adding 1 34) ≡ refused 27
  pub one_more : next (crowd 256) (adding 2 60) ≡ refused 26
