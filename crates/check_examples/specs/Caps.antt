-- What is asked of turns can be met. Two connections have 1,000 cells a second each, on a link with a slot every
-- 400 microseconds, and a lag of a slot for each. The slot at 800 microseconds is left out, as nothing is ready
-- before 1,000. The next comes at 1,200. The second connection's cells are passed at the instants of the first, a
-- gap apart, though its slots come later.
use Rattle.std.specs.Prelude.{ℕ, ◌≡◌, List, [], ◌∷◌}
use Rattle.rate_params.specs.declared.params.Params.{Params}
use Rattle.rate_params.specs.Params.{house_set}
use Rattle.model.specs.State.{State, empty}
use Rattle.model.specs.Call.{Call, opening, offering}
use Rattle.model.specs.Run.{final}
use Rattle.promise_delivery.specs.Turns.{Turn, time_passed, slot_of}
use Rattle.promise_delivery.specs.Served.{AllWait}
use Rattle.promise_caps.specs.Fixed.{TurnsFit, behind_at}

-- PCR, MCR and ICR of 512,000 units: a gap of 1,000,000
abbrev pub steady : Params
steady = house_set 0x53E8 0x53E8 0x53E8

abbrev pub opened_two : List Call
opened_two = opening 0 33 0 steady ∷ opening 0 34 0 steady ∷ offering 0 33 9 ∷ offering 0 34 9 ∷ []

abbrev pub example_names : List ℕ
example_names = 33 ∷ 34 ∷ []

abbrev pub slot_alone : (now : ℕ) → Turn
slot_alone now = record { between = []; now = now }

abbrev pub four : List Turn
four = slot_alone 0 ∷ slot_alone 400_000 ∷ slot_alone 1_200_000 ∷ slot_alone 1_600_000 ∷ []

abbrev pub times_passed : (lag : ℕ) → State → List Turn → List ℕ
times_passed lag s [] = []
times_passed lag s (x ∷ xs) = time_passed lag s x ∷ times_passed lag (slot_of lag s x).state xs

pub record CapsExample : Type 0 where
  pub lag : behind_at example_names 400_000 0 (final empty opened_two) four ≡ 800_000
  pub fit : TurnsFit example_names (λ v. 512_000) 400_000 800_000 0 (final empty opened_two) four
  pub waits : AllWait 34 800_000 (final empty opened_two) four
  pub passed : times_passed 800_000 (final empty opened_two) four ≡ 0 ∷ 0 ∷ 1_000_000 ∷ 1_000_000 ∷ []
