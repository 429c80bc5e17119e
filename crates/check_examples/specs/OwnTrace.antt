-- The trace of a connection, recorded from a list of calls, and traces of transmitters that do one thing
-- differently. (Document 02, L11.)
use Rattle.std.specs.Prelude.{ℕ, ◌≡◌, true, List, [], ◌∷◌}
use Rattle.rate_params.specs.declared.params.Params.{Params}
use Rattle.rate_params.specs.Params.{house_set}
use Rattle.trace_judge.specs.declared.cells.Cell.{Cell}
use Rattle.trace_judge.specs.Rules.{Verdict, Passes, Breaks}
use Rattle.trace_judge.specs.Octets.{judged_octets}
use Rattle.model.specs.State.{empty}
use Rattle.model.specs.Call.{Call, opening, closing, receiving, offering, levelling, slot, making, out_of_rate}
use Rattle.model.specs.Step.{step}
use Rattle.model.specs.Run.{final, is_accepted}
use Rattle.promise_traces.specs.Written.{trace_octets}
use Rattle.promise_traces.specs.Traces.{own_cells}
use Rattle.check_examples.specs.Witness.{unmarked, congested_cell}
use Rattle.check_examples.specs.OutOfRateCalls.{no_minimum}

-- VCI 33 starts at 16,384, with a gap of 31,250,000
abbrev pub slow : Params
slow = house_set 0x53E8 0x4000 0x4A00

abbrev pub idle_first : List Call
idle_first = slot 0 53 ∷ []

-- After its opening at 1,000: a refused slot, a forward cell, an idle slot, a made cell, an out-of-rate cell, a
-- backward cell that lowers the rate, and data. Then two cells of VCI 34, and a forward cell, since Trm has passed.
-- Then the close, and a forward cell of the next opening.
abbrev pub mixed : List Call
mixed =
    offering 0 33 9
    ∷ slot 999 53
    ∷ slot 1000 53
    ∷ slot 1001 53
    ∷ levelling 1
    ∷ making 0 33 1001
    ∷ slot 31_251_000 53
    ∷ out_of_rate 0 33 40_000_000 53
    ∷ receiving congested_cell
    ∷ slot 200_000_000 53
    ∷ opening 0 34 200_000_000 slow
    ∷ offering 0 34 1
    ∷ slot 200_000_000 53
    ∷ slot 400_000_000 53
    ∷ slot 400_000_000 53
    ∷ closing 0 33
    ∷ opening 0 33 400_000_000 slow
    ∷ offering 0 33 9
    ∷ slot 400_000_000 53
    ∷ []

-- ICR and MCR are 0. A backward cell raises the rate to 32,000, and the first cell takes it to 0. Until the next
-- backward cell no slot goes to VCI 33.
abbrev pub from_zero : List Call
from_zero = offering 0 33 9 ∷ slot 4 53 ∷ receiving unmarked ∷ slot 5 53 ∷ slot 20_000_000 53 ∷ receiving unmarked ∷ slot 30_000_000 53 ∷ []

abbrev pub cell : (since kind rate : ℕ) → Cell
cell since kind rate = record { since = since; kind = kind; rate = rate }

abbrev pub recorded_cells : List Cell
recorded_cells = cell 0 1 16_384 ∷ cell 31_250_000 2 16_384 ∷ cell 168_749_000 3 15_360 ∷ cell 200_000_000 1 15_360 ∷ []

-- n 5, Trm number 7, and a line for each cell
abbrev pub recorded_octets : List ℕ
recorded_octets =
    5 ∷ 7
    ∷ 0 ∷ 1 ∷ 0x80 ∷ 0x80 ∷ 0x01
    ∷ 0xD0 ∷ 0xAC ∷ 0xF3 ∷ 0x0E ∷ 2 ∷ 0x80 ∷ 0x80 ∷ 0x01
    ∷ 0xC8 ∷ 0xCF ∷ 0xBB ∷ 0x50 ∷ 3 ∷ 0x80 ∷ 0x78
    ∷ 0x80 ∷ 0x84 ∷ 0xAF ∷ 0x5F ∷ 1 ∷ 0x80 ∷ 0x78
    ∷ []

-- the verdict on other cells with the same n and Trm number
abbrev pub verdict_on : List Cell → Verdict
verdict_on cs = judged_octets (trace_octets 5 7 cs)

pub record OwnTrace : Type 0 where
  pub opens : is_accepted (step (final empty idle_first) (opening 0 33 1000 slow)).answer ≡ true
  pub cells : own_cells idle_first (opening 0 33 1000 slow) 33 mixed ≡ recorded_cells
  pub octets : trace_octets 5 7 recorded_cells ≡ recorded_octets
  pub passes : judged_octets recorded_octets ≡ Passes
  pub zero_cells : own_cells [] (opening 0 33 0 no_minimum) 33 from_zero ≡ cell 0 1 32_000 ∷ cell 29_999_995 3 32_000 ∷ []
  pub zero_passes : verdict_on (cell 0 1 32_000 ∷ cell 29_999_995 3 32_000 ∷ []) ≡ Passes
  -- data before any forward cell
  pub data_first : verdict_on (cell 0 3 16_384 ∷ []) ≡ Breaks 1 1
  -- the backward cell is not heeded: the third cell goes a gap at the old rate after the second
  pub not_heeded : verdict_on (cell 0 1 16_384 ∷ cell 31_250_000 2 16_384 ∷ cell 31_250_000 3 15_360 ∷ []) ≡ Breaks 3 2
  -- no forward cell when Trm has passed; and one before
  pub trm_missed : verdict_on (cell 0 1 16_384 ∷ cell 31_250_000 2 16_384 ∷ cell 168_749_000 3 15_360 ∷ cell 200_000_000 3 15_360 ∷ []) ≡ Breaks 4 3
  pub forward_again : verdict_on (cell 0 1 16_384 ∷ cell 31_250_000 1 16_384 ∷ []) ≡ Breaks 2 3
