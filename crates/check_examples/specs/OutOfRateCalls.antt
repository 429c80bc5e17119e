-- The call that sends an out-of-rate forward cell at work, computed from the empty table. (Document 02, L5.)
use Rattle.std.specs.Prelude.{ℕ, ◌+◌, ◌≡◌, List, [], ◌∷◌}
use Rattle.rate_params.specs.declared.params.Params.{Params}
use Rattle.rate_params.specs.Params.{house_set}
use Rattle.rate.specs.Units.{latest_time}
use Rattle.cell.specs.Fields.{rm_cell}
use Rattle.connection.specs.declared.kind.Kind.TheVariants.{Forward, Data}
use Rattle.connection.specs.Slot.{Buffer, written}
use Rattle.model.specs.State.{empty}
use Rattle.model.specs.Call.{Call, opening, closing, receiving, offering, slot, out_of_rate}
use Rattle.model.specs.Step.{step}
use Rattle.model.specs.Run.{final}
use Rattle.check_examples.specs.Witness.{unmarked}
use Rattle.check_examples.specs.Unstarred.{refused, accepted, idle, sent, next}

-- MCR and ICR 0 under a peak of 512,000; the code that the open gives for MCR is not 0x0000, but its rate is 0
abbrev pub no_minimum : Params
no_minimum = house_set 0x53E8 0x01FF 0x0000

abbrev pub opened33 : List Call
opened33 = opening 0 33 0 no_minimum ∷ []

-- an out-of-rate cell at 5 ns, and one at the latest time
abbrev pub left : List Call
left = opening 0 33 0 no_minimum ∷ out_of_rate 0 33 5 53 ∷ []

abbrev pub left_last : List Call
left_last = opening 0 33 0 no_minimum ∷ out_of_rate 0 33 latest_time 53 ∷ []

-- closed after it and opened again
abbrev pub reopened33 : List Call
reopened33 = opening 0 33 0 no_minimum ∷ out_of_rate 0 33 5 53 ∷ closing 0 33 ∷ opening 0 33 5 no_minimum ∷ []

-- an idle slot at 5 ns, and no out-of-rate cell
abbrev pub idle_at5 : List Call
idle_at5 = opening 0 33 0 no_minimum ∷ slot 5 53 ∷ []

-- data waits; then a backward cell without marks
abbrev pub waiting33 : List Call
waiting33 = opening 0 33 0 no_minimum ∷ offering 0 33 9 ∷ []

abbrev pub raised33 : List Call
raised33 = opening 0 33 0 no_minimum ∷ offering 0 33 9 ∷ receiving unmarked ∷ []

-- its first cell, and a backward cell without marks again
abbrev pub restarted : List Call
restarted = opening 0 33 0 no_minimum ∷ offering 0 33 9 ∷ receiving unmarked ∷ slot 5 53 ∷ receiving unmarked ∷ []

-- what the call writes for VCI 33 at 5 ns
abbrev pub wrote_out_of_rate : List Call → Buffer
wrote_out_of_rate cs = (step (final empty cs) (out_of_rate 0 33 5 53)).buffer

-- a forward cell of VCI 33 with this CLP and CCR, and MCR 0
abbrev pub forward33 : (clp ccr : ℕ) → List ℕ
forward33 clp ccr = rm_cell clp (record { vpi = 0; vci = 33; dir = 0; bn = 0; ci = 0; ni = 0; ra = 0; er = 0x53E8; ccr = ccr; mcr = 0x0000; ql = 0; sn = 0 })

pub record OutOfRateCalls : Type 0 where
  -- accepted at an allowed rate of 0 and before the first cell; at another rate CCR is its code, here of 32,000
  pub at_zero : (next opened33 (out_of_rate 0 33 5 53) ≡ accepted) × (wrote_out_of_rate opened33 ≡ written (forward33 1 0x0000))
  pub at_rate : (next raised33 (out_of_rate 0 33 5 53) ≡ accepted) × (wrote_out_of_rate raised33 ≡ written (forward33 1 0x4BE8))
  -- the refusals 1, 8, 11 and 18, and exactly 100 ms
  pub short : next opened33 (out_of_rate 0 33 5 52) ≡ refused 1
  pub late : next opened33 (out_of_rate 0 33 (latest_time + 1) 53) ≡ refused 8
  pub not_open : next opened33 (out_of_rate 0 34 5 53) ≡ refused 11
  pub soon : next left (out_of_rate 0 33 100_000_004 53) ≡ refused 18
  pub rested : next left (out_of_rate 0 33 100_000_005 53) ≡ accepted
  -- the 100 ms are those of one open: closed and opened again, it has sent none
  pub reopened : next reopened33 (out_of_rate 0 33 6 53) ≡ accepted
  pub earlier : next idle_at5 (out_of_rate 0 33 4 53) ≡ refused 14
  -- their order, where two apply: 1 before each other; 8 before 11 and 18; 11 before 14; 14 before 18
  pub short_late : next opened33 (out_of_rate 0 33 (latest_time + 1) 52) ≡ refused 1
  pub short_not_open : next opened33 (out_of_rate 0 34 5 52) ≡ refused 1
  pub short_earlier : next left (out_of_rate 0 33 4 52) ≡ refused 1
  pub short_soon : next left (out_of_rate 0 33 6 52) ≡ refused 1
  pub late_not_open : next opened33 (out_of_rate 0 34 (latest_time + 1) 53) ≡ refused 8
  pub late_soon : next left_last (out_of_rate 0 33 (latest_time + 1) 53) ≡ refused 8
  pub not_open_earlier : next left (out_of_rate 0 34 4 53) ≡ refused 11
  pub earlier_soon : next left (out_of_rate 0 33 4 53) ≡ refused 14
  -- its time counts for a slot
  pub slot_earlier : next left (slot 4 53) ≡ refused 14
  -- At a rate of 0 no slot goes to VCI 33, though data waits. A backward cell raises the rate. The first cell takes
  -- it to ICR, which is 0. The next backward cell raises it again.
  pub passed_over : next waiting33 (slot 5 53) ≡ idle
  pub first_cell : next raised33 (slot 5 53) ≡ sent 33 Forward 0
  pub first_written : (step (final empty raised33) (slot 5 53)).buffer ≡ written (forward33 0 0x0000)
  pub goes_on : next restarted (slot 16_000_005 53) ≡ sent 33 Data 32_000
