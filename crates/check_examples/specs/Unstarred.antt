-- The lines of document 01, "Checked values", that have no star, in its order. Each is said of the calls that
-- lead to it from the empty table.
use Rattle.std.specs.Prelude.{ℕ, zero, suc, ◌+◌, ◌≡◌, List, [], ◌∷◌}
use Rattle.std.proofs.Math.Option.{Option, none, some}
use Rattle.rate_params.specs.declared.params.Params.{Params}
use Rattle.rate_params.specs.Params.{house_set}
use Rattle.connection.specs.declared.parts.Pace.{Pace}
use Rattle.connection.specs.declared.parts.Pace.TheVariants.{Unsent, Running}
use Rattle.connection.specs.declared.kind.Kind.{Kind}
use Rattle.connection.specs.declared.kind.Kind.TheVariants.{Forward, Data}
use Rattle.model.specs.State.{Entry, free, taken, empty, find}
use Rattle.model.specs.Answers.{Answer, Refused, Accepted, Closed, Idle, Sent}
use Rattle.model.specs.Call.{Call, opening, receiving, offering, slot}
use Rattle.model.specs.Step.{step}
use Rattle.model.specs.Run.{final}
use Rattle.check_examples.specs.Witness.{unmarked}

-- an answer without the comparisons that the call made; exports/specs/Comparisons.antt is about those
pub data Result : Type 0 where
  refused : ℕ → Result
  accepted : Result
  closed_with : (cells : ℕ) → Result
  idle : Result
  sent : (name : ℕ) → Kind → (acr : ℕ) → Result

abbrev pub result : Answer → Result
result (Refused n) = refused n
result (Accepted n) = accepted
result (Closed n k) = closed_with k
result Idle = idle
result (Sent v x k a n) = sent x k a

-- what a call answers after these calls from the empty table
abbrev pub next : List Call → Call → Result
next cs c = result (step (final empty cs) c).answer

-- k, the cells sent since the last forward cell, of VCI 33 after these calls; none before its first cell
abbrev pub pace_count : Pace → Option ℕ
pace_count Unsent = none
pace_count (Running last forward k turned) = some k

abbrev pub entry_count : Entry → Option ℕ
entry_count free = none
entry_count (taken c) = pace_count c.pace

abbrev pub count : List Call → Option ℕ
count cs = entry_count (find 33 (final empty cs).entries)

-- n slots, the first at t, each a millisecond after the one before it
abbrev pub slots_each : (t n : ℕ) → List Call
slots_each t zero = []
slots_each t (suc n) = slot t 53 ∷ slots_each (t + 1_000_000) n

-- The house set has Nrm 32, Trm 100,000,000 and ADTF 500,000,000. VCI 33 starts at its peak, 512,000, with a gap of
-- a millisecond and with this many data cells. Then come n slots from time 0 on, all its own.
abbrev pub house : Params
house = house_set 0x53E8 0x4000 0x53E8

abbrev pub busy : (cells n : ℕ) → List Call
busy cells n = opening 0 33 0 house ∷ offering 0 33 cells ∷ slots_each 0 n

-- VCI 33 starts at ICR 16,384 under the same peak. After its forward cell at 0, a backward cell without marks takes
-- it to 48,384, above ICR. Then come two data cells.
abbrev pub raised : List Call
raised = opening 0 33 0 (house_set 0x53E8 0x4000 0x4A00) ∷ offering 0 33 9 ∷ slot 0 53 ∷ receiving unmarked ∷ slot 40_000_000 53 ∷ slot 80_000_000 53 ∷ []

pub record Unstarred : Type 0 where
  -- Nrm 32, within Trm: at k = 30 no forward cell, at 31 one
  pub thirty : (count (busy 99 31) ≡ some 30) × (next (busy 99 31) (slot 31_000_000 53) ≡ sent 33 Data 512_000)
  pub thirty_one : (count (busy 99 32) ≡ some 31) × (next (busy 99 32) (slot 32_000_000 53) ≡ sent 33 Forward 512_000)
  -- k = 2, a nanosecond before Trm: none; at Trm: one; with data that waits, and without
  pub before_trm : (count (busy 99 3) ≡ some 2) × (next (busy 99 3) (slot 99_999_999 53) ≡ sent 33 Data 512_000)
  pub at_trm : next (busy 99 3) (slot 100_000_000 53) ≡ sent 33 Forward 512_000
  pub idle_before_trm : (count (busy 2 3) ≡ some 2) × (next (busy 2 3) (slot 99_999_999 53) ≡ idle)
  pub idle_at_trm : next (busy 2 3) (slot 100_000_000 53) ≡ sent 33 Forward 512_000
  -- at exactly ADTF the rate stands; a nanosecond later a rate above ICR drops to ICR
  pub at_adtf : next raised (slot 500_000_000 53) ≡ sent 33 Forward 48_384
  pub after_adtf : next raised (slot 500_000_001 53) ≡ sent 33 Forward 16_384
  -- time 2^62 is accepted, one more is refused
  pub last_open : next [] (opening 0 33 4_611_686_018_427_387_904 house) ≡ accepted
  pub late_open : next [] (opening 0 33 4_611_686_018_427_387_905 house) ≡ refused 8
  pub last_slot : next [] (slot 4_611_686_018_427_387_904 53) ≡ idle
  pub late_slot : next [] (slot 4_611_686_018_427_387_905 53) ≡ refused 8
  -- VCI 32 opens, 31 does not
  pub lowest_vci : next [] (opening 0 32 0 house) ≡ accepted
  pub reserved_vci : next [] (opening 0 31 0 house) ≡ refused 10
