-- TBE and FRTT of opens, computed from the empty table. (Document 02, L14.)
use Rattle.std.specs.Prelude.{ℕ, ◌+◌, ◌≡◌, [], ◌∷◌}
use Rattle.rate_params.specs.declared.params.Params.{Params}
use Rattle.rate_params.specs.Params.{initial_used, crm, house_set}
use Rattle.rate_params.specs.Setup.{with_setup}
use Rattle.rate_moves.specs.Moves.{moved, opened, first_cell, idle}
use Rattle.rate.specs.Units.{latest_time}
use Rattle.connection.specs.declared.kind.Kind.TheVariants.{Forward}
use Rattle.connection.specs.Parts.{changed}
use Rattle.model.specs.State.{empty}
use Rattle.model.specs.Answers.{Rate, Codes}
use Rattle.model.specs.Call.{opening, offering, slot, opening_path}
use Rattle.model.specs.Queries.{acr_of, contract_of}
use Rattle.model.specs.Run.{final}
use Rattle.check_examples.specs.Unstarred.{refused, accepted, sent, next}

-- MCR 1, ICR 32 and PCR 1,000 cells a second, with this TBE and FRTT
abbrev pub setup : (tbe frtt : ℕ) → Params
setup tbe frtt = with_setup (house_set 0x53E8 0x4000 0x4A00) tbe frtt

-- an ICR above PCR, TBE 0 and FRTT over its range
abbrev pub unfit : Params
unfit = with_setup (house_set 0x4000 0x4000 0x4200) 0 16_700_001

pub record SetupCalls : Type 0 where
  -- refusals: 7, 29, 30, then 8; of a path too
  pub rates : next [] (opening 0 33 (latest_time + 1) unfit) ≡ refused 7
  pub both : next [] (opening 0 33 (latest_time + 1) (setup 0 16_700_001)) ≡ refused 29
  pub round_trip : next [] (opening 0 33 (latest_time + 1) (setup 1 16_700_001)) ≡ refused 30
  pub late : next [] (opening 0 33 (latest_time + 1) (setup 1 16_700_000)) ≡ refused 8
  pub exposure : next [] (opening 0 33 0 (setup 16_777_216 0)) ≡ refused 29
  pub widest : next [] (opening 0 33 0 (setup 16_777_215 16_700_000)) ≡ accepted
  pub of_path : next [] (opening_path 1 0 (setup 0 0)) ≡ refused 29
  pub trip_of_path : next [] (opening_path 1 0 (setup 1 16_700_001)) ≡ refused 30
  -- CRM, rounded up
  pub crm_one : crm (setup 32 0) ≡ 1
  pub crm_two : crm (setup 33 0) ≡ 2
  -- the rate used: 512,000,000 × 1 / 33,000, rounded down; MCR where that would be 30; the ICR given where there is
  -- no round trip, and where TBE allows more
  pub lowered : initial_used (setup 1 33_000) ≡ 15_515
  pub minimum : initial_used (setup 1 16_700_000) ≡ 512
  pub no_minimum : initial_used (with_setup (house_set 0x53E8 0 0x4A00) 1 16_700_000) ≡ 30
  pub no_trip : initial_used (setup 1 0) ≡ 16_384
  pub enough : initial_used (setup 2 33_000) ≡ 16_384
  -- the connection starts at the rate used, and its first cell goes at it; a contract has the ICR as given
  pub starts : acr_of (final empty (opening 0 33 0 (setup 1 33_000) ∷ [])) 33 ≡ Rate 15_515 (changed 15_515 15_515)
  pub sends : next (opening 0 33 0 (setup 1 33_000) ∷ offering 0 33 1 ∷ []) (slot 0 53) ≡ sent 33 Forward 15_515
  -- a higher rate comes down to it with the first cell, and with a forward cell after more than ADTF
  pub first : first_cell (moved (opened (setup 1 33_000)) 16_384) ≡ opened (setup 1 33_000)
  pub idles : idle 500_000_001 (moved (opened (setup 1 33_000)) 16_384) ≡ opened (setup 1 33_000)
  pub given : contract_of (final empty (opening 0 33 0 (setup 1 33_000) ∷ [])) 33 ≡ Codes 0x53E8 0x4000 0x4A00
