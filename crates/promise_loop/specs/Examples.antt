-- The bound computed where it is exact, and shares that are no rate of a code.
use Rattle.std.specs.Prelude.{◌-◌, ◌≡◌, Some, None, Ok}
use Rattle.rate_params.specs.declared.params.Params.{Params}
use Rattle.rate_params.specs.Params.{house_set}
use Rattle.rate_moves.specs.Moves.{opened}
use Rattle.promise_service.specs.Restart.{increase}
use Rattle.promise_loop.specs.Settled.{feedback_bound, fed_times}
use Rattle.promise_loop.specs.Share.{settled}

-- PCR 513 units, MCR and ICR 0, r = 4
abbrev pub lowest : Params
lowest = house_set 0x4001 0x0000 0x0000

-- PCR 1,000, MCR 1 and ICR 32 cells a second
abbrev pub usual : Params
usual = house_set 0x53E8 0x4000 0x4A00

pub record LoopExamples : Type 0 where
  pub steps : increase lowest ≡ 32
  -- from 0 to PCR, 17 feedbacks: one fewer leaves the rate a unit short
  pub there : (fed_times (feedback_bound lowest) 513 (opened lowest)).acr ≡ 513
  pub short : (fed_times (feedback_bound lowest - 1) 513 (opened lowest)).acr ≡ 512
  -- below one cell a second the code is that of 0: a source without a minimum stops
  pub stopped : settled lowest (Ok (Some 511)) ≡ 0
  -- a share between two codes, one below MCR, none, and one above PCR
  pub between : settled usual (Ok (Some 1_025)) ≡ 1_024
  pub below_mcr : settled usual (Ok (Some 100)) ≡ 512
  pub no_limit : settled usual (Ok None) ≡ 512_000
  pub above_pcr : settled usual (Ok (Some 600_000)) ≡ 512_000
