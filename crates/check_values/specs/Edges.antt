-- Numbers of document 01 that no list of calls distinguishes from their neighbours: where coding refuses, Trm by
-- number, and moves of the rate. (Document 01, "Units and the 16-bit rate code", "Opening" and
-- "Four moves of the allowed rate"; document 02, L14.)
use Rattle.std.specs.Prelude.{ℕ, suc, ◌*◌, ◌<◌, ◌≡◌, true, false, Ok, Err}
use Rattle.laws.specs.declared.refusals.Refusal.TheVariants.{TooLarge}
use Rattle.rate.specs.Code.{coded}
use Rattle.rate_params.specs.declared.params.Params.{Params}
use Rattle.rate_params.specs.Params.{house_set, trm_time}
use Rattle.rate_moves.specs.declared.moves.Rate.{Rate}
use Rattle.rate_moves.specs.Moves.{unanswered, feedback}

-- contracts of 1 to 1,000 cells a second, with the house set
abbrev pub edge_house : Params
edge_house = house_set 0x53E8 0x4000 0x53E8

-- the same with CDF zero
abbrev pub unreduced : Params
unreduced = record { pcr = 0x53E8; mcr = 0x4000; icr = 0x53E8; n = 5; r = 4; d = 4; c = 7; tbe = 16_777_215; frtt = 0; adtf = 50; trm = 7 }

-- a connection at its peak, and one at this rate
abbrev pub at_peak : Params → Rate
at_peak p = record { acr = 512_000; params = p }

abbrev pub at : ℕ → Rate
at acr = record { acr = acr; params = edge_house }

pub record Edges : Type 0 where
  -- 9 above the largest rate, and only there
  pub largest : coded 2_196_875_771_904 ≡ Ok 0x7FFF
  pub above_largest : coded 2_196_875_771_905 ≡ Err TooLarge
  -- each Trm is twice the one before, up to a tenth of a second
  pub doubled : (n : ℕ) → n < 7 → trm_time (suc n) ≡ 2 * trm_time n
  pub longest : trm_time 7 ≡ 100_000_000
  -- unanswered: from CRM forward cells on, by a sixteenth in the house set, rounded down; never with CDF zero
  pub answered : (unanswered 524_287 (at_peak edge_house)).acr ≡ 512_000
  pub unanswered_at : (unanswered 524_288 (at_peak edge_house)).acr ≡ 480_000
  pub cdf_zero : (unanswered 8_388_608 (at_peak unreduced)).acr ≡ 512_000
  -- feedback: NI without CI leaves the rate as it is, and no ER takes it under the minimum
  pub no_increase : (feedback false true 2_196_875_771_904 (at 300_000)).acr ≡ 300_000
  pub increase : (feedback false false 2_196_875_771_904 (at 300_000)).acr ≡ 332_000
  pub minimum_stands : (feedback false false 0 (at 300_000)).acr ≡ 512
