-- The starred lines of document 01, "Checked values", in its order, as one table. Each line is an
-- equation about the definitions.
use Rattle.std.specs.Prelude.{ℕ, ◌≡◌, true, false, [], ◌∷◌, Ok}
use Rattle.rate.specs.Units.{largest_rate}
use Rattle.rate.specs.Code.{rate_of, coded}
use Rattle.rate_params.specs.Params.{house_set}
use Rattle.rate.specs.Gap.{gap}
use Rattle.rate_moves.specs.declared.moves.Rate.{Rate}
use Rattle.rate_moves.specs.Moves.{feedback}
use Rattle.cell_crc.specs.Checks.{header_check}

-- A connection at this allowed rate, with this peak, MCR 512, and r and d 4 as in the house set. A line that names
-- no peak has the largest: with CI 1 the peak is not used.
abbrev pub at_peak_of : (pcr acr : ℕ) → Rate
at_peak_of pcr acr = record { acr = acr; params = house_set pcr 0x4000 0x4000 }

-- A large ER: no code has a higher rate.
abbrev pub er_large : ℕ
er_large = largest_rate

pub record CheckedValues : Type 0 where
  pub smallest : rate_of 0x4000 ≡ 512
  pub largest : rate_of 0x7FFF ≡ 2_196_875_771_904
  pub thousand_cells : coded 512_000 ≡ Ok 0x53E8
  pub below1024 : coded 1023 ≡ Ok 0x41FF
  pub above1024 : coded 1025 ≡ Ok 0x4200
  pub below512 : coded 511 ≡ Ok 0x0000
  pub idle_header : header_check (0x00 ∷ 0x00 ∷ 0x00 ∷ 0x01 ∷ []) ≡ 0x52
  pub gap_exact : gap 512_000 ≡ 1_000_000
  pub gap_rounded_up : gap 1536 ≡ 333_333_334
  pub cut_rounded_down : (feedback true false er_large (at_peak_of 0x7FFF 1000)).acr ≡ 937
  pub raised_to_peak : (feedback false false er_large (at_peak_of 0x53E8 500_000)).acr ≡ 512_000
  pub cut_then_er : (feedback true false 204_800 (at_peak_of 0x7FFF 512_000)).acr ≡ 204_800
