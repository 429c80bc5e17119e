-- Every starred line holds, by computation from the definitions.
use mathlib.Core.Path.{refl}
use Rattle.rate.specs.Code.{rate_of, code_below, code_of, coded}
use Rattle.rate.specs.Gap.{gap}
use Rattle.rate_moves.specs.Moves.{reduced_by, rate_by_marks, feedback}
use Rattle.cell_crc.specs.Remainder.{bring, divide, remainder, bits, octet_bits}
use Rattle.cell_crc.specs.Checks.{header_check}
use Rattle.check_values.specs.Checked.{CheckedValues}

pub checked : CheckedValues
unfolding rate_of code_below code_of coded gap reduced_by rate_by_marks feedback bring divide remainder bits octet_bits header_check
checked = record {
  smallest = refl;
  largest = refl;
  thousand_cells = refl;
  below1024 = refl;
  above1024 = refl;
  below512 = refl;
  idle_header = refl;
  gap_exact = refl;
  gap_rounded_up = refl;
  cut_rounded_down = refl;
  raised_to_peak = refl;
  cut_then_er = refl;
}
