-- They compute.
use mathlib.Core.Path.{refl}
use Rattle.rate.specs.Code.{rate_of, code_below, code_of}
use Rattle.rate_params.specs.Params.{initial_used}
use Rattle.rate_moves.specs.Moves.{rate_by_marks, feedback}
use Rattle.promise_loop.specs.Examples.{LoopExamples}

pub examples : LoopExamples
unfolding rate_of code_below code_of initial_used rate_by_marks feedback
examples = record { steps = refl; there = refl; short = refl; stopped = refl; between = refl; below_mcr = refl; no_limit = refl; above_pcr = refl }
