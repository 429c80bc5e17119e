-- `trace_judge::judge::judge_cells` meets its contract. The invariant: what is left to read, judged from what is
-- kept, gives the answer (`Rest`).
use mathlib.Core.Bool.{true}
use Prim.Native.Nat.{◌-◌}
use lib.ListN.{length}
use Rattle.trace_judge.specs.Octets.{cells_parsed, verdict_of}
use Rattle.trace_judge.proofs.Rest.{Rest}
use Rattle.trace_judge.proofs.judge.judge_cells.Given as goal

abbrev pub invariant-loop-offset : goal.invariant-loop-offset
invariant-loop-offset l = Rest l.nrm l.trm_ns l.trace (verdict_of l.n l.trm (cells_parsed (length l.trace) l.trace l.start true 0)) l.offset l.broken l.sent

abbrev pub decreases-loop-offset : goal.decreases-loop-offset
decreases-loop-offset l = length l.trace - l.offset
