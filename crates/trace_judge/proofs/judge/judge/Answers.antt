-- `trace_judge::judge::judge` meets its contract.
use Rattle.trace_judge.proofs.Progress.{value-fits}
use Rattle.trace_judge.proofs.judge.judge.Goals as goal

pub judge_cells-requires : goal.judge_cells-requires
judge_cells-requires c = ((value-fits _ 0 1 8 c.number_within.ensures c.in_ok-n.was).1, (value-fits _ _ 0 7 c.number_within-2.ensures c.in_ok-trm.was).1)
