use mathlib.Core.Path.{◌∙◌}
use native.Mathlib.Nat.{one-mul}
use native.Mathlib.Omega.{arith}
use lib.Pow.{shl_exact}
use Rattle.trace_judge.proofs.Rest.{passed_on, rest-start, rest_end, rest-refused, rest-on, next_fits, rules-fit, rest-next}
use Rattle.trace_judge.proofs.judge.judge_cells.Goals as goal

pub loop-offset-init : goal.loop-offset-init
loop-offset-init c = rest-start _ _ _ _ (shl_exact 1 _ 64 (omega arith) (omega arith) ∙ one-mul _) c.trm_time-trm_ns.ensures

pub returns-in_err-cell : goal.returns-in_err-cell
returns-in_err-cell c =
    passed_on _ c.from_residual.ensures.1 ∙ rest-refused c.loop-offset.invariant c.loop-offset-test.true c.most_since.ensures c.record_at.ensures c.in_err-cell.was

pub with_broken-broken-requires : goal.with_broken-broken-requires
with_broken-broken-requires c =
    rules-fit c.loop-offset.invariant c.loop-offset-test.true c.most_since.ensures c.record_at.ensures c.in_ok-cell.was (omega arith)

pub with_sent-sent-requires : goal.with_sent-sent-requires
with_sent-sent-requires c =
    next_fits c.loop-offset.invariant c.loop-offset-test.true c.most_since.ensures c.record_at.ensures c.in_ok-cell.was (omega arith)

pub loop-offset-smaller : goal.loop-offset-smaller
loop-offset-smaller c =
    omega (arith, rest-on c.loop-offset.invariant c.loop-offset-test.true c.most_since.ensures c.record_at.ensures c.in_ok-cell.was)

pub loop-offset-preserved : goal.loop-offset-preserved
loop-offset-preserved c =
    rest-next c.loop-offset.invariant c.loop-offset-test.true c.most_since.ensures c.record_at.ensures c.in_ok-cell.was c.with_broken-broken.ensures c.with_sent-sent.ensures

pub returns : goal.returns
returns c = rest_end c.loop-offset.invariant c.loop-offset-test.false
