use Rattle.trace.proofs.OnTheWay.{at_end, at_one, at_other, at_zero, at_last, fits, value_fits, on_next, last_fits, last_value_fits, weight_fits}
use native.Mathlib.Omega.{arith}
use Rattle.trace.proofs.number.number_at.Goals.{else-octet-eq0-via-then-octet-eq0+else-weight-gt1, else-octet-eq0-via-else-octet-eq0}
use Rattle.trace.proofs.number.number_at.Goals as goal

pub returns-then-octet-eq1 : goal.returns-then-octet-eq1
returns-then-octet-eq1 c = at_one c.loop-k.invariant c.loop-k-test.true c.from-octet.ensures c.if-weight.true c.if-octet-eq1.true

pub returns-else-octet-eq1 : goal.returns-else-octet-eq1
returns-else-octet-eq1 c = at_other c.loop-k.invariant c.loop-k-test.true c.from-octet.ensures c.if-weight.true c.if-octet-eq1.false

pub returns-then-weight-gt1 : goal.returns-then-weight-gt1
returns-then-weight-gt1 c = at_zero c.loop-k.invariant c.loop-k-test.true c.from-octet.ensures c.if-weight.false c.if-octet-eq0.true c.if-weight-gt1.true

pub overflow_mul-result : goal.overflow_mul-result
overflow_mul-result c = record { fits = last_fits c.loop-k.invariant c.loop-k-test.true c.from-octet.ensures c.if-weight.false c.if-octet-lt128.true }

pub overflow_add-result-then-octet-lt128 : goal.overflow_add-result-then-octet-lt128
overflow_add-result-then-octet-lt128 c = record { fits = last_value_fits c.loop-k.invariant c.loop-k-test.true c.from-octet.ensures c.if-weight.false c.if-octet-lt128.true }

pub returns-then-octet-lt128 : goal.returns-then-octet-lt128
returns-then-octet-lt128 c =
    at_last c.loop-k.invariant c.loop-k-test.true c.from-octet.ensures c.if-weight.false c.if-octet-lt128.true
    (elim c.else-octet-eq0.branch [
      | else-octet-eq0-via-then-octet-eq0+else-weight-gt1 w ↦ λ _. w.if-weight-gt1.false
      | else-octet-eq0-via-else-octet-eq0 w ↦ λ z. absurd (w.if-octet-eq0.false z)
    ])

pub overflow_mul-value : goal.overflow_mul-value
overflow_mul-value c = record { fits = fits c.loop-k.invariant c.loop-k-test.true c.from-octet.ensures c.if-weight.false (omega arith) }

pub overflow_add-value : goal.overflow_add-value
overflow_add-value c = record { fits = value_fits c.loop-k.invariant c.loop-k-test.true c.from-octet.ensures c.if-weight.false (omega arith) }

pub overflow_mul-weight : goal.overflow_mul-weight
overflow_mul-weight c = record { fits = weight_fits c.loop-k.invariant c.loop-k-test.true c.from-octet.ensures c.if-weight.false }

pub loop-k-preserved : goal.loop-k-preserved
loop-k-preserved c = on_next c.loop-k.invariant c.loop-k-test.true c.from-octet.ensures c.if-weight.false (omega arith) c.if-octet-lt128.false

pub returns : goal.returns
returns c = at_end c.loop-k.invariant c.loop-k-test.false
