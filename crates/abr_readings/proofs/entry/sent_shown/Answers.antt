use Rattle.std.proofs.Common.{eq-eqb, ne_eqb}
use Rattle.abr_readings.proofs.entry.sent_shown.Goals as goal

pub returns-then-tag-eq0 : goal.returns-then-tag-eq0
returns-then-tag-eq0 c = simp (eq-eqb _ _ c.if-tag-eq0.true)

pub returns-else-tag-eq0 : goal.returns-else-tag-eq0
returns-else-tag-eq0 c = simp (ne_eqb _ _ c.if-tag-eq0.false)
