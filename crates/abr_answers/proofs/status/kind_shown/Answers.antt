use Rattle.abr_answers.proofs.Shown.{kind-path, kind-channel}
use Rattle.abr_answers.proofs.status.kind_shown.Goals as goal

pub returns-then-name-eq-PATH_VCI : goal.returns-then-name-eq-PATH_VCI
returns-then-name-eq-PATH_VCI c = kind-path _ _ c.if-member.false c.if-name-eq-PATH_VCI.true

pub returns-else-name-eq-PATH_VCI : goal.returns-else-name-eq-PATH_VCI
returns-else-name-eq-PATH_VCI c = kind-channel _ _ c.if-member.false c.if-name-eq-PATH_VCI.false
