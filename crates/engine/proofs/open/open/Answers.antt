use Rattle.engine.proofs.Outcomes.{same_meets}
use Rattle.engine.proofs.OpenCases.{open-refused, open-low, open-high}
use Rattle.engine.proofs.open.open.Goals as goal

pub returns-then-vci-lt-FIRST_VCI : goal.returns-then-vci-lt-FIRST_VCI
returns-then-vci-lt-FIRST_VCI c =
    let a = c.args in
    record { meets = λ s w e. open-refused s 10 e (open-low s a.vpi a.vci a.time a.params c.if-vci-lt-FIRST_VCI.true) }

pub returns : goal.returns
returns c =
    let e1 = c in
    let a = e1.args in
    same_meets (λ s. open-high s a.vpi a.vci a.time a.params e1.if-vci-lt-FIRST_VCI.false) c.open_address.ensures
