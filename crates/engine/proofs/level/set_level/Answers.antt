use mathlib.Core.Path.{◌∙◌, ap}
use mathlib.Core.List.{List}
use Prim.Native.Nat.{ℕ}
use lib.ListN.{set}
use Rattle.engine.proofs.Outcomes.{refused-out, accepted-out, level-word}
use Rattle.engine.proofs.CallCases.{level-over, level-set}
use Rattle.model.specs.State.{with_level}
use Rattle.engine.proofs.level.set_level.Goals as goal

pub returns-then-level-gt2 : goal.returns-then-level-gt2
returns-then-level-gt2 c = record { meets = λ s w e. refused-out s 9 e (level-over s c.args.level c.if-level-gt2.true) }

pub returns : goal.returns
returns c =
    let l : ℕ = c.args.level in
    record { meets = λ s w e. accepted-out 0 (with_level l s) (ap (λ (x : List ℕ). set x 0 l) e ∙ level-word s l) (level-set s l c.if-level-gt2.false) }
