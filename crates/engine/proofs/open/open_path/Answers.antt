use mathlib.Core.Path.{refl}
use Rattle.model.specs.Step.{open_path_step}
use Rattle.engine.proofs.Outcomes.{same_meets}
use Rattle.engine.proofs.open.open_path.Goals as goal

pub returns : goal.returns
unfolding open_path_step
returns c = same_meets (λ s. refl) c.open_address.ensures
