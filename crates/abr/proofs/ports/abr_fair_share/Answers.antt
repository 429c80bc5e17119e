use mathlib.Core.Path.{ap, ◌∙◌}
use Rattle.abr_answers.specs.Shares.{share_of}
use Rattle.abr.proofs.ports.abr_fair_share.Goals as goal

pub returns : goal.returns
returns c = c.from.ensures ∙ ap share_of c.fair_share.ensures
