use mathlib.Core.Path.{ap, ◌∙◌}
use Rattle.abr_answers.specs.Calls.{refusal_alone, answer_of}
use Rattle.abr.proofs.Answered.{returned, refused_alone}
use Rattle.abr.proofs.link.abr_set_level.Goals as goal

pub returns : goal.returns
returns c = returned answer_of (ap refusal_alone c.refusal_or_0.ensures ∙ refused_alone _) c.set_level.ensures
