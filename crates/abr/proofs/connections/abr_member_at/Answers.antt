use Rattle.abr_answers.specs.Status.{member_shown}
use Rattle.abr.proofs.Answered.{read_as}
use Rattle.abr.proofs.connections.abr_member_at.Goals as goal

pub returns : goal.returns
returns c = read_as member_shown c.from.ensures c.read_member_at.ensures
