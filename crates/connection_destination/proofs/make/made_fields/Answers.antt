use Rattle.connection.proofs.DestinationCases.{made-carried}
use Rattle.connection_destination.proofs.make.made_fields.Goals as goal

pub returns : goal.returns
returns c = let a = c.args in made-carried a.name a.params a.level c.from.ensures c.from-2.ensures c.canonical.ensures
