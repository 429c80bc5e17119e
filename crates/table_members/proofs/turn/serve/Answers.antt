use Rattle.table_members.proofs.Turns.{served-none, served-one}
use Rattle.table_members.proofs.turn.serve.Goals as goal

pub returns-in-None : goal.returns-in-None
returns-in-None c = let f = c in served-none _ _ _ _ f.turn.ensures c.in-None.is

pub returns-in-Some : goal.returns-in-Some
returns-in-Some c = let i = c in let f = i in served-one _ _ _ _ f.turn.ensures _ i.in-Some.is
