use Rattle.model.specs.Queries.{entry_acr, acr_of}
use Rattle.engine.proofs.Outcomes.{below}
use Rattle.engine.proofs.CallCases.{reads-missing, reads-found}
use Rattle.engine.proofs.acr.read_acr.Goals as goal

pub returns-in_err-i : goal.returns-in_err-i
unfolding acr_of entry_acr
returns-in_err-i c = let f = c in rw c.from_residual.ensures (reads-missing entry_acr f.args.t.now f.args.name f.find.ensures c.in_err-i.was)

pub load-c-requires : goal.load-c-requires
load-c-requires c = let f = c in below f.args.t.now f.args.name f.find.ensures c.in_ok-i.was

pub returns : goal.returns
unfolding acr_of entry_acr
returns c =
    let d = c in
    let i = d in
    let f = i in
    reads-found entry_acr f.args.t.now f.args.name f.find.ensures i.in_ok-i.was d.load-c.ensures
