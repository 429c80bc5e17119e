use Rattle.model.specs.Queries.{entry_contract, contract_of}
use Rattle.engine.proofs.Outcomes.{below}
use Rattle.engine.proofs.CallCases.{reads-missing, reads-found}
use Rattle.engine.proofs.contract.read_contract.Goals as goal

pub returns-in_err-i : goal.returns-in_err-i
unfolding contract_of entry_contract
returns-in_err-i c = let f = c in rw c.from_residual.ensures (reads-missing entry_contract f.args.t.now f.args.name f.find.ensures c.in_err-i.was)

pub load-c-requires : goal.load-c-requires
load-c-requires c = let f = c in below f.args.t.now f.args.name f.find.ensures c.in_ok-i.was

pub returns : goal.returns
unfolding contract_of entry_contract
returns c =
    let i = c in
    let f = i in
    reads-found entry_contract f.args.t.now f.args.name f.find.ensures i.in_ok-i.was c.load-c.ensures
