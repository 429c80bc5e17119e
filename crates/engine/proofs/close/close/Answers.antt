use Prim.Native.Nat.{◌<◌}
use Rattle.model.specs.State.{capacity}
use Rattle.engine.proofs.Outcomes.{unfound, refused-out, below, missing, entry-located}
use Rattle.engine.proofs.CallCases.{close-missing, close-out}
use Rattle.engine.proofs.close.close.Goals as goal

pub returns-in_err-i : goal.returns-in_err-i
returns-in_err-i c =
    let f = c in
    let v = f.args.name in
    record { meets = λ s w e. rw (unfound c.from_residual.ensures.1 c.in_err-i.ensures.ok_part c.in_err-i.ensures.value) (refused-out s 11 e (close-missing s v (missing s w e v f.find.ensures c.in_err-i.ensures.ok_part))) }

pub load-c-requires : goal.load-c-requires
load-c-requires c =
    let entry : c.in_ok-i.i < capacity = let f = c in below f.args.t.now f.args.name f.find.ensures c.in_ok-i.ensures.ok_part in
    entry

pub clear-comparisons-requires : goal.clear-comparisons-requires
clear-comparisons-requires c =
    let entry : c.in_ok-i.i < capacity = let f = c in below f.args.t.now f.args.name f.find.ensures c.in_ok-i.ensures.ok_part in
    entry

pub returns : goal.returns
returns c =
    let entry : c.in_ok-i.i < capacity = let f = c in below f.args.t.now f.args.name f.find.ensures c.in_ok-i.ensures.ok_part in
    let cl = c in
    let ld = cl in
    let i = ld in
    let f = i in
    record {
      meets = λ s w e.
          let p = entry-located s w e f.args.name f.find.ensures i.in_ok-i.ensures.ok_part in
          close-out s w e (entry) p ld.load-c.ensures cl.clear-comparisons.ensures c.remove_path.ensures;
    }
