use borrow.Author.Rules.{rules}
use native.Mathlib.Omega.{arith}
use Rattle.table_tournament.proofs.Levels.{looked-other, looked-same, looked-all}
use Rattle.table_tournament.proofs.replay.levels_with.Goals as goal

pub returns-then-t-place : goal.returns-then-t-place
returns-then-t-place c =
    let lp = c in
    let a = lp.args in
    looked-other a.t.now a.leaf _ a.most lp.loop-n.n lp.loop-n.place lp.loop-n.invariant.2 (search rules) c.if-t-place.true

pub loop-n-preserved : goal.loop-n-preserved
loop-n-preserved c =
    let lp = c in
    let a = lp.args in
    (search rules, omega arith, looked-same a.t.now a.leaf _ a.most lp.loop-n.n lp.loop-n.place lp.loop-n.invariant.2 (search rules) c.if-t-place.false)

pub returns : goal.returns
returns c =
    let lp = c in
    let a = lp.args in
    let e = looked-all a.t.now a.leaf _ a.most lp.loop-n.n lp.loop-n.place lp.loop-n.invariant.2 (search rules) in
    omega (arith, e)
