use Prim.Native.Nat.{◌+◌, ◌/◌, ◌≤◌, ◌<◌}
use native.Mathlib.Omega.{arith}
use borrow.Author.Rules.{rules}
use Rattle.rate.specs.Units.{largest_rate}
use Rattle.port_share.proofs.Rises.{passes-first, divides, tried-le, ends-tried, passes-next, ends-passes}
use Rattle.port_share.proofs.share.greatest.Goals.{In-loop}
use Rattle.port_share.proofs.share.greatest.Goals as goal

-- some demand is above what fits
positive : (c : In-loop) → 0 < c.loop.above
positive c = let b = c in divides b.args.capacity b.args.demands.now b.requires.1.1 c.loop.invariant

-- and what is tried is no more than the largest rate
bounded : (c : In-loop) → c.loop.s + c.loop.left / c.loop.above + 1 ≤ largest_rate
bounded c = let b = c in tried-le b.args.capacity b.args.demands.now b.requires.1.1 c.loop.invariant b.requires.1.0

pub loop-init : goal.loop-init
loop-init c = let b = c in passes-first b.args.capacity b.args.demands.now b.requires.0 b.requires.1.0 b.requires.1.1

pub nonzero_div-tried : goal.nonzero_div-tried
nonzero_div-tried c = positive c

pub overflow_add-tried : goal.overflow_add-tried
overflow_add-tried c = omega (arith, bounded c)

pub overflow_add-tried-in-loop : goal.overflow_add-tried-in-loop
overflow_add-tried-in-loop c = omega (arith, bounded c)

pub pass-p-requires : goal.pass-p-requires
pass-p-requires c = (c.requires.0, bounded c)

pub overflow_sub-result : goal.overflow_sub-result
overflow_sub-result c = omega arith

pub returns-then-capacity-p : goal.returns-then-capacity-p
returns-then-capacity-p c =
    let l = c in
    let b = l in
    ends-tried b.args.capacity b.args.demands.now b.requires.1.1 l.loop.invariant b.requires.1.0 c.pass-p.ensures.0 c.if-capacity-p.true

pub loop-preserved : goal.loop-preserved
loop-preserved c =
    let p = c in
    let l = p in
    let b = l in
    passes-next b.args.capacity b.args.demands.now b.requires.1.1 l.loop.invariant (search rules) p.pass-p.ensures.0 p.pass-p.ensures.1 (search rules)

pub returns : goal.returns
returns c =
    let b = c in
    ends-passes b.args.capacity b.args.demands.now b.requires.1.1 c.loop.invariant b.requires.1.0 (search rules)
