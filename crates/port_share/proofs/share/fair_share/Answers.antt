-- The tests that led to each return say which case of the definition holds.
use mathlib.Core.Path.{◌≡◌, sym, ◌∙◌}
use Prim.Native.Nat.{◌<◌}
use native.Mathlib.Omega.{arith}
use Rattle.rate.specs.Units.{largest_rate}
use Rattle.port_share.specs.Demands.{cut_sum}
use Rattle.port_share.specs.Above.{above}
use Rattle.port_share.proofs.Cases.{too_many, too-high, no-limit, ranged, over, limited}
use Rattle.port_share.proofs.share.fair_share.Goals.{Else-whole-capacity}
use Rattle.port_share.proofs.share.fair_share.Goals as goal

-- and so the cut at the largest rate is the plain sum, which does not fit
above-capacity : (c : Else-whole-capacity) → let a = c.args in a.capacity < cut_sum largest_rate a.demands.now
above-capacity c = omega (arith, c.pass-whole.ensures.0, c.if-whole-capacity.false)

pub returns-then-demands-gt1024 : goal.returns-then-demands-gt1024
returns-then-demands-gt1024 c = let a = c.args in too_many a.capacity a.demands.now c.if-demands-gt1024.true

pub returns-then-whole-ne0 : goal.returns-then-whole-ne0
returns-then-whole-ne0 c =
    let p = c in
    let a = p.args in
    too-high a.capacity a.demands.now p.if-demands-gt1024.false (λ z. c.if-whole-ne0.true (p.pass-whole.ensures.1 ∙ z))

pub returns-then-whole-capacity : goal.returns-then-whole-capacity
returns-then-whole-capacity c =
    let none : above largest_rate c.args.demands.now ≡ 0 = sym c.pass-whole.ensures.1 ∙ c.if-whole-ne0.false in
    let d = c in
    let p = d in
    let a = p.args in
    no-limit a.capacity a.demands.now p.if-demands-gt1024.false (none) (omega (arith, p.pass-whole.ensures.0, c.if-whole-capacity.true))

pub greatest-requires : goal.greatest-requires
greatest-requires c =
    let none : above largest_rate c.args.demands.now ≡ 0 = sym c.pass-whole.ensures.1 ∙ c.if-whole-ne0.false in
    let d = c in
    let p = d in
    let a = p.args in
    let few = p.if-demands-gt1024.false in
    (few, (ranged a.capacity a.demands.now few (none), over a.capacity a.demands.now few (none) (above-capacity c)))

pub returns : goal.returns
returns c =
    let none : above largest_rate c.args.demands.now ≡ 0 = sym c.pass-whole.ensures.1 ∙ c.if-whole-ne0.false in
    let above-capacity : let a = c.args in a.capacity < cut_sum largest_rate a.demands.now = omega (arith, c.pass-whole.ensures.0, c.if-whole-capacity.false) in
    let e = c in
    let d = e in
    let p = d in
    let a = p.args in
    limited a.capacity a.demands.now p.if-demands-gt1024.false (none) (above-capacity) c.greatest.ensures
