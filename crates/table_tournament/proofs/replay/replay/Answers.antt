use Prim.Native.Nat.{ℕ, ◌+◌}
use borrow.Author.Rules.{rules}
use native.Mathlib.Omega.{arith}
use mathlib.Core.Path.{◌≡◌, ap, subst, refl, ◌∙◌}
use Rattle.model.specs.State.{capacity}
use Rattle.model.specs.Tournament.{levels}
use Rattle.model.proofs.Places.{above-next, above-none}
use Rattle.table_tournament.specs.Replaying.{Replays}
use Rattle.table_tournament.specs.KeyedWinner.{word_mark, keyed_leaf}
use Rattle.table_tournament.proofs.Replaying.{starts, count-starts, stops, goes_on, count-goes-on, finishes-all, finishes}
use Rattle.table_tournament.proofs.replay.replay.Goals as goal

pub loop-n-init : goal.loop-n-init
loop-n-init c =
    let nb = c in
    let own = nb in
    let st = own in
    let a = st.args in (
      search rules,
      search rules,
      above-next 0 (capacity + a.leaf) (capacity + a.leaf) (above-none (capacity + a.leaf)),
      starts word_mark a.t.now a.leaf st.requires own.keyed_leaf-best.ensures (c.keyed_leaf-other.ensures ∙ ap (λ (x : ℕ). keyed_leaf a.t.now x 0) nb.neighbour-beside.ensures),
      count-starts a.t.now a.leaf,
    )

pub returns-then-t-b : goal.returns-then-t-b
returns-then-t-b c =
    let wn = c in
    let il = wn in
    let lp = il in
    let st = lp in
    stops st.args.t.now lp.loop-n.t st.args.leaf lp.loop-n.n lp.loop-n.place lp.loop-n.best lp.loop-n.other wn.winner_of-best.result st.requires il.loop-n-test.true
    lp.loop-n.invariant.2 wn.winner_of-best.ensures lp.loop-n.invariant.3 lp.loop-n.invariant.4 c.if-t-b.true

pub loop-n-preserved : goal.loop-n-preserved
loop-n-preserved c =
    let wn = c in
    let nd = wn in
    let nb = nd in
    let lp = nb in
    let st = lp in (
      search rules,
      search rules,
      above-next (lp.loop-n.n + 1) (capacity + st.args.leaf) lp.loop-n.place lp.loop-n.invariant.2,
      goes_on st.args.t.now lp.loop-n.t st.args.leaf lp.loop-n.n lp.loop-n.place lp.loop-n.best lp.loop-n.other wn.winner_of-best.result st.requires (search rules)
          lp.loop-n.invariant.2 wn.winner_of-best.ensures lp.loop-n.invariant.3 _ nd.keyed_node-next.result nb.neighbour-beside-in-loop-n.result nb.neighbour-beside-in-loop-n.ensures refl nd.keyed_node-next.ensures,
      count-goes-on st.args.t.now lp.loop-n.t st.args.leaf lp.loop-n.n lp.loop-n.place lp.loop-n.best lp.loop-n.other wn.winner_of-best.result st.requires (search rules)
          lp.loop-n.invariant.2 wn.winner_of-best.ensures lp.loop-n.invariant.3 lp.loop-n.invariant.4 c.if-t-b.false,
    )

pub returns : goal.returns
returns c =
    let lp = c in
    let st = lp in
    let all : lp.loop-n.n ≡ levels = omega arith in
    subst (Replays st.args.t.now lp.loop-n.t st.args.leaf) all
    (finishes st.args.t.now lp.loop-n.t st.args.leaf lp.loop-n.n (search rules)
    (finishes-all word_mark st.args.t.now lp.loop-n.t st.args.leaf lp.loop-n.n lp.loop-n.best lp.loop-n.other (search rules) lp.loop-n.invariant.3) lp.loop-n.invariant.4)
