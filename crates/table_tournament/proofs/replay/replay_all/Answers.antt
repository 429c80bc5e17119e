use Prim.Native.Nat.{ℕ, ◌+◌}
use borrow.Author.Rules.{rules}
use mathlib.Core.Path.{ap, refl, ◌∙◌}
use Rattle.model.specs.State.{capacity}
use Rattle.model.proofs.Places.{above-next, above-none}
use Rattle.table_tournament.specs.KeyedWinner.{keyed_leaf}
use Rattle.table_tournament.proofs.Replaying.{starts, goes-on-all, finishes-all}
use Rattle.table_tournament.proofs.replay.replay_all.Goals as goal

pub loop-init : goal.loop-init
loop-init c =
    let nb = c in
    let own = nb in
    let st = own in
    let a = st.args in (
      search rules,
      search rules,
      above-next 0 (capacity + a.leaf) (capacity + a.leaf) (above-none (capacity + a.leaf)),
      starts 0 a.t.now a.leaf st.requires own.keyed_leaf-best.ensures (c.keyed_leaf-other.ensures ∙ ap (λ (x : ℕ). keyed_leaf a.t.now x 0) nb.neighbour-beside.ensures),
    )

pub loop-preserved : goal.loop-preserved
loop-preserved c =
    let nd = c in
    let nb = nd in
    let lp = nb in
    let st = lp in (
      search rules,
      search rules,
      above-next (lp.loop.counter + 1) (capacity + st.args.leaf) lp.loop.place lp.loop.invariant.2,
      goes-on-all st.args.t.now lp.loop.t st.args.leaf lp.loop.counter lp.loop.place lp.loop.best lp.loop.other c.winner_of-best.result st.requires (search rules)
          lp.loop.invariant.2 c.winner_of-best.ensures lp.loop.invariant.3 _ nd.keyed_node-next.result nb.neighbour-beside-in-loop.result nb.neighbour-beside-in-loop.ensures refl nd.keyed_node-next.ensures,
    )

pub returns : goal.returns
returns c =
    let lp = c in
    let st = lp in
    finishes-all 0 st.args.t.now lp.loop.t st.args.leaf lp.loop.counter lp.loop.best lp.loop.other (search rules) lp.loop.invariant.3
