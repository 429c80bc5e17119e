use Rattle.table_tournament.proofs.Winning.{slot-winner-none, slot-winner-lost, slot-winner-entry}
use Prim.Native.Nat.{ℕ}
use borrow.Author.Rules.{rules}
use mathlib.Core.Path.{sym, subst}
use Rattle.std.specs.Prelude.{Some}
use Rattle.table_tournament.specs.SlotWinner.{FindsSlotWinner}
use Rattle.table_tournament.proofs.slot.slot_winner.Goals as goal

pub returns-then-first-time : goal.returns-then-first-time
returns-then-first-time c =
    let f = c in
    let st = f in
    record { inside = tt; picks = slot-winner-none st.args.t.now f.keyed_node-first.result f.keyed_node-first.ensures st.args.time st.requires c.if-first-time.true }

pub returns-then-levels_with-lt-WON_BELOW : goal.returns-then-levels_with-lt-WON_BELOW
returns-then-levels_with-lt-WON_BELOW c =
    let n = c in
    let x = n in
    let f = x in
    let st = f in record {
      inside = tt;
      picks = slot-winner-lost st.args.t.now f.keyed_node-first.result f.keyed_node-first.ensures st.args.time st.requires x.word_leaf-leaf.result n.levels_with.result
          x.word_leaf-leaf.ensures.0 x.word_leaf-leaf.ensures.1 n.levels_with.ensures (search rules) (search rules);
    }

pub returns : goal.returns
returns c =
    let x = c in
    let f = x in
    let st = f in record {
      inside = x.word_leaf-leaf.ensures.1;
      picks = subst (λ (i : ℕ). FindsSlotWinner st.args.t.now st.args.time (Some i)) (sym x.word_leaf-leaf.ensures.0)
          (slot-winner-entry st.args.t.now f.keyed_node-first.result f.keyed_node-first.ensures st.args.time st.requires (search rules));
    }
