use mathlib.Core.Path.{◌≡◌, refl}
use mathlib.Core.Bool.{Bool, true, false, not}
use Rattle.std.specs.Prelude.{is_some, Some, None}
use Rattle.connection.specs.Parts.{Waiting}
use Rattle.model.specs.Details.{none_turned}
use Rattle.engine.proofs.Outcomes.{ranged}
use Rattle.engine_slots.proofs.SendCases.{loaded-named, turned-in-range, turned-out}
use borrow.Author.Rules.{rules}
use Rattle.engine_slots.proofs.send.send_turned.Goals as goal

none-turned : (w : Waiting) {b : Bool} → is_some w ≡ not b → b ≡ none_turned w
none-turned None {b = true} e = refl
none-turned None {b = false} e = e
none-turned (Some p) {b = true} e = e
none-turned (Some p) {b = false} e = refl

pub sent_turned-next-requires : goal.sent_turned-next-requires
sent_turned-next-requires c =
    ranged c.args.t.now c.args.i c.load-c.ensures

pub put_backward-requires : goal.put_backward-requires
put_backward-requires c =
    let st = c in loaded-named st.args.t.now st.args.i c.load-c.ensures

pub update_winner-requires : goal.update_winner-requires
update_winner-requires c =
    let st = c in (st.requires.0, turned-in-range st.args.time st.args.t.now st.args.i c.load-c.ensures c.sent_turned-next.ensures st.requires.1)

pub returns : goal.returns
returns c =
    let a = c.args in
    record {
      sends = λ s x f e kind.
          turned-out s a.time a.i x f e c.requires.0 c.load-c.result c.load-c.ensures a.cell.now c.put_backward.new.cell c.sent_turned-next.result c.sent_turned-next.ensures c.put_backward.ensures c.update_winner.ensures
          c.is_none.result (none-turned c.load-c.result.destination.turned c.is_none.ensures) kind;
    }
