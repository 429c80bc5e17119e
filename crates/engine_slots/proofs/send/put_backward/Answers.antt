use mathlib.Core.Path.{sym, ap, ◌∙◌}
use borrow.Author.Rules.{rules}
use Rattle.cell.specs.Fields.{rm_cell}
use Rattle.connection.specs.Destination.{backward_cell}
use Rattle.connection.specs.Parts.{Waiting}
use Rattle.engine_slots.proofs.send.put_backward.Goals as goal

pub put_rm-requires : goal.put_rm-requires
put_rm-requires c = (search rules, c.made_fields.ensures.1 c.requires)

pub returns-in-None : goal.returns-in-None
unfolding backward_cell
returns-in-None c =
    let p = c in
    let k = p in
    let a = k.args in
    p.put_rm.ensures ∙ ap (rm_cell 0) p.made_fields.ensures.0
    ∙ ap (λ (w : Waiting). backward_cell a.name a.params w a.level) (sym k.in-None.is)

pub returns-in-Some : goal.returns-in-Some
unfolding backward_cell
returns-in-Some c =
    let p = c in
    let k = p in
    let a = k.args in
    p.put_turned.ensures ∙ ap (λ (w : Waiting). backward_cell a.name a.params w a.level) (sym k.in-Some.is)
