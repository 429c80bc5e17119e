use mathlib.Core.Path.{ap, ◌∙◌}
use native.Mathlib.Omega.{arith}
use borrow.Author.Rules.{rules}
use Rattle.cell.specs.Fields.{rm_cell}
use Rattle.engine_slots.proofs.send.put_forward.Goals as goal

pub put_rm-requires : goal.put_rm-requires
put_rm-requires c = (search rules, c.forward_fields.ensures.fits (omega arith))

pub returns : goal.returns
returns c =
    let p = c in
    record { is = λ h. p.put_rm.ensures ∙ ap (rm_cell p.args.clp) (p.forward_fields.ensures.meant h) }
