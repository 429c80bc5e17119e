use mathlib.Core.Path.{ap, ◌∙◌}
use Rattle.std.specs.Prelude.{Result}
use Rattle.laws.specs.declared.refusals.Refusal.{Refusal}
use Rattle.laws.specs.Refusals.{refusal_or_0}
use Rattle.cell.specs.Fields.{rm_cell}
use Rattle.cell.specs.Writing.{buffer_written}
use Rattle.abr.proofs.cells.abr_write_rm.Goals as goal

pub returns : goal.returns
returns c =
    let w = c in
    let a = w.args in (
      c.refusal_or_0.ensures ∙ ap refusal_or_0 w.write.ensures.0,
      w.write.ensures.1 ∙ ap (λ (x : Result Unit Refusal). buffer_written x (rm_cell 0 a.rm) a.cell.now) w.write.ensures.0,
    )
