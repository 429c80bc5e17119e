-- The tests that led to each return say what is read.
use Rattle.std.proofs.Common.{sym, ◌∙◌}
use Rattle.std.proofs.lemmas.Result.{err_from_is_err_and}
use Rattle.cell_read.proofs.Cases.{judged-first, judged-data, judged-rest}
use Rattle.cell_read.proofs.read.refusal.Goals as goal

pub returns-in_err-cell : goal.returns-in_err-cell
returns-in_err-cell c =
    let p = err_from_is_err_and c.from_residual.result c.from_residual.ensures.1 in
    rw (p.1, p.2) (judged-first _ _ c.in_err-cell.ensures)

pub returns-then-is_data : goal.returns-then-is_data
returns-then-is_data c =
    rw (sym c.in_ok-cell.ensures.0) (judged-data _ c.in_ok-cell.ensures.1 (sym c.is_data.ensures ∙ c.if-is_data.true))

pub returns : goal.returns
returns c =
    rw (sym c.in_ok-cell.ensures.0)
    (judged-rest _ c.in_ok-cell.ensures.1 (sym c.is_data.ensures ∙ c.if-is_data.false) _ c.rm_refusal.ensures)
