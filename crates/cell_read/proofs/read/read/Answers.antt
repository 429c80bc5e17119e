-- The tests that led to each return say what is read.
use Rattle.std.proofs.Common.{refl, sym, ap, ◌∙◌}
use Rattle.std.proofs.lemmas.Result.{err_from_is_err_and}
use Rattle.cell.specs.Read.{RmCell}
use Rattle.cell.proofs.Readings.{data-same}
use Rattle.cell_read.proofs.Cases.{first-read, judged-data, judged-rest, rest-read}
use Rattle.cell_read.proofs.read.read.Goals as goal

pub returns-in_err-cell : goal.returns-in_err-cell
returns-in_err-cell c =
    let p = err_from_is_err_and c.from_residual.result c.from_residual.ensures.1 in
    rw (p.1, p.2) (first-read _ _ c.in_err-cell.ensures)

pub returns-then-is_data : goal.returns-then-is_data
returns-then-is_data c =
    let t = sym c.is_data.ensures ∙ c.if-is_data.true in
    rw (sym c.in_ok-cell.ensures.0)
    (data-same c.vpi_of.ensures c.vci_of.ensures c.efci_of.ensures ∙ sym ((judged-data _ c.in_ok-cell.ensures.1 t).data_cell refl t))

pub returns-in_err-rm_refusal : goal.returns-in_err-rm_refusal
returns-in_err-rm_refusal c =
    let p = err_from_is_err_and c.from_residual-in_err-rm_refusal.result c.from_residual-in_err-rm_refusal.ensures.1 in
    rw (p.1, p.2, sym c.in_ok-cell.ensures.0)
    (rest-read _ c.in_ok-cell.ensures.1 (sym c.is_data.ensures ∙ c.if-is_data.false) _ c.in_err-rm_refusal.ensures)

pub returns : goal.returns
returns c =
    let f = sym c.is_data.ensures ∙ c.if-is_data.false in
    rw (sym c.in_ok-cell.ensures.0)
    (ap RmCell c.fields_of.ensures ∙ sym ((judged-rest _ c.in_ok-cell.ensures.1 f _ c.in_ok-rm_refusal.ensures).rm refl f))
