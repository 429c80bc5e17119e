use mathlib.Core.Path.{◌≡◌, refl, sym, ◌∙◌}
use mathlib.Core.Bool.{true}
use lib.Dec.{leb}
use borrow.Author.Rules.{rules}
use Rattle.cell.specs.Header.{type_of}
use Rattle.cell.specs.Reading.{reading}
use Rattle.cell.proofs.Admits.{received-checked}
use Rattle.cell.proofs.Readings.{data-same}
use Rattle.cell_read.proofs.Cases.{judged-data}
use Rattle.engine.proofs.Outcomes.{refused-with}
use Rattle.engine_arrivals.proofs.ReceiveCases.{receive-refused, read_meets, unread, unread-header, unread-rest, fields-read, data-read, rm-read}
use Rattle.engine_arrivals.proofs.receive.receive.Goals as goal

pub returns-in_err-cell : goal.returns-in_err-cell
returns-in_err-cell c = record {
  meets = λ s w e.
      rw (refused-with c.from_residual.ensures.1)
      (receive-refused (reading c.args.cell.now) s _ e (unread s _ _ (unread-header _ c.in_err-cell.field-0.0 c.in_err-cell.ensures)));
}

pub returns-then-is_data : goal.returns-then-is_data
returns-then-is_data c =
    let o = c.in_ok-cell.cell.now in
    let t : leb (type_of o) 3 ≡ true = sym c.is_data.ensures ∙ c.if-is_data.true in
    let q = (judged-data _ c.in_ok-cell.ensures.1 t).data_cell refl t ∙ sym (data-same c.vpi_of.ensures c.vci_of.ensures c.efci_of.ensures) in
    rw (sym c.in_ok-cell.ensures.0) (read_meets o q (data-read _ c.vpi_of.result c.vci_of.result c.efci_of.result q) c.receive_data.ensures)

pub returns-in_err-rm_refusal : goal.returns-in_err-rm_refusal
returns-in_err-rm_refusal c = record {
  meets = λ s w e.
      rw (refused-with c.from_residual-in_err-rm_refusal.ensures.1, sym c.in_ok-cell.ensures.0)
      (receive-refused (reading c.in_ok-cell.cell.now) s _ e
      (unread s _ _
      (unread-rest _ c.in_ok-cell.ensures.1 (sym c.is_data.ensures ∙ c.if-is_data.false) c.in_err-rm_refusal.field-0.0 c.in_err-rm_refusal.ensures)));
}

pub receive_rm-requires : goal.receive_rm-requires
receive_rm-requires c =
    let read = fields-read _ c.in_ok-cell.ensures.1 (sym c.is_data.ensures ∙ c.if-is_data.false) c.in_ok-rm_refusal.ensures c.fields_of.ensures in
    received-checked _ c.fields_of.result read (record { each = λ i. search rules }) refl

pub returns : goal.returns
returns c =
    let read = fields-read _ c.in_ok-cell.ensures.1 (sym c.is_data.ensures ∙ c.if-is_data.false) c.in_ok-rm_refusal.ensures c.fields_of.ensures in
    rw (sym c.in_ok-cell.ensures.0) (read_meets _ read (rm-read _ c.fields_of.result read) c.receive_rm.ensures)
