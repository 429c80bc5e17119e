use Rattle.table_entry.proofs.record.put_opened.Goals as goal

pub returns : goal.returns
returns c =
    rw (c.halves-rates.ensures, c.halves-starts.ensures, c.halves-setup.ensures, c.factors_word-factors.ensures)
