use Rattle.table_entry.proofs.record.put_rest.Goals as goal

pub returns : goal.returns
returns c =
    rw (c.put_turned.ensures, c.put_opened.ensures, c.put_source.ensures, c.instant_word-out_of_rate.ensures, c.destination_word-tag.ensures, c.identity_word-identity.ensures)
