use Rattle.table_entry.proofs.source.put_source.Goals as goal

pub returns : goal.returns
returns c =
    rw c.put_paced.ensures
