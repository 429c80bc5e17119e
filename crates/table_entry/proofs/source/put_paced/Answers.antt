use Rattle.table_entry.proofs.source.put_paced.Goals as goal

pub returns : goal.returns
returns c =
    let p = c.pace_words-p.ensures in rw (p.0, p.1, p.2, c.queue_word-waiting.ensures)
