use mathlib.Core.Path.{sym, ap}
use Rattle.table.specs.Layout.{pace_sent, pace_forward, pace_word}
use Rattle.table_entry.proofs.source.pace_words.Goals as goal

pub returns-in-Unsent : goal.returns-in-Unsent
returns-in-Unsent c =
    let e = sym c.in-Unsent.is in (ap pace_sent e, ap pace_forward e, ap pace_word e)

pub returns-in-Running : goal.returns-in-Running
returns-in-Running c =
    let e = sym c.in-Running.is in (ap pace_sent e, ap pace_forward e, rw (c.halves.ensures, c.running_tag.ensures) (ap pace_word e))
