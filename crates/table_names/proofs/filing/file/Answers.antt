use Rattle.std.proofs.Common.{arith}
use Rattle.table_names.proofs.Entering.{files}
use Rattle.table_names.proofs.filing.file.Goals as goal

pub returns : goal.returns
returns c =
    let e = c in
    let p = e in
    files _ _ _ _ _ _ _ p.directory_word-word.ensures (omega arith) p.place-p.ensures e.enter-out.ensures c.shift_up.ensures
