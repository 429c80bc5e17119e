use Rattle.std.proofs.Common.{arith}
use Rattle.table_names.proofs.Leaving.{unfiles}
use Rattle.table_names.proofs.filing.unfile.Goals as goal

pub returns : goal.returns
returns c =
    let e = c in
    let p = e in
    unfiles _ _ _ _ _ _ (omega (arith, p.directory_word.ensures)) (omega arith) p.place-p.ensures e.leave.ensures c.shift_down.ensures
