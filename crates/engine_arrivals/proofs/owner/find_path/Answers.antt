use Prim.Native.Nat.{ℕ}
use mathlib.Core.Path.{subst}
use Rattle.table_names.specs.Finding.{FindsName}
use Rattle.engine_arrivals.proofs.Owners.{far, no-path, its-path}
use Rattle.engine_arrivals.proofs.owner.find_path.Goals as goal

pub returns-then-name-ge-NO_NAME : goal.returns-then-name-ge-NO_NAME
returns-then-name-ge-NO_NAME c = let a = c.args in far a.t.now a.name c.if-name-ge-NO_NAME.true

pub returns-in_err-find : goal.returns-in_err-find
returns-in_err-find c =
    let m = c in
    let a = m.args in
    rw c.from_residual.ensures (no-path a.t.now a.name m.find.ensures c.in_err-find.was)

pub returns : goal.returns
returns c =
    let p = c in
    let told = p in
    let m = told in
    let a = m.args in
    its-path a.t.now a.name m.find.ensures told.in_ok-find.was (subst (λ (n : ℕ). FindsName a.t.now n c.find-2.result) p.path_of.ensures c.find-2.ensures)
