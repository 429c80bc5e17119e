use Rattle.std.proofs.Common.{ℕ, subst}
use Rattle.connection_members.specs.Path.{path_of}
use Rattle.table_names.specs.Finding.{FindsName}
use Rattle.engine.proofs.Outcomes.{below}
use Rattle.engine.proofs.Members.{member_below}
use Rattle.engine_arrivals.specs.Owner.{FindsPath}
use Rattle.engine_arrivals.proofs.Owners.{far, no-path, its-path}
use Rattle.abr_readings.proofs.PlaceCases.{no-status, member-status}
use Rattle.abr_readings.proofs.place.member_place.Goals as goal

pub returns-then-name-ge-NO_NAME : goal.returns-then-name-ge-NO_NAME
returns-then-name-ge-NO_NAME c = let a = c.args in record { inside = tt; points = no-status a.t.now a.name (far a.t.now a.name c.if-name-ge-NO_NAME.true) }

pub returns-in_err-j : goal.returns-in_err-j
returns-in_err-j c =
    let a = c.args in
    rw c.from_residual.ensures (record { inside = tt; points = no-status a.t.now a.name (no-path a.t.now a.name c.find.ensures c.in_err-j.was) })

pub returns-in_err-i : goal.returns-in_err-i
returns-in_err-i c =
    let a = c.args in
    let path-search : FindsName a.t.now (path_of a.name) c.find-2.result = subst (λ (n : ℕ). FindsName a.t.now n c.find-2.result) c.path_of.ensures c.find-2.ensures in
    rw c.from_residual-in_err-i.ensures (record {
      inside = tt;
      points = no-status a.t.now a.name (subst (FindsPath a.t.now a.name) c.in_err-i.was (its-path a.t.now a.name c.find.ensures c.in_ok-j.was path-search));
    })

pub cells_at-requires : goal.cells_at-requires
cells_at-requires c = member_below c.find.ensures c.in_ok-j.was

pub returns : goal.returns
returns c =
    let a = c.args in
    let path-search : FindsName a.t.now (path_of a.name) c.find-2.result = subst (λ (n : ℕ). FindsName a.t.now n c.find-2.result) c.path_of.ensures c.find-2.ensures in
    record {
      inside = below a.t.now (path_of a.name) path-search c.in_ok-i.was;
      points = member-status a.t.now a.name c.find.ensures c.in_ok-j.was c.cells_at.ensures path-search c.in_ok-i.was c.kind_shown.ensures;
    }
