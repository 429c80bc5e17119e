use mathlib.Core.Path.{sym, subst}
use lib.Dec.{T}
use lib.Ieee.{binary64, fits}
use Rattle.abr.proofs.Planned.{imports}
use Rattle.abr.proofs.planning.abr_import.Goals as goal

pub returns : goal.returns
returns c =
    let held : T (fits binary64 c.args.rate) = subst T (sym c.well_formed.0.1) tt in
    imports c.args.rate (held) c.import.ensures c.from.ensures
