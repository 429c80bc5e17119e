use Rattle.std.proofs.Common.{rules}
use Rattle.table_names.proofs.Directories.{names-column}
use Rattle.table_members.proofs.Packed.{members-column}
use Rattle.abr_readings.proofs.TotalCases.{totals-are}
use Rattle.abr_readings.proofs.totals.read_totals.Goals as goal

pub returns : goal.returns
returns c =
    let n = c in
    let m = n in
    totals-are m.args.t.now m.count-connections.ensures n.count-members.ensures

pub count-connections-requires : goal.count-connections-requires
count-connections-requires c = search (rules, names-column)

pub count-members-requires : goal.count-members-requires
count-members-requires c = search (rules, members-column)
