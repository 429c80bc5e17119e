use Rattle.std.proofs.Common.{◌*◌, lit≤}
use Rattle.table.specs.Layout.{groups, finer_from, directory_from}
use Rattle.table_names.proofs.Places.{samples-place, eight-words, block_inside, finds-place}
use Rattle.table_names.proofs.directory.place.Goals as goal

pub at_least_from-block-requires : goal.at_least_from-block-requires
at_least_from-block-requires c = eight-words finer_from _ groups c.at_least-group.ensures.inside (lit≤ tt)

pub at_least_from-requires : goal.at_least_from-requires
at_least_from-requires c =
    let g = c.at_least-group.ensures in
    let b = c.at_least_from-block.ensures in
    eight-words directory_from _ (8 * groups) (block_inside _ _ g.inside b.0 b.1.inside) (lit≤ tt)

pub returns : goal.returns
returns c =
    finds-place _ _ _ _ _ c.at_least-group.ensures c.at_least_from-block.ensures c.at_least_from.ensures

pub at_least-group-requires : goal.at_least-group-requires
at_least-group-requires c = samples-place
