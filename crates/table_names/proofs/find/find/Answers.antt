use Rattle.table_names.proofs.Found.{found_here, found_nowhere}
use Rattle.table_names.proofs.find.find.Goals as goal

pub returns-then-i-ge-CAPACITY : goal.returns-then-i-ge-CAPACITY
returns-then-i-ge-CAPACITY c =
    let a = c in
    let d = c.wrapping_sub_u64-i in
    found_nowhere _ _ _ a.place-p.ensures _ d.ensures.value d.type_inv c.if-i-ge-CAPACITY.true

pub returns : goal.returns
returns c =
    let a = c in
    let d = c.wrapping_sub_u64-i in
    found_here _ _ _ a.place-p.ensures _ d.ensures.value a.ranges.name.fits c.if-i-ge-CAPACITY.false
