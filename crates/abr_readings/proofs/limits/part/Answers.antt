use Rattle.abr_readings.proofs.LimitCases.{part-is}
use Rattle.abr_readings.proofs.limits.part.Goals as goal

pub returns : goal.returns
returns c =
    let b = c in
    part-is _ _ _ _ b.ranges.x.fits b.wrapping_sub_u32-last.type_inv b.wrapping_sub_u32-last.ensures.value c.wrapping_add_u32.ensures.value
