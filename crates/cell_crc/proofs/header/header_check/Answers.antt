use Rattle.cell_crc.proofs.Octets.{sum-of-pairs-lt, header_is}
use Rattle.cell_crc.proofs.header.header_check.Goals as goal

pub remainder8-requires : goal.remainder8-requires
remainder8-requires c =
    let s = c in
    sum-of-pairs-lt s.args.a s.args.b s.args.c s.args.d s.ranges.a.fits s.ranges.b.fits s.ranges.c.fits s.ranges.d.fits
    c.times_square-first.ensures

pub returns : goal.returns
returns c =
    let s = c in
    header_is s.args.a s.args.b s.args.c s.args.d s.ranges.a.fits s.ranges.b.fits s.ranges.c.fits s.ranges.d.fits
    c.times_square-first.ensures c.remainder8.ensures
