use native.Mathlib.Omega.{arith}
use Rattle.cell_crc.proofs.Octets.{sum_lt, product_lt, remainder8-is}
use Rattle.cell_crc.proofs.header.remainder8.Goals as goal

pub times-product-requires : goal.times-product-requires
times-product-requires c = let s = c in sum_lt s.args.v s.requires c.times_square-above.ensures

pub times-requires : goal.times-requires
times-requires c =
    let s = c in
    let l = product_lt s.args.v s.requires c.times_square-above.ensures c.times-product.ensures in
    omega (arith, l)

pub returns : goal.returns
returns c =
    let s = c in
    remainder8-is s.args.v s.requires c.times_square-above.ensures c.times-product.ensures c.times.ensures

pub overflow_cast-result : goal.overflow_cast-result
overflow_cast-result c = record { fits = omega arith }
