use Prim.Native.Nat.{◌^◌, ◌<◌}
use native.Mathlib.Omega.{arith}
use lib.Dec.{lit<}
use Rattle.cell_crc.specs.Folding.{wide}
use Rattle.cell_crc.proofs.Limbs.{fold36-fits, fold36-is}
use Rattle.cell_crc.proofs.Trinomial.{word36-is}
use Rattle.cell_crc.proofs.crc10.word36.Goals as goal

pub overflow_mul-h : goal.overflow_mul-h
overflow_mul-h c =
    let p = c.args.p in
    record { fits = (fold36-fits p.e 0 (fold36-is p.a p.b p.c p.d p.e p.f c.requires).1 (lit< tt)).0 }

pub overflow_add-h : goal.overflow_add-h
overflow_add-h c =
    let p = c.args.p in
    let h : p.f < 2 ^ 64 = omega (arith, c.struct_known-2-1.given) in
    record { fits = (fold36-fits p.e p.f (fold36-is p.a p.b p.c p.d p.e p.f c.requires).1 h).1 }

pub overflow_mul-result : goal.overflow_mul-result
overflow_mul-result c =
    let p = c.args.p in
    let h : p.f < 2 ^ 64 = omega (arith, c.struct_known-3-1.given) in
    record { fits = (fold36-fits p.e p.f (fold36-is p.a p.b p.c p.d p.e p.f c.requires).1 h).2 }

pub returns : goal.returns
returns c =
    let s = c in
    let p = s.args.p in
    word36-is (wide p) _ (fold36-is p.a p.b p.c p.d p.e p.f s.requires).0 s.requires
