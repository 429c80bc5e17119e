use mathlib.Core.Path.{refl}
use Prim.Native.Nat.{◌^◌, ◌<◌}
use native.Mathlib.Omega.{arith}
use lib.Dec.{lit<}
use borrow.Author.Rules.{rules}
use Rattle.cell_crc.specs.Folding.{wide}
use Rattle.cell_crc.proofs.Limbs.{Six, above, fold72-is, raised_lt, word_lt}
use Rattle.cell_crc.proofs.Trinomial.{down72}
use Rattle.cell_crc.proofs.crc10.fold72.Goals as goal

pub overflow_add-t : goal.overflow_add-t
overflow_add-t c =
    let p = c.args.p in
    let h : p.e < 2 ^ 64 = omega (arith, c.struct_known-3-1.given) in
    record { fits = word_lt 8 56 p.d p.e refl h }

pub overflow_mul-e : goal.overflow_mul-e
overflow_mul-e c =
    let p = c.args.p in
    record { fits = (raised_lt p.d 0 (above p.a p.b p.c p.d p.e p.f c.requires).1 (lit< tt)).2 }

pub overflow_add-e : goal.overflow_add-e
overflow_add-e c =
    let p = c.args.p in
    let h : p.e < 2 ^ 64 = omega (arith, c.struct_known-4-1.given) in
    record { fits = (raised_lt p.d _ (above p.a p.b p.c p.d p.e p.f c.requires).1 (word_lt 8 56 p.d p.e refl h)).0 }

pub returns : goal.returns
returns c =
    let s = c in
    let p = s.args.p in
    let six : Six p.a p.b p.c p.d p.e p.f = search (rules, c.struct_known-5-1.given) in
    down72 (wide p) _ (fold72-is p.a p.b p.c p.d p.e p.f s.requires six) s.requires
