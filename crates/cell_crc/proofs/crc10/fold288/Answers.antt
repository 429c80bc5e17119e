use mathlib.Core.Path.{refl}
use Prim.Native.Nat.{◌^◌, ◌<◌}
use native.Mathlib.Omega.{arith}
use borrow.Author.Rules.{rules}
use Rattle.cell_crc.specs.Folding.{wide}
use Rattle.cell_crc.proofs.Limbs.{Six, fold288-is, limbs-lt, word_lt}
use Rattle.cell_crc.proofs.Trinomial.{down288}
use Rattle.cell_crc.proofs.crc10.fold288.Goals as goal

pub overflow_add-t : goal.overflow_add-t
overflow_add-t c =
    let p = c.args.p in
    let h : p.b < 2 ^ 64 = omega (arith, c.struct_known-3-1.given) in
    record { fits = word_lt 32 32 p.a p.b refl h }

pub returns : goal.returns
returns c =
    let p = c.args.p in
    let six : Six p.a p.b p.c p.d p.e p.f = search (rules, c.struct_known-8-1.given) in
    down288 (wide p) _ (fold288-is p.a p.b p.c p.d p.e p.f six) (limbs-lt p.a p.b p.c p.d p.e p.f six)
