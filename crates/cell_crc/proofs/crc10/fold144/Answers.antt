use mathlib.Core.Path.{refl}
use Prim.Native.Nat.{◌^◌, ◌<◌}
use native.Mathlib.Omega.{arith}
use borrow.Author.Rules.{rules}
use Rattle.cell_crc.specs.Folding.{wide}
use Rattle.cell_crc.proofs.Limbs.{Six, fold144-is, word_lt}
use Rattle.cell_crc.proofs.Trinomial.{down144}
use Rattle.cell_crc.proofs.crc10.fold144.Goals as goal

pub overflow_add-t : goal.overflow_add-t
overflow_add-t c =
    let p = c.args.p in
    let h : p.c < 2 ^ 64 = omega (arith, c.struct_known-3-1.given) in
    record { fits = word_lt 16 48 p.b p.c refl h }

pub overflow_add-u : goal.overflow_add-u
overflow_add-u c =
    let p = c.args.p in
    let h : p.d < 2 ^ 64 = omega (arith, c.struct_known-5-1.given) in
    record { fits = word_lt 16 48 p.c p.d refl h }

pub returns : goal.returns
returns c =
    let s = c in
    let p = s.args.p in
    let six : Six p.a p.b p.c p.d p.e p.f = search (rules, c.struct_known-8-1.given) in
    down144 (wide p) _ (fold144-is p.a p.b p.c p.d p.e p.f s.requires six) s.requires
