use mathlib.Core.Path.{◌∙◌, ap, refl}
use Prim.Native.Nat.{ℕ, ◌*◌}
use borrow.Author.Rules.{rules}
use lib.Bits.{bit_xor}
use Rattle.cell_crc.specs.Folding.{wide}
use Rattle.cell_crc.proofs.Factors.{joined, joined-lt}
use Rattle.cell_crc.proofs.Limbs.{Six}
use Rattle.cell_crc.proofs.Parity.{by1-more}
use Rattle.cell_crc.proofs.crc10.remainder10.Goals as goal

pub returns : goal.returns
returns c =
    let p = c.args.p in
    let six : Six p.a p.b p.c p.d p.e p.f = search (rules, c.struct_known-5-1.given) in
    let t : ℕ = c.remainder9-t.result in
    let q2 = by1-more 64 p.a p.a p.b refl six.1 in
    let q3 = by1-more 128 _ _ p.c q2 six.2 in
    let q4 = by1-more 192 _ _ p.d q3 six.3 in
    let q5 = by1-more 256 _ _ p.e q4 six.4 in
    let q6 = by1-more 320 _ _ p.f q5 six.5 in (
      ap (λ (z : ℕ). bit_xor t (z * 0x211)) c.parity.ensures.0 ∙ joined 384 (wide p) t _ c.remainder9-t.ensures.0 q6,
      joined-lt t c.parity.result c.remainder9-t.ensures.1 c.parity.ensures.1,
    )
