use mathlib.Core.Path.{◌∙◌, sym}
use borrow.Author.Rules.{rules}
use Rattle.cell_crc.proofs.Check.{payload-words}
use Rattle.cell_crc.proofs.Limbs.{Six}
use Rattle.cell_crc.proofs.crc10.crc10.Goals as goal

pub returns : goal.returns
returns c =
    let p = c.args.p in
    let six : Six p.a p.b p.c p.d p.e p.f = search (rules, c.struct_known-1.given) in
    (c.remainder10.ensures.0 ∙ sym (payload-words p six), c.remainder10.ensures.1)
