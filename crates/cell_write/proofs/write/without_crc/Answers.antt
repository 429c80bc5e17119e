-- Fields that fit fill their octets of the words.
use Rattle.cell.proofs.Fits.{Fit, fit}
use Rattle.cell.proofs.PayloadWords.{without-crc-words}
use Rattle.cell_write.proofs.write.without_crc.Goals as goal

pub marks-m-requires : goal.marks-m-requires
marks-m-requires c =
    let b : Fit c.args.f = fit c.args.f c.requires in (b.dir, (b.bn, (b.ci, (b.ni, b.ra))))

pub first_word-requires : goal.first_word-requires
first_word-requires c =
    let b : Fit c.args.f = fit c.args.f c.requires in (c.marks-m.ensures.1, (b.er, (b.ccr, b.mcr)))

pub returns : goal.returns
returns c =
    let s = c in
    without-crc-words s.args.f (fit s.args.f s.requires) c.marks-m.ensures.0 c.first_word.ensures c.second_word.ensures
