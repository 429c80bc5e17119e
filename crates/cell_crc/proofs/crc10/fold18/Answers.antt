use mathlib.Core.Path.{refl}
use Rattle.cell_crc.proofs.Fold.{folded}
use Rattle.cell_crc.proofs.Trinomial.{down18}
use Rattle.cell_crc.proofs.crc10.fold18.Goals as goal

pub returns : goal.returns
unfolding folded
returns c = down18 c.args.v _ refl c.requires
