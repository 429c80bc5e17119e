use mathlib.Core.Path.{refl}
use Rattle.cell_crc.proofs.Fold.{folded}
use Rattle.cell_crc.proofs.Trinomial.{down36}
use Rattle.cell_crc.proofs.crc10.fold36.Goals as goal

pub returns : goal.returns
unfolding folded
returns c = down36 c.args.v _ refl c.requires
