use mathlib.Core.Path.{refl}
use Rattle.cell_crc.proofs.Fold.{folded}
use Rattle.cell_crc.proofs.Trinomial.{down9}
use Rattle.cell_crc.proofs.crc10.fold9.Goals as goal

pub returns : goal.returns
unfolding folded
returns c = down9 c.args.v _ refl c.requires
