-- They are those of the definitions, computed.
use mathlib.Core.Path.{refl}
use Rattle.check_counts.specs.Edition.{EditionNumbers}

pub edition-numbers : EditionNumbers
edition-numbers = record { connections = refl; rounds = refl; halved = refl }
