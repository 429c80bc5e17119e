use mathlib.Core.Path.{sym, subst, ap, ◌∙◌}
use lib.Dec.{T}
use lib.Ieee.{binary64, fits, to_bits, of_bits}
use Rattle.std.specs.Prelude.{Ok}
use Rattle.rate_doubles.proofs.Patterns.{Within, a-number}
use Rattle.rate_doubles.proofs.Tests.{zero-found, low-refused, high-refused, in-range}
use Rattle.rate_doubles.proofs.Digits.{split-is}
use Rattle.rate_doubles.proofs.import.import.Goals.{Then-x-3, else-x-2-via-then-x-2+else-x-3, else-x-2-via-else-x-2}
use Rattle.rate_doubles.proofs.import.import.Goals as goal

within : (c : Then-x-3) → Within c.args.x (to_bits binary64 c.args.x)
unfolding of_bits
within c =
    let held : T (fits binary64 c.args.x) = subst T (sym c.well_formed.0.1) tt in
    in-range c.args.x (held) c.if-x-2.true c.if-x-3.true

pub returns-then-x : goal.returns-then-x
unfolding of_bits
returns-then-x c = zero-found c.args.x c.if-x.true

pub float_to_bits-x : goal.float_to_bits-x
float_to_bits-x c = a-number (within c)

pub split-requires : goal.split-requires
split-requires c = ((within c).fields.least, (within c).fields.most)

pub returns-then-x-3 : goal.returns-then-x-3
unfolding of_bits
returns-then-x-3 c =
    let held : T (fits binary64 c.args.x) = subst T (sym c.well_formed.0.1) tt in
    let within : Within c.args.x (to_bits binary64 c.args.x) = in-range c.args.x (held) c.if-x-2.true c.if-x-3.true in
    ap Ok c.split.ensures ∙ split-is (within)

pub returns-else-x-2 : goal.returns-else-x-2
unfolding of_bits
returns-else-x-2 c =
    elim c.else-x-2.branch [
      | else-x-2-via-then-x-2+else-x-3 w ↦ high-refused c.args.x c.if-x.false w.if-x-3.false
      | else-x-2-via-else-x-2 w ↦ low-refused c.args.x c.if-x.false w.if-x-2.false
    ]
