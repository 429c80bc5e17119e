-- The gap is small, so that the sums fit and the instant is within its bound.
use mathlib.Core.Path.{◌≡◌}
use mathlib.Core.Bool.{Bool}
use Prim.Native.Nat.{ℕ, ◌<◌, ◌^◌}
use native.Mathlib.Omega.{arith}
use Rattle.rate.proofs.Gaps.{gap-le}
use Rattle.connection.specs.declared.parts.Pace.{Pace}
use Rattle.connection.specs.declared.parts.Pace.TheVariants.{Running}
use Rattle.connection.specs.Range.{PaceInRange}
use Rattle.connection_slot.proofs.ready.ready_from.Goals as goal

running : {p : Pace} {s f k : ℕ} {t : Bool} → p ≡ Running s f k t → PaceInRange p → (s < 2 ^ 63) × (f < 2 ^ 63) × (k < 65536)
running e h = rw e at h

pub overflow_add-due : goal.overflow_add-due
overflow_add-due c = omega (arith, c.gap.ensures, gap-le c.args.c.rate.acr, running c.in-Running.is c.requires.pace)

pub returns-then-last_before-clause-below : goal.returns-then-last_before-clause-below
returns-then-last_before-clause-below c = omega (arith, c.gap.ensures, gap-le c.args.c.rate.acr, running c.in-Running.is c.requires.pace)

pub returns-else-k-lt2-clause-below : goal.returns-else-k-lt2-clause-below
returns-else-k-lt2-clause-below c = omega (arith, c.gap.ensures, gap-le c.args.c.rate.acr, running c.in-Running.is c.requires.pace, c.max.ensures)
