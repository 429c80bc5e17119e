-- A last group that is taken for the shortest form is not 0, unless it is the only one.
use mathlib.Core.Path.{◌≡◌, refl}
use mathlib.Core.Bool.{Bool, true, false, ◌&&◌}
use Prim.Native.Nat.{ℕ, ◌<◌}
use native.Mathlib.Omega.{arith}
use lib.Dec.{ltb, eqb}
use borrow.Author.Tests.{ltb-false, eqb-false}
use Rattle.trace.specs.Numbers.{not_shortest}

pub some_last : (b p : ℕ) → not_shortest b p ≡ false → 1 < p → 0 < b
some_last b p e g = go (eqb b 0) (ltb 1 p) refl refl e
  where
    go : (y z : Bool) → eqb b 0 ≡ y → ltb 1 p ≡ z → (y && z) ≡ false → 0 < b
    go true true q f e = absurd cc
    go true false q f e = let l = ltb-false 1 p f in omega (arith, l, g)
    go false z q f e = let n = eqb-false b 0 q in omega (arith, n)
