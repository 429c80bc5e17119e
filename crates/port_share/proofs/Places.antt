-- A pass over the demands, one place after the other: what one more demand adds to the sums.
use mathlib.Core.Path.{◌≡◌, refl, ap, ◌∙◌}
use mathlib.Core.Bool.{Bool, true, false, cond}
use mathlib.Core.List.{List, [], ◌∷◌, ◌++◌}
use Prim.Native.Nat.{ℕ, ◌+◌, ◌≤◌, ◌<◌, min}
use native.Mathlib.Omega.{arith}
use lib.Dec.{ltb}
use lib.ListN.{length, get_or, take}
use mir.Val.{bool_byte}
use Rattle.std.proofs.lemmas.List.{take_more}
use Rattle.port_share.specs.Demands.{cut_sum}
use Rattle.port_share.specs.Above.{one_above, above}

pub cut_push : (s : ℕ) (ds : List ℕ) (d : ℕ) → cut_sum s (ds ++ d ∷ []) ≡ cut_sum s ds + min d s
unfolding cut_sum
cut_push s [] d = omega arith
cut_push s (e ∷ es) d = omega (arith, cut_push s es d)

one_is : (s d : ℕ) → one_above s d ≡ bool_byte (ltb s d)
unfolding one_above
one_is s d = go (ltb s d)
  where
    go : (b : Bool) → cond b 1 0 ≡ bool_byte b
    go true = refl
    go false = refl

pub above_push : (s : ℕ) (ds : List ℕ) (d : ℕ) → above s (ds ++ d ∷ []) ≡ above s ds + bool_byte (ltb s d)
unfolding above
above_push s [] d = omega (arith, one_is s d)
above_push s (e ∷ es) d = omega (arith, above_push s es d)

-- the next place
pub cut_next : (s : ℕ) (ds : List ℕ) (i : ℕ) → i < length ds → cut_sum s (take (i + 1) ds) ≡ cut_sum s (take i ds) + min (get_or ds i 0) s
cut_next s ds i h = ap (cut_sum s) (take_more ds i 0 h) ∙ cut_push s (take i ds) (get_or ds i 0)

pub above_next : (s : ℕ) (ds : List ℕ) (i : ℕ) → i < length ds → above s (take (i + 1) ds) ≡ above s (take i ds) + bool_byte (ltb s (get_or ds i 0))
above_next s ds i h = ap (above s) (take_more ds i 0 h) ∙ above_push s (take i ds) (get_or ds i 0)

pub byte-le : (b : Bool) → bool_byte b ≤ 1
byte-le true = omega arith
byte-le false = omega arith

-- before the first
pub cut_none : (s : ℕ) → cut_sum s [] ≡ 0
unfolding cut_sum
cut_none s = refl

pub above_none : (s : ℕ) → above s [] ≡ 0
unfolding above
above_none s = refl

-- what the code's `pass` needs
pub ruleset pass_steps = (cut_next, above_next, byte-le, cut_none, above_none)
