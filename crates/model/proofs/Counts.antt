-- How many entries pass a test, and one fewer when the entry of a name, which passes it, is given what does not.
use Prim.Native.Nat.{ℕ, zero, suc, ◌≤◌}
use mathlib.Core.Path.{◌≡◌, ap}
use mathlib.Core.Bool.{Bool, true, false, cond}
use mathlib.Core.List.{List, [], ◌∷◌}
use native.Mathlib.Nat.{le_refl}
use native.Mathlib.Omega.{arith}
use lib.ListN.{length, get_or, set}
use Rattle.model.specs.State.{State, Entry, free, position, holds, find, with_entry_of}

unfoldable pub count : (Entry → Bool) → List Entry → ℕ
count f [] = 0
count f (x ∷ ss) = cond (f x) (suc (count f ss)) (count f ss)

pub count-le : (f : Entry → Bool) (ss : List Entry) → count f ss ≤ length ss
unfolding count
count-le f [] = le_refl 0
count-le f (x ∷ ss) = go (f x) (count-le f ss)
  where
    go : (b : Bool) → count f ss ≤ length ss → cond b (suc (count f ss)) (count f ss) ≤ suc (length ss)
    go true h = omega arith
    go false h = omega arith

module _ (f : Entry → Bool) (none : f free ≡ false) (x : Entry) (fails : f x ≡ false) where
  count_set : (ss : List Entry) (i : ℕ) → f (get_or ss i free) ≡ true → suc (count f (set ss i x)) ≡ count f ss
  unfolding count
  count_set [] i e = let z : ◌≡◌ {A = ℕ} 0 1 = cc in absurd (omega arith)
  count_set (s ∷ ss) zero e = rw (fails, e)
  count_set (s ∷ ss) (suc i) e = go (f s) (count_set ss i e)
    where
      go : (b : Bool) → suc (count f (set ss i x)) ≡ count f ss → suc (cond b (suc (count f (set ss i x))) (count f (set ss i x))) ≡ cond b (suc (count f ss)) (count f ss)
      go true k = ap suc k
      go false k = k

  pub count-put : (u : ℕ) (s : State) → f (find u s.entries) ≡ true → suc (count f (with_entry_of u x s).entries) ≡ count f s.entries
  unfolding with_entry_of find
  count-put u s e = count_set s.entries (position (holds u) s.entries) e
