-- The cases of reading a group, one for each way that the code goes on or returns.
use mathlib.Core.Path.{◌≡◌, refl, ap}
use mathlib.Core.Bool.{Bool, true, false, cond, ◌&&◌, and-false}
use mathlib.Core.List.{List}
use Prim.Native.Nat.{ℕ, zero, suc, ◌+◌, ◌-◌, ◌*◌, ◌≤◌, ◌<◌}
use native.Mathlib.Nat.{lt_irrefl, not-suc-le-zero}
use native.Mathlib.Omega.{arith}
use lib.Dec.{ltb, eqb}
use lib.ListN.{length, get_or}
use borrow.Author.Tests.{lt-ltb, le-ltb, eq-eqb, ne_eqb, eqb-true, eqb-false}
use Rattle.std.specs.Prelude.{Ok, Err}
use Rattle.laws.specs.declared.refusals.Refusal.TheVariants.{TraceNumber, TraceEnd}
use Rattle.trace.specs.Numbers.{Number, not_shortest, group_read, read_on}

-- a number, and the offset after it
abbrev pub value : (v k : ℕ) → Number
value v k = Ok (v, k)

abbrev pub no_number : Number
no_number = Err TraceNumber

abbrev pub no_end : Number
no_end = Err TraceEnd

-- the trace ends here
pub end-reached : (n : ℕ) (s : List ℕ) (k v p : ℕ) → length s ≤ k → no_end ≡ read_on n s k v p
unfolding read_on
end-reached zero s k v p h = rw (le-ltb k (length s) h)
end-reached (suc n) s k v p h = rw (le-ltb k (length s) h)

-- an octet before the tenth
module _ (n : ℕ) (s : List ℕ) (k v p : ℕ) (up : 0 < n) (h : k < length s) where
  abbrev b : ℕ
  b = get_or s k 0

  here : read_on n s k v p ≡ group_read b k v p (read_on (n - 1) s (k + 1) (v + (b - 128) * p) (p * 128))
  unfolding read_on
  here = go n up
    where
      less : (m : ℕ) → suc m - 1 ≡ m
      less m = omega arith

      go : (m : ℕ) → 0 < m → read_on m s k v p ≡ group_read b k v p (read_on (m - 1) s (k + 1) (v + (b - 128) * p) (p * 128))
      go zero z = absurd (lt_irrefl 0 z)
      go (suc m) z = rw (lt-ltb k (length s) h, less m)

  pub last-group : b < 128 → not_shortest b p ≡ false → value (v + b * p) (k + 1) ≡ read_on n s k v p
  last-group l t = rw (here, lt-ltb b 128 l, t)

  pub zero-group : b ≡ 0 → 1 < p → no_number ≡ read_on n s k v p
  zero-group z l = rw (here, lt-ltb b 128 (omega arith), eq-eqb b 0 z, lt-ltb 1 p l)

  pub more-groups : 128 ≤ b → read_on (n - 1) s (k + 1) (v + (b - 128) * p) (p * 128) ≡ read_on n s k v p
  more-groups l = rw (here, le-ltb b 128 l)

-- the tenth octet
module _ (n : ℕ) (s : List ℕ) (k v p : ℕ) (none : n ≤ 0) (h : k < length s) where
  tenth : read_on n s k v p ≡ cond (eqb (get_or s k 0) 1) (value (v + p) (k + 1)) (no_number)
  unfolding read_on
  tenth = go n none
    where
      go : (m : ℕ) → m ≤ 0 → read_on m s k v p ≡ cond (eqb (get_or s k 0) 1) (value (v + p) (k + 1)) (no_number)
      go zero g = rw (lt-ltb k (length s) h)
      go (suc m) g = absurd (not-suc-le-zero g)

  pub tenth-one : get_or s k 0 ≡ 1 → value (v + p) (k + 1) ≡ read_on n s k v p
  tenth-one e = rw (tenth, eq-eqb (get_or s k 0) 1 e)

  pub tenth-other : (get_or s k 0 ≡ 1 → ⊥) → no_number ≡ read_on n s k v p
  tenth-other e = rw (tenth, ne_eqb (get_or s k 0) 1 e)

-- the shortest form: a group that is not 0, or the only one
not-zero : (b p : ℕ) → (b ≡ 0 → ⊥) → not_shortest b p ≡ false
not-zero b p h = ap (λ (t : Bool). t && ltb 1 p) (ne_eqb b 0 h)

only_one : (b p : ℕ) → p ≤ 1 → not_shortest b p ≡ false
only_one b p h = rw (le-ltb 1 p h) (and-false (eqb b 0))

pub shortest : {b p : ℕ} → (b ≡ 0 → p ≤ 1) → not_shortest b p ≡ false
shortest {b} {p} h = go (eqb b 0) refl
  where
    go : (z : Bool) → eqb b 0 ≡ z → not_shortest b p ≡ false
    go true e = only_one b p (h (eqb-true b 0 e))
    go false e = not-zero b p (eqb-false b 0 e)
