-- A number that is written in its shortest form is read back.
use mathlib.Core.Path.{◌≡◌, sym, ap, subst, ◌∙◌}
use mathlib.Core.Bool.{Bool, true, false, not, cond}
use mathlib.Core.List.{List, [], ◌∷◌}
use Prim.Native.Nat.{ℕ, zero, suc, ◌+◌, ◌-◌, ◌*◌, ◌/◌, ◌%◌, ◌^◌, ◌≤◌, ◌<◌}
use native.Mathlib.Nat.{mul_assoc, mul-one, mul_comm, add-mul, div-add-mod', div-lt_iff_lt-mul, le_refl, lt_irrefl, lt_of_not-le, one-mul, zero-add}
use native.Mathlib.Omega.{arith}
use lib.ListN.{length, get_or}
use lib.Dec.{T, ltb, lit<, ltb→lt, nltb→le}
use lib.Pow.{pow-add}
use Rattle.trace.specs.Numbers.{not_shortest, read_on, written, Stands, ReadBack}
use Rattle.trace.proofs.Groups.{value, last-group, more-groups, tenth-one, shortest}

-- the low group and the rest
value-is : (v x p : ℕ) → v + (128 + x % 128 - 128) * p + x / 128 * (p * 128) ≡ v + x * p
value-is v x p =
    let e : x * p ≡ x / 128 * (p * 128) + x % 128 * p =
    ap (λ (z : ℕ). z * p) (sym (div-add-mod' x 128)) ∙ add-mul (x / 128 * 128) (x % 128) p
    ∙ ap (λ (z : ℕ). z + x % 128 * p) (mul_assoc (x / 128) 128 p ∙ ap (λ (z : ℕ). x / 128 * z) (mul_comm 128 p)) in
    let f : (128 + x % 128 - 128) * p ≡ x % 128 * p = ap (λ (z : ℕ). z * p) (less (x % 128)) in
    omega arith
  where
    less : (r : ℕ) → 128 + r - 128 ≡ r
    less r = omega arith

-- a group more
pub more_room : (n : ℕ) → 2 * 2 ^ (7 * suc n) ≡ 2 * 2 ^ (7 * n) * 128
more_room n = ap (λ (z : ℕ). 2 * z) (ap (λ (z : ℕ). 2 ^ z) (seven n) ∙ pow-add 2 (7 * n) 7) ∙ sym (mul_assoc 2 (2 ^ (7 * n)) 128)
  where
    seven : (n : ℕ) → 7 * suc n ≡ 7 * n + 7
    seven n = omega arith

smaller : (n x : ℕ) → x < 2 * 2 ^ (7 * suc n) → x / 128 < 2 * 2 ^ (7 * n)
smaller n x h = (div-lt_iff_lt-mul (lit< tt)).1 (subst (λ (z : ℕ). x < z) (more_room n) h)

-- x is what is left of the number, p the weight of its lowest group
reads :
    (n : ℕ) (s : List ℕ) (k v p x : ℕ) → 0 < p → x < 2 * 2 ^ (7 * n) → (1 < p → 0 < x) → (p ≤ 1 → 0 < n) → Stands s k (written n x)
    → read_on n s k v p ≡ value (v + x * p) (k + length (written n x))
unfolding written
reads zero s k v p x pp small first room st =
    let one : x ≡ 1 = only small (first (over room)) in
    sym (tenth-one 0 s k v p (le_refl 0) st.0 (st.1 ∙ one)) ∙ ap (λ (z : ℕ). value (v + z) (k + 1)) (sym (ap (λ (z : ℕ). z * p) one ∙ one-mul p))
  where
    over : (p ≤ 1 → 0 < 0) → 1 < p
    over f = lt_of_not-le (λ (g : p ≤ 1). lt_irrefl 0 (f g))

    only : x < 2 → 0 < x → x ≡ 1
    only a b = omega arith
reads (suc n) s k v p x pp small first room st = go (ltb x 128) (ltb→lt x 128) (nltb→le x 128) st (reads n s (k + 1))
  where
    go : (b : Bool) → (T b → x < 128) → (T (not b) → 128 ≤ x) → Stands s k (cond b (x ∷ []) ((128 + x % 128) ∷ written n (x / 128)))
        → ((v p x : ℕ) → 0 < p → x < 2 * 2 ^ (7 * n) → (1 < p → 0 < x) → (p ≤ 1 → 0 < n) → Stands s (k + 1) (written n x)
        → read_on n s (k + 1) v p ≡ value (v + x * p) (k + 1 + length (written n x)))
        → read_on (suc n) s k v p ≡ value (v + x * p) (k + length (cond b (x ∷ []) ((128 + x % 128) ∷ written n (x / 128))))
    go true lo hi st ih =
        sym (last-group (suc n) s k v p (omega arith) st.0 (last st.1 (lo tt)) (ap (λ (z : ℕ). not_shortest z p) st.1 ∙ shortest (only first)))
        ∙ ap (λ (z : ℕ). value (v + z * p) (k + 1)) st.1
      where
        last : get_or s k 0 ≡ x → x < 128 → get_or s k 0 < 128
        last e h = omega arith

        only : (1 < p → 0 < x) → x ≡ 0 → p ≤ 1
        only f z = let l = lt_of_not-le (λ (g : 2 ≤ p). let h = f g in omega arith) in omega (arith, l)
    go false lo hi st ih =
        sym (more-groups (suc n) s k v p (omega arith) st.0 (more st.1))
        ∙ ap (λ (m : ℕ). read_on m s (k + 1) (v + (get_or s k 0 - 128) * p) (p * 128)) (less n)
        ∙ ap (λ (b : ℕ). read_on n s (k + 1) (v + (b - 128) * p) (p * 128)) st.1
        ∙ ih (v + (128 + x % 128 - 128) * p) (p * 128) (x / 128) (heavy pp) (smaller n x small) (λ _. some (hi tt)) (λ (g : p * 128 ≤ 1). absurd (clash pp g)) st.2
        ∙ ap (λ (z : ℕ). value z (k + 1 + length (written n (x / 128)))) (value-is v x p)
        ∙ ap (value (v + x * p)) (end (length (written n (x / 128))))
      where
        more : get_or s k 0 ≡ 128 + x % 128 → 128 ≤ get_or s k 0
        more e = omega arith

        less : (m : ℕ) → suc m - 1 ≡ m
        less m = omega arith

        heavy : 0 < p → 0 < p * 128
        heavy h = omega arith

        clash : 0 < p → p * 128 ≤ 1 → ⊥
        clash h g = omega arith

        some : 128 ≤ x → 0 < x / 128
        some h = omega arith

        end : (l : ℕ) → k + 1 + l ≡ k + suc l
        end l = omega arith

pub read_back : ReadBack
read_back s k x small st =
    reads 9 s k 0 1 x (lit< tt) small (λ (g : 1 < 1). absurd (lt_irrefl 1 g)) (λ _. lit< tt) st
    ∙ ap (λ (z : ℕ). value z (k + length (written 9 x))) (zero-add (x * 1) ∙ mul-one x)
