-- Laws of rows: what stands in one, and what a store in it makes.
use mathlib.Core.Path.{◌≡◌, refl, sym, ap, ap₂, ◌∙◌}
use mathlib.Core.Logic.{◌≢◌}
use Prim.Native.Nat.{ℕ, zero, suc, ◌+◌, ◌≤◌, ◌<◌}
use native.Mathlib.Nat.{add-zero, add-suc, suc-add, not-suc-le-zero, le_of_suc-le-suc}
use native.Mathlib.Omega.{arith}
use mathlib.Core.List.{List, ◌∷◌}
use lib.ListN.{length, get_or, set, replicate}
use Rattle.laws.specs.Rows.{row}

pub length-row : (g : ℕ → ℕ) (h n : ℕ) → length (row g h n) ≡ n
unfolding row
length-row g h zero = refl
length-row g h (suc n) = ap suc (length-row g (suc h) n)

pub row_at : (g : ℕ → ℕ) (h n k : ℕ) → k < n → get_or (row g h n) k 0 ≡ g (h + k)
unfolding row
row_at g h zero k l = absurd (not-suc-le-zero l)
row_at g h (suc n) zero l = ap g (sym (add-zero h))
row_at g h (suc n) (suc k) l = row_at g (suc h) n k (le_of_suc-le-suc l) ∙ ap g (suc-add h k ∙ sym (add-suc h k))

pub row_same : (f g : ℕ → ℕ) (h n : ℕ) → ((j : ℕ) → h ≤ j → j < h + n → f j ≡ g j) → row f h n ≡ row g h n
unfolding row
row_same f g h zero e = refl
row_same f g h (suc n) e = ap₂ (λ (x : ℕ) (l : List ℕ). x ∷ l) (e h (omega arith) (omega arith)) (row_same f g (suc h) n (λ j l m. e j (omega arith) (omega arith)))

pub row-set : (f g : ℕ → ℕ) (h n k v : ℕ) → k < n → ((j : ℕ) → j ≢ h + k → f j ≡ g j) → v ≡ g (h + k) → set (row f h n) k v ≡ row g h n
unfolding row
row-set f g h zero k v l e q = absurd (not-suc-le-zero l)
row-set f g h (suc n) zero v l e q =
    ap₂ (λ (x : ℕ) (m : List ℕ). x ∷ m) (q ∙ ap g (add-zero h)) (row_same f g (suc h) n (λ j m u. e j (λ z. omega (arith, z))))
row-set f g h (suc n) (suc k) v l e q =
    ap₂ (λ (x : ℕ) (m : List ℕ). x ∷ m) (e h (λ z. omega (arith, z)))
    (row-set f g (suc h) n k v (le_of_suc-le-suc l) (λ j z. e j (λ y. z (omega (arith, y)))) (q ∙ ap g (add-suc h k ∙ sym (suc-add h k))))

pub row-zeros : (g : ℕ → ℕ) (h n : ℕ) → ((j : ℕ) → g j ≡ 0) → row g h n ≡ replicate n 0
unfolding row
row-zeros g h zero e = refl
row-zeros g h (suc n) e = ap₂ (λ (x : ℕ) (l : List ℕ). x ∷ l) (e h) (row-zeros g (suc h) n e)
