-- A part of a column is a column, and a count there narrows down where a count over more words lies.
use Prim.Native.Nat.{ℕ, zero, suc, ◌+◌, ◌≤◌, ◌<◌}
use mathlib.Core.Path.{◌≡◌, sym, ap, ◌∙◌}
use mathlib.Core.List.{List, ◌++◌, append_assoc}
use native.Mathlib.Omega.{arith}
use lib.ListN.{get_or, take, drop, length-append, length-drop, take-append-drop}
use lib.Seq.{length-take-le, get_or-take, get_or-drop}
use Rattle.table_column.specs.Column.{InColumn, AtLeast}
use Rattle.table_column.proofs.Descending.{Reach, above, below, reach, at-least-in, at-least-out}
use Rattle.table_column.proofs.Shifts.{descending-drop, descending-take}

-- n words from word s on
part-in-column : (from len s n : ℕ) (l h ds t : List ℕ) → InColumn from len l h ds t → s + n ≤ len
    → InColumn (from + s) n l (h ++ take s ds) (take n (drop s ds)) (drop n (drop s ds) ++ t)
part-in-column from len s n l h ds t i k = (
  i.0 ∙ ap (λ (m : List ℕ). h ++ (m ++ t)) (sym (take-append-drop s ds))
      ∙ ap (λ (m : List ℕ). h ++ ((take s ds ++ m) ++ t)) (sym (take-append-drop n (drop s ds)))
      ∙ regroup (take s ds) (take n (drop s ds)) (drop n (drop s ds)),
  omega (arith, length-append h (take s ds), length-take-le s ds (omega (arith, i.2, k)), i.1),
  length-take-le n (drop s ds) (omega (arith, length-drop s ds, i.2, k)),
  descending-take n (drop s ds) (descending-drop s ds i.3),
)
  where
    regroup : (a b c : List ℕ) → h ++ ((a ++ (b ++ c)) ++ t) ≡ (h ++ a) ++ (b ++ (c ++ t))
    regroup a b c = simp append_assoc

-- Word j of n words tells whether m lies before the bound suc j or not. So a count of r words says that m lies between
-- the bounds r and suc r.
module _ (from n : ℕ) (l : List ℕ) (w r : ℕ) (a : AtLeast from n l w r) (h xs t : List ℕ) (i : InColumn from n l h xs t)
    (bound : ℕ → ℕ) (m : ℕ)
    (behind : (j : ℕ) → suc j < n → w ≤ get_or xs j 0 → bound (suc j) ≤ m)
    (before : (j : ℕ) → suc j < n → get_or xs j 0 < w → m < bound (suc j)) where
  pub narrows : bound 0 ≤ m → m < bound n → (bound r ≤ m) × (m < bound (suc r))
  narrows low high = (lower r a.inside (omega arith), upper (reach (suc (suc r)) n))
    where
      lower : (k : ℕ) → k < n → k ≤ r → bound k ≤ m
      lower zero b q = low
      lower (suc k) b q = behind k b (at-least-in w xs i.3 k (omega (arith, q, a.is h xs t i)))

      upper : Reach (suc (suc r)) n → m < bound (suc r)
      upper (above d) = before r d (at-least-out w xs i.3 r (omega (arith, a.is h xs t i, d)) (omega (arith, a.inside, i.2)))
      upper (below d) = let e : n ≡ suc r = omega (arith, d, a.inside) in rw (sym e) high

-- the same of n words from word s on
pub narrows-part : (from len s n : ℕ) (l : List ℕ) (w r : ℕ) → AtLeast (from + s) n l w r → (h ds t : List ℕ) → InColumn from len l h ds t → s + n ≤ len → (bound : ℕ → ℕ) (m : ℕ)
    → ((j : ℕ) → suc j < n → w ≤ get_or ds (s + j) 0 → bound (suc j) ≤ m) → ((j : ℕ) → suc j < n → get_or ds (s + j) 0 < w → m < bound (suc j))
    → bound 0 ≤ m → m < bound n → (bound r ≤ m) × (m < bound (suc r))
narrows-part from len s n l w r a h ds t i k bound m behind before =
    narrows (from + s) n l w r a (h ++ take s ds) (take n (drop s ds)) (drop n (drop s ds) ++ t) (part-in-column from len s n l h ds t i k) bound m
    (λ j b d. behind j b (omega (arith, d, at j (omega (arith, b)))))
    (λ j b d. before j b (omega (arith, d, at j (omega (arith, b)))))
  where
    at : (j : ℕ) → j < n → get_or (take n (drop s ds)) j 0 ≡ get_or ds (s + j) 0
    at j b = get_or-take n (drop s ds) j 0 b ∙ get_or-drop s ds j 0
