-- The halving over a column in a table.
use Prim.Native.Nat.{ℕ, zero, suc, ◌+◌, ◌-◌, ◌/◌, ◌^◌, ◌≤◌, ◌<◌, min}
use mathlib.Core.Path.{◌≡◌, sym, ap, subst, ◌∙◌}
use mathlib.Core.Bool.{cond}
use mathlib.Core.List.{List, ◌++◌}
use native.Mathlib.Nat.{pow-suc}
use native.Mathlib.Omega.{arith}
use lib.Dec.{leb}
use lib.ListN.{get_or, get_or-append}
use lib.Pow.{pow_pos}
use lib.Seq.{get_or-append-add}
use borrow.Author.Tests.{le-leb, lt-leb}
use Rattle.table_column.specs.Descending.{at_least}
use Rattle.table_column.specs.Column.{Column, InColumn, AtLeast, CountsAtLeast, CountsUpTo}
use Rattle.table_column.proofs.Descending.{Reach, above, below, reach, at-least-most, at-least-in, at-least-out, at-least-over, at-least-under}

-- word j of the column
pub in-column : (from len : ℕ) (l h ds t : List ℕ) → InColumn from len l h ds t → (j : ℕ) → j < len → get_or l (from + j) 0 ≡ get_or ds j 0
in-column from len l h ds t i j k =
    ap (λ (m : List ℕ). get_or m (from + j) 0) i.0 ∙ ap (λ (n : ℕ). get_or (h ++ (ds ++ t)) (n + j) 0) (sym i.1) ∙ get_or-append-add h (ds ++ t) j 0
    ∙ get_or-append ds t 0 j (omega (arith, i.2))

-- what is looked for is among the 2 ^ left words from p on
pub record Halved (from len : ℕ) (l : List ℕ) (w p half : ℕ) : Type 0 where
  pub left : ℕ
  pub is : half ≡ 2 ^ left / 2
  pub inside : p + 2 ^ left ≤ len
  pub low : (h ds t : List ℕ) → InColumn from len l h ds t → p ≤ at_least w ds
  pub high : (h ds t : List ℕ) → InColumn from len l h ds t → min (at_least w ds) (len - 1) < p + 2 ^ left

pub halved-start : (from len : ℕ) → Column from len → (l : List ℕ) (w : ℕ) → Halved from len l w 0 (len / 2)
halved-start from len c l w = record { left = c.halvings; is = ap (λ (n : ℕ). n / 2) c.is; inside = omega (arith, c.is); low = λ h ds t i. omega arith; high = λ h ds t i. omega (arith, c.is, pow_pos c.halvings) }

module _ (from len : ℕ) (l : List ℕ) (w p half : ℕ) (b : Halved from len l w p half) where
  pub halved-next : 0 < half → (r : ℕ) → r ≡ cond (leb w (get_or l (from + (p + half - 1)) 0)) (p + half) p → Halved from len l w r (half / 2)
  halved-next pos r e = go b.left b.is b.inside b.high (reach w (get_or l (from + (p + half - 1)) 0))
    where
      go : (n : ℕ) → half ≡ 2 ^ n / 2 → p + 2 ^ n ≤ len → ((h ds t : List ℕ) → InColumn from len l h ds t → min (at_least w ds) (len - 1) < p + 2 ^ n)
          → Reach w (get_or l (from + (p + half - 1)) 0) → Halved from len l w r (half / 2)
      go zero q m f d = absurd (omega (arith, q, pos))
      go (suc k) q m f (above d) =
          let g : half ≡ 2 ^ k = omega (arith, q, pow-suc 2 k) in
          let a : r ≡ p + half = e ∙ ap (λ x. cond x (p + half) p) (le-leb w _ d) in
          record {
            left = k;
            is = ap (λ (x : ℕ). x / 2) g;
            inside = omega (arith, m, g, a, pow-suc 2 k);
            low = λ h ds t i. go-in h ds t i g a;
            high = λ h ds t i. omega (arith, f h ds t i, g, a, pow-suc 2 k);
          }
        where
          go-in : (h ds t : List ℕ) → InColumn from len l h ds t → half ≡ 2 ^ k → r ≡ p + half → r ≤ at_least w ds
          go-in h ds t i g a = passes (reach r (at_least w ds))
            where
              passes : Reach r (at_least w ds) → r ≤ at_least w ds
              passes (above z) = z
              passes (below z) =
                  let j : p + half - 1 < len = omega (arith, m, g, pow-suc 2 k) in
                  absurd (omega (arith, at-least-out w ds i.3 (p + half - 1) (omega (arith, z, a)) (omega (arith, i.2, j)), in-column from len l h ds t i (p + half - 1) j, d))
      go (suc k) q m f (below d) =
          let g : half ≡ 2 ^ k = omega (arith, q, pow-suc 2 k) in
          let a : r ≡ p = e ∙ ap (λ x. cond x (p + half) p) (lt-leb w _ d) in
          record {
            left = k;
            is = ap (λ (x : ℕ). x / 2) g;
            inside = omega (arith, m, g, a, pow-suc 2 k);
            low = λ h ds t i. omega (arith, b.low h ds t i, a);
            high = λ h ds t i. go-out h ds t i g a;
          }
        where
          go-out : (h ds t : List ℕ) → InColumn from len l h ds t → half ≡ 2 ^ k → r ≡ p → min (at_least w ds) (len - 1) < r + 2 ^ k
          go-out h ds t i g a = passes (reach (p + half) (at_least w ds))
            where
              passes : Reach (p + half) (at_least w ds) → min (at_least w ds) (len - 1) < r + 2 ^ k
              passes (below z) = omega (arith, z, g, a)
              passes (above z) =
                  let j : p + half - 1 < len = omega (arith, m, g, pow-suc 2 k) in
                  absurd (omega (arith, at-least-in w ds i.3 (p + half - 1) (omega (arith, z, pos)), in-column from len l h ds t i (p + half - 1) j, d))

  pub halved-end : half ≤ 0 → AtLeast from len l w p
  halved-end z = go b.left b.is b.inside b.high
    where
      go : (n : ℕ) → half ≡ 2 ^ n / 2 → p + 2 ^ n ≤ len → ((h ds t : List ℕ) → InColumn from len l h ds t → min (at_least w ds) (len - 1) < p + 2 ^ n) → AtLeast from len l w p
      go zero q m f = record { inside = omega (arith, m); is = λ h ds t i. omega (arith, b.low h ds t i, f h ds t i, m) }
      go (suc k) q m f = absurd (omega (arith, q, z, pow-suc 2 k, pow_pos k))

-- the same from word `start` on, where p is counted from the column's first word
pub record HalvedFrom (from start len : ℕ) (l : List ℕ) (w p half : ℕ) : Type 0 where
  pub begun : start ≤ p
  pub is : Halved (from + start) len l w (p - start) half

pub halved-from-start : (from start len : ℕ) → Column (from + start) len → (l : List ℕ) (w : ℕ) → HalvedFrom from start len l w start (len / 2)
halved-from-start from start len c l w =
    let e : 0 ≡ start - start = omega arith in
    record { begun = omega arith; is = subst (λ (p : ℕ). Halved (from + start) len l w p (len / 2)) e (halved-start (from + start) len c l w) }

module _ (from start len : ℕ) (l : List ℕ) (w p half : ℕ) (b : HalvedFrom from start len l w p half) where
  pub halved-from-next : 0 < half → (r : ℕ) → r ≡ cond (leb w (get_or l (from + (p + half - 1)) 0)) (p + half) p → HalvedFrom from start len l w r (half / 2)
  halved-from-next pos r e = go (reach w (get_or l (from + (p + half - 1)) 0))
    where
      -- the word that is looked at
      looked : get_or l (from + (p + half - 1)) 0 ≡ get_or l (from + start + (p - start + half - 1)) 0
      looked = ap (λ (n : ℕ). get_or l n 0) (omega (arith, b.begun, pos))

      next : (r - start ≡ cond (leb w (get_or l (from + start + (p - start + half - 1)) 0)) (p - start + half) (p - start)) → start ≤ r → HalvedFrom from start len l w r (half / 2)
      next q k = record { begun = k; is = halved-next (from + start) len l w (p - start) half b.is pos (r - start) q }

      go : Reach w (get_or l (from + (p + half - 1)) 0) → HalvedFrom from start len l w r (half / 2)
      go (above d) =
          let a : r ≡ p + half = e ∙ ap (λ x. cond x (p + half) p) (le-leb w _ d) in
          let s : r - start ≡ p - start + half = omega (arith, a, b.begun) in
          next (s ∙ sym (ap (λ x. cond x (p - start + half) (p - start)) (le-leb w _ (omega (arith, d, looked))))) (omega (arith, a, b.begun))
      go (below d) =
          let a : r ≡ p = e ∙ ap (λ x. cond x (p + half) p) (lt-leb w _ d) in
          let s : r - start ≡ p - start = omega (arith, a) in
          next (s ∙ sym (ap (λ x. cond x (p - start + half) (p - start)) (lt-leb w _ (omega (arith, d, looked))))) (omega (arith, a, b.begun))

  pub halved-from-end : half ≤ 0 → (start ≤ p) × AtLeast (from + start) len l w (p - start)
  halved-from-end z = (b.begun, halved-end (from + start) len l w (p - start) half b.is z)

-- a word that is at least w is among those counted, another is not
module _ (from len : ℕ) (l : List ℕ) (w j : ℕ) (inside : j < len) (h ds t : List ℕ) (i : InColumn from len l h ds t) where
  count-in : w ≤ get_or l (from + j) 0 → j < at_least w ds
  count-in d = at-least-over w ds i.3 j (omega (arith, i.2, inside)) (omega (arith, in-column from len l h ds t i j inside, d))

  count-out : get_or l (from + j) 0 < w → at_least w ds ≤ j
  count-out d = at-least-under w ds i.3 j (omega (arith, i.2, inside)) (omega (arith, in-column from len l h ds t i j inside, d))

-- the word left out is looked at too
pub counted : (from len : ℕ) (l : List ℕ) (w p : ℕ) → AtLeast from len l w p → (r : ℕ) → r ≡ cond (leb w (get_or l (from + p) 0)) (p + 1) p → CountsAtLeast from len l w r
counted from len l w p a r e = go (reach w (get_or l (from + p) 0))
  where
    go : Reach w (get_or l (from + p) 0) → CountsAtLeast from len l w r
    go (above d) =
        let q : r ≡ p + 1 = e ∙ ap (λ x. cond x (p + 1) p) (le-leb w _ d) in
        record {
          inside = omega (arith, q, a.inside);
          is = λ h ds t i. omega (arith, q, count-in from len l w p a.inside h ds t i d, a.is h ds t i, a.inside, at-least-most w ds, i.2);
        }
    go (below d) =
        let q : r ≡ p = e ∙ ap (λ x. cond x (p + 1) p) (lt-leb w _ d) in
        record { inside = omega (arith, q, a.inside); is = λ h ds t i. omega (arith, q, count-out from len l w p a.inside h ds t i d, a.is h ds t i) }

-- where at most p words are at least w
module _ (from len p : ℕ) (l : List ℕ) (w : ℕ) (inside : p ≤ len) where
  module _ (some : 0 < p) where
    pub up-to-all : w ≤ get_or l (from + (p - 1)) 0 → CountsUpTo from len p l w p
    up-to-all d = record { is = λ h ds t i m. omega (arith, m, some, count-in from len l w (p - 1) (omega (arith, inside, some)) h ds t i d) }

    module _ (d : get_or l (from + (p - 1)) 0 < w) where
      pub up-to-first : p ≡ 1 → CountsUpTo from len p l w 0
      up-to-first e = record { is = λ h ds t i m. omega (arith, e, count-out from len l w (p - 1) (omega (arith, inside, some)) h ds t i d) }

      pub up-to-last : 1 < p → w ≤ get_or l (from + (p - 2)) 0 → CountsUpTo from len p l w (p - 1)
      up-to-last k b = record {
        is = λ h ds t i m.
            omega (arith, k, count-out from len l w (p - 1) (omega (arith, inside, some)) h ds t i d, count-in from len l w (p - 2) (omega (arith, inside, some)) h ds t i b);
      }

pub up-to-count : (from len p : ℕ) (l : List ℕ) (w r : ℕ) → CountsAtLeast from len l w r → CountsUpTo from len p l w r
up-to-count from len p l w r c = record { is = λ h ds t i m. c.is h ds t i }
