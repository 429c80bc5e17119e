-- Falling lists: how many words are at least some number says which words they are.
use Prim.Native.Nat.{ℕ, zero, suc, ◌+◌, ◌≤◌, ◌<◌}
use mathlib.Core.Path.{◌≡◌, refl, sym}
use mathlib.Core.Bool.{Bool, true, false, cond}
use mathlib.Core.List.{List, [], ◌∷◌}
use native.Mathlib.Nat.{not-suc-le-zero, le_of_suc-le-suc, le_antisymm, le_trans}
use native.Mathlib.Omega.{arith}
use lib.Dec.{leb}
use lib.ListN.{length, get_or}
use lib.Seq.{ext_get_or}
use borrow.Author.Tests.{leb-true, leb-false, le-leb, lt-leb}
use Rattle.table_column.specs.Descending.{at_least, Descending}

-- 1 if the word is at least that number
abbrev pub reaches : (least word : ℕ) → ℕ
reaches w x = cond (leb w x) 1 0

pub reaches-yes : (w x : ℕ) → w ≤ x → reaches w x ≡ 1
reaches-yes w x h = rw (le-leb w x h)

pub reaches-not : (w x : ℕ) → x < w → reaches w x ≡ 0
reaches-not w x h = rw (lt-leb w x h)

-- it is, or it is below
pub data Reach (w x : ℕ) : Type 0 where
  above : w ≤ x → Reach w x
  below : x < w → Reach w x

pub reach : (w x : ℕ) → Reach w x
reach w x = go (leb w x) refl
  where
    go : (b : Bool) → leb w x ≡ b → Reach w x
    go true e = above (leb-true w x e)
    go false e = below (leb-false w x e)

reaches-fewer : (v w x : ℕ) → v ≤ w → reaches w x ≤ reaches v x
reaches-fewer v w x h = go (reach w x)
  where
    go : Reach w x → reaches w x ≤ reaches v x
    go (above l) = omega (arith, reaches-yes w x l, reaches-yes v x (le_trans h l))
    go (below l) = omega (arith, reaches-not w x l)

-- ---- any list

pub at-least-most : (w : ℕ) (xs : List ℕ) → at_least w xs ≤ length xs
unfolding at_least
at-least-most w [] = omega arith
at-least-most w (x ∷ xs) = omega (arith, reaches-fewer 0 w x (omega arith), reaches-yes 0 x (omega arith), at-least-most w xs)

pub at-least-fewer : (v w : ℕ) (xs : List ℕ) → v ≤ w → at_least w xs ≤ at_least v xs
unfolding at_least
at-least-fewer v w [] h = omega arith
at-least-fewer v w (x ∷ xs) h = omega (arith, reaches-fewer v w x h, at-least-fewer v w xs h)

-- a word is counted for itself and not for what is above it
pub at-least-drops : (w : ℕ) (xs : List ℕ) (j : ℕ) → j < length xs → get_or xs j 0 < w → at_least w xs < at_least (get_or xs j 0) xs
unfolding at_least
at-least-drops w [] j l h = absurd (not-suc-le-zero l)
at-least-drops w (x ∷ xs) zero l h =
    omega (arith, reaches-not w x h, reaches-yes x x (omega arith), at-least-fewer x w xs (omega (arith, h)))
at-least-drops w (x ∷ xs) (suc j) l h =
    omega (arith, at-least-drops w xs j (le_of_suc-le-suc l) h, reaches-fewer (get_or xs j 0) w x (omega (arith, h)))

-- where fewer words are above a number than are at least it, it is one of them
pub record Among (w : ℕ) (xs : List ℕ) : Type 0 where
  pub place : ℕ
  pub inside : place < length xs
  pub is : get_or xs place 0 ≡ w

pub at-least-among : (w : ℕ) (xs : List ℕ) → at_least (suc w) xs < at_least w xs → Among w xs
unfolding at_least
at-least-among w [] h = absurd (not-suc-le-zero h)
at-least-among w (x ∷ xs) h = go (λ q. at-least-among w xs q) (reach w x) (reach (suc w) x)
  where
    behind : Among w xs → Among w (x ∷ xs)
    behind a = record { place = suc a.place; inside = omega (arith, a.inside); is = a.is }

    go : (at_least (suc w) xs < at_least w xs → Among w xs) → Reach w x → Reach (suc w) x → Among w (x ∷ xs)
    go rest (above l) (above m) = behind (rest (omega (arith, h, reaches-yes w x l, reaches-yes (suc w) x m)))
    go rest (above l) (below m) = record { place = 0; inside = omega arith; is = omega (arith, l, m) }
    go rest (below l) m = behind (rest (omega (arith, h, reaches-not w x l)))

-- ---- descending lists

pub at-least-none : (w : ℕ) (xs : List ℕ) → Descending xs → get_or xs 0 0 < w → at_least w xs ≡ 0
unfolding at_least
at-least-none w [] f h = refl
at-least-none w (x ∷ xs) f h = omega (arith, reaches-not w x h, at-least-none w xs f.1 (omega (arith, f.0, h)))

-- the words that are counted are the first ones
pub at-least-in : (w : ℕ) (xs : List ℕ) → Descending xs → (j : ℕ) → j < at_least w xs → w ≤ get_or xs j 0
unfolding at_least
at-least-in w [] f j h = absurd (not-suc-le-zero h)
at-least-in w (x ∷ xs) f j h = go (λ k q. at-least-in w xs f.1 k q) (reach w x) j h
  where
    go : ((k : ℕ) → k < at_least w xs → w ≤ get_or xs k 0) → Reach w x → (j : ℕ) → j < reaches w x + at_least w xs → w ≤ get_or (x ∷ xs) j 0
    go rest (above l) zero q = l
    go rest (above l) (suc j) q = rest j (omega (arith, q, reaches-yes w x l))
    go rest (below l) j q = absurd (omega (arith, q, reaches-not w x l, at-least-none w xs f.1 (omega (arith, f.0, l))))

pub at-least-out : (w : ℕ) (xs : List ℕ) → Descending xs → (j : ℕ) → at_least w xs ≤ j → j < length xs → get_or xs j 0 < w
unfolding at_least
at-least-out w [] f j h l = absurd (not-suc-le-zero l)
at-least-out w (x ∷ xs) f j h l = go (λ k q m. at-least-out w xs f.1 k q m) (reach w x) j h l
  where
    go : ((k : ℕ) → at_least w xs ≤ k → k < length xs → get_or xs k 0 < w) → Reach w x → (j : ℕ) → reaches w x + at_least w xs ≤ j → j < suc (length xs) → get_or (x ∷ xs) j 0 < w
    go rest (above q) zero m n = absurd (omega (arith, m, reaches-yes w x q))
    go rest (above q) (suc j) m n = rest j (omega (arith, m, reaches-yes w x q)) (le_of_suc-le-suc n)
    go rest (below q) zero m n = q
    go rest (below q) (suc j) m n = rest j (omega (arith, m, at-least-none w xs f.1 (omega (arith, f.0, q)))) (le_of_suc-le-suc n)

-- a word that is at least w is among them, another is not
module _ (w : ℕ) (xs : List ℕ) (f : Descending xs) (j : ℕ) (l : j < length xs) where
  pub at-least-over : w ≤ get_or xs j 0 → j < at_least w xs
  at-least-over d = go (reach (suc j) (at_least w xs))
    where
      go : Reach (suc j) (at_least w xs) → j < at_least w xs
      go (above h) = h
      go (below h) = absurd (omega (arith, at-least-out w xs f j (omega (arith, h)) l, d))

  pub at-least-under : get_or xs j 0 < w → at_least w xs ≤ j
  at-least-under d = go (reach (suc j) (at_least w xs))
    where
      go : Reach (suc j) (at_least w xs) → at_least w xs ≤ j
      go (above h) = absurd (omega (arith, at-least-in w xs f j h, d))
      go (below h) = omega (arith, h)

-- a word is counted for itself
pub at-least-self : (xs : List ℕ) → Descending xs → (j : ℕ) → j < length xs → j < at_least (get_or xs j 0) xs
at-least-self xs f j l = at-least-over (get_or xs j 0) xs f j l (omega arith)

pub descending-le : (xs : List ℕ) → Descending xs → (j i : ℕ) → j ≤ i → get_or xs i 0 ≤ get_or xs j 0
descending-le [] f j i h = omega arith
descending-le (x ∷ xs) f zero zero h = omega arith
descending-le (x ∷ xs) f zero (suc i) h = omega (arith, descending-le xs f.1 0 i (omega arith), f.0)
descending-le (x ∷ xs) f (suc j) zero h = absurd (not-suc-le-zero h)
descending-le (x ∷ xs) f (suc j) (suc i) h = descending-le xs f.1 j i (le_of_suc-le-suc h)

-- so two descending lists with the same counts are one list
pub descending-same : (xs ys : List ℕ) → Descending xs → Descending ys → length xs ≡ length ys → ((w : ℕ) → at_least w xs ≡ at_least w ys) → xs ≡ ys
descending-same xs ys f g n e =
    ext_get_or 0 xs ys n (λ j l. le_antisymm (up xs ys f g (λ w. e w) j l) (up ys xs g f (λ w. sym (e w)) j (omega (arith, n, l))))
  where
    up : (xs ys : List ℕ) → Descending xs → Descending ys → ((w : ℕ) → at_least w xs ≡ at_least w ys) → (j : ℕ) → j < length xs → get_or xs j 0 ≤ get_or ys j 0
    up xs ys f g e j l = at-least-in (get_or xs j 0) ys g j (omega (arith, e (get_or xs j 0), at-least-self xs f j l))
