-- A word enters a descending list, or leaves it. The list is descending again, and only the counts of that word change.
use Prim.Native.Nat.{ℕ, zero, suc, ◌+◌, ◌≤◌, ◌<◌}
use mathlib.Core.Path.{◌≡◌, refl, ap, ◌∙◌}
use mathlib.Core.List.{List, [], ◌∷◌, ◌++◌, append_assoc}
use native.Mathlib.Nat.{not-suc-le-zero, le_of_suc-le-suc}
use native.Mathlib.Omega.{arith}
use lib.ListN.{length, get_or, take, drop, length-append}
use Rattle.table_column.specs.Descending.{at_least, Descending, shifted, pushed, inserted_at, removed_at}
use Rattle.table_column.proofs.Descending.{reaches, Reach, above, below, reach, reaches-yes, reaches-not, at-least-none}

pub descending-drop : (p : ℕ) (xs : List ℕ) → Descending xs → Descending (drop p xs)
descending-drop zero xs f = f
descending-drop (suc p) [] f = tt
descending-drop (suc p) (x ∷ xs) f = descending-drop p xs f.1

take-first : (p y : ℕ) (xs : List ℕ) → get_or xs 0 0 ≤ y → get_or (take p xs) 0 0 ≤ y
take-first zero y xs h = omega arith
take-first (suc p) y [] h = h
take-first (suc p) y (x ∷ xs) h = h

pub descending-take : (p : ℕ) (xs : List ℕ) → Descending xs → Descending (take p xs)
descending-take zero xs f = tt
descending-take (suc p) [] f = tt
descending-take (suc p) (x ∷ xs) f = (take-first p x xs f.0, descending-take p xs f.1)

-- ---- a word enters

length-shifted : (w : ℕ) (xs : List ℕ) → length (shifted w xs) ≡ length xs
unfolding shifted
length-shifted w [] = refl
length-shifted w (x ∷ xs) = ap suc (length-shifted x xs)

pub length_inserted : (p w : ℕ) (xs : List ℕ) → length (inserted_at p w xs) ≡ length xs
unfolding inserted_at
length_inserted zero w xs = length-shifted w xs
length_inserted (suc p) w [] = refl
length_inserted (suc p) w (x ∷ xs) = ap suc (length_inserted p w xs)

pub inserted-split : (p w : ℕ) (xs : List ℕ) → p ≤ length xs → inserted_at p w xs ≡ take p xs ++ shifted w (drop p xs)
unfolding inserted_at
inserted-split zero w xs h = refl
inserted-split (suc p) w [] h = absurd (not-suc-le-zero h)
inserted-split (suc p) w (x ∷ xs) h = ap (λ (l : List ℕ). x ∷ l) (inserted-split p w xs (le_of_suc-le-suc h))

-- the words before it stay
pub inserted-before : (p w : ℕ) (xs : List ℕ) (i : ℕ) → p ≤ length xs → i < p → get_or (inserted_at p w xs) i 0 ≡ get_or xs i 0
unfolding inserted_at
inserted-before zero w xs i h l = absurd (not-suc-le-zero l)
inserted-before (suc p) w [] i h l = absurd (not-suc-le-zero h)
inserted-before (suc p) w (x ∷ xs) zero h l = refl
inserted-before (suc p) w (x ∷ xs) (suc i) h l = inserted-before p w xs i (le_of_suc-le-suc h) (le_of_suc-le-suc l)

-- the last word is lost
shifted-count : (v w : ℕ) (xs : List ℕ) → at_least v (shifted w xs) + reaches v (get_or (w ∷ xs) (length xs) 0) ≡ reaches v w + at_least v xs
unfolding at_least shifted
shifted-count v w [] = omega arith
shifted-count v w (x ∷ xs) = let h : at_least v (shifted x xs) + reaches v (get_or (x ∷ xs) (length xs) 0) ≡ reaches v x + at_least v xs = shifted-count v x xs in omega (arith, h)

pub inserted-count : (v p w x : ℕ) (xs : List ℕ) → p ≤ length xs
    → at_least v (inserted_at p w (x ∷ xs)) + reaches v (get_or (x ∷ xs) (length xs) 0) ≡ reaches v w + at_least v (x ∷ xs)
unfolding at_least inserted_at
inserted-count v zero w x xs h = shifted-count v w (x ∷ xs)
inserted-count v (suc p) w x [] h = absurd (not-suc-le-zero h)
inserted-count v (suc p) w x (y ∷ ys) h =
    let r : at_least v (inserted_at p w (y ∷ ys)) + reaches v (get_or (y ∷ ys) (length ys) 0) ≡ reaches v w + at_least v (y ∷ ys) = inserted-count v p w y ys (le_of_suc-le-suc h) in
    omega (arith, r)

shifted-first : (w : ℕ) (xs : List ℕ) → get_or (shifted w xs) 0 0 ≤ w
unfolding shifted
shifted-first w [] = omega arith
shifted-first w (x ∷ xs) = omega arith

shifted-descends : (w : ℕ) (xs : List ℕ) → Descending xs → get_or xs 0 0 ≤ w → Descending (shifted w xs)
unfolding shifted
shifted-descends w [] f h = tt
shifted-descends w (x ∷ xs) f h = (omega (arith, shifted-first x xs, h), shifted-descends x xs f.1 f.0)

inserted-first : (p w y : ℕ) (xs : List ℕ) → w ≤ y → get_or xs 0 0 ≤ y → get_or (inserted_at p w xs) 0 0 ≤ y
unfolding inserted_at
inserted-first zero w y xs h l = omega (arith, shifted-first w xs, h)
inserted-first (suc p) w y [] h l = l
inserted-first (suc p) w y (x ∷ xs) h l = l

pub inserted-descends : (w : ℕ) (xs : List ℕ) → Descending xs → Descending (inserted_at (at_least w xs) w xs)
unfolding at_least inserted_at shifted
inserted-descends w [] f = tt
inserted-descends w (x ∷ xs) f = go (reach w x) (inserted-descends w xs f.1)
  where
    go : Reach w x → Descending (inserted_at (at_least w xs) w xs) → Descending (inserted_at (reaches w x + at_least w xs) w (x ∷ xs))
    go (above h) r =
        let e : reaches w x + at_least w xs ≡ suc (at_least w xs) = omega (arith, reaches-yes w x h) in
        rw e (inserted-first (at_least w xs) w x xs h f.0, r)
    go (below h) r =
        let e : reaches w x + at_least w xs ≡ 0 = omega (arith, reaches-not w x h, at-least-none w xs f.1 (omega (arith, f.0, h))) in
        rw e (shifted-descends w (x ∷ xs) f (omega (arith, h)))

-- behind a 0 there are zeros only
pub shifted-zeros : (xs : List ℕ) → Descending xs → get_or xs 0 0 ≤ 0 → shifted 0 xs ≡ xs
unfolding shifted
shifted-zeros [] f h = refl
shifted-zeros (x ∷ xs) f h =
    let e : x ≡ 0 = omega (arith, h) in
    rw e (ap (λ (l : List ℕ). 0 ∷ l) (shifted-zeros xs f.1 (omega (arith, f.0, e))))

-- a part of a list, and the words behind it
pub shifted-append : (w : ℕ) (xs ys : List ℕ) → shifted w (xs ++ ys) ≡ shifted w xs ++ shifted (pushed w xs) ys
unfolding shifted pushed
shifted-append w [] ys = refl
shifted-append w (x ∷ xs) ys = ap (λ (l : List ℕ). w ∷ l) (shifted-append x xs ys)

pub inserted-append : (p w : ℕ) (xs ys : List ℕ) → p ≤ length xs → inserted_at p w (xs ++ ys) ≡ inserted_at p w xs ++ shifted (pushed w (drop p xs)) ys
unfolding inserted_at
inserted-append zero w xs ys h = shifted-append w xs ys
inserted-append (suc p) w [] ys h = absurd (not-suc-le-zero h)
inserted-append (suc p) w (x ∷ xs) ys h = ap (λ (l : List ℕ). x ∷ l) (inserted-append p w xs ys (le_of_suc-le-suc h))

pub shifted-snoc : (w : ℕ) (xs : List ℕ) (x : ℕ) → shifted w (xs ++ (x ∷ [])) ≡ w ∷ xs
unfolding shifted
shifted-snoc w [] x = refl
shifted-snoc w (y ∷ xs) x = ap (λ (l : List ℕ). w ∷ l) (shifted-snoc y xs x)

pub pushed-snoc : (w : ℕ) (xs : List ℕ) (x : ℕ) → pushed w (xs ++ (x ∷ [])) ≡ x
unfolding pushed
pushed-snoc w [] x = refl
pushed-snoc w (y ∷ xs) x = pushed-snoc y xs x

pub pushed-zeros : (xs : List ℕ) → Descending xs → get_or xs 0 0 ≤ 0 → pushed 0 xs ≡ 0
unfolding pushed
pushed-zeros [] f h = refl
pushed-zeros (x ∷ xs) f h =
    let e : x ≡ 0 = omega (arith, h) in
    rw e (pushed-zeros xs f.1 (omega (arith, f.0, e)))

-- ---- a word leaves

length-snoc : (xs : List ℕ) (a : ℕ) → length (xs ++ (a ∷ [])) ≡ suc (length xs)
length-snoc xs a = length-append xs (a ∷ []) ∙ omega arith

pub length_removed : (p : ℕ) (xs : List ℕ) → length (removed_at p xs) ≡ length xs
unfolding removed_at
length_removed p [] = refl
length_removed zero (x ∷ xs) = length-snoc xs 0
length_removed (suc p) (x ∷ xs) = ap suc (length_removed p xs)

pub removed-split : (p : ℕ) (xs : List ℕ) → p < length xs → removed_at p xs ≡ take p xs ++ (drop (suc p) xs ++ (0 ∷ []))
unfolding removed_at
removed-split p [] h = absurd (not-suc-le-zero h)
removed-split zero (x ∷ xs) h = refl
removed-split (suc p) (x ∷ xs) h = ap (λ (l : List ℕ). x ∷ l) (removed-split p xs (le_of_suc-le-suc h))

-- a part of a list, and the words behind it
pub removed-append : (p : ℕ) (xs ys : List ℕ) → p < length xs → removed_at p (xs ++ ys) ≡ (take p xs ++ drop (suc p) xs) ++ (ys ++ (0 ∷ []))
unfolding removed_at
removed-append p [] ys h = absurd (not-suc-le-zero h)
removed-append zero (x ∷ xs) ys h = append_assoc xs ys (0 ∷ [])
removed-append (suc p) (x ∷ xs) ys h = ap (λ (l : List ℕ). x ∷ l) (removed-append p xs ys (le_of_suc-le-suc h))

snoc-count : (v : ℕ) (xs : List ℕ) (a : ℕ) → at_least v (xs ++ (a ∷ [])) ≡ at_least v xs + reaches v a
unfolding at_least
snoc-count v [] a = omega arith
snoc-count v (x ∷ xs) a = omega (arith, snoc-count v xs a)

pub removed-count : (v p : ℕ) (xs : List ℕ) → p < length xs → at_least v (removed_at p xs) + reaches v (get_or xs p 0) ≡ at_least v xs + reaches v 0
unfolding at_least removed_at
removed-count v p [] h = absurd (not-suc-le-zero h)
removed-count v zero (x ∷ xs) h = omega (arith, snoc-count v xs 0)
removed-count v (suc p) (x ∷ xs) h = omega (arith, removed-count v p xs (le_of_suc-le-suc h))

snoc-first : (xs : List ℕ) (y : ℕ) → get_or xs 0 0 ≤ y → get_or (xs ++ (0 ∷ [])) 0 0 ≤ y
snoc-first [] y h = omega arith
snoc-first (x ∷ xs) y h = h

snoc-descends : (xs : List ℕ) → Descending xs → Descending (xs ++ (0 ∷ []))
snoc-descends [] f = (omega arith, tt)
snoc-descends (x ∷ xs) f = (snoc-first xs x f.0, snoc-descends xs f.1)

removed-first : (p : ℕ) (xs : List ℕ) → Descending xs → (y : ℕ) → get_or xs 0 0 ≤ y → get_or (removed_at p xs) 0 0 ≤ y
unfolding removed_at
removed-first p [] f y h = h
removed-first zero (x ∷ xs) f y h = snoc-first xs y (omega (arith, f.0, h))
removed-first (suc p) (x ∷ xs) f y h = h

pub removed-descends : (p : ℕ) (xs : List ℕ) → Descending xs → Descending (removed_at p xs)
unfolding removed_at
removed-descends p [] f = tt
removed-descends zero (x ∷ xs) f = snoc-descends xs f.1
removed-descends (suc p) (x ∷ xs) f = (removed-first p xs f.1 x f.0, removed-descends p xs f.1)

pub snoc-zeros : (xs : List ℕ) → Descending xs → get_or xs 0 0 ≤ 0 → xs ++ (0 ∷ []) ≡ 0 ∷ xs
snoc-zeros [] f h = refl
snoc-zeros (x ∷ xs) f h =
    let e : x ≡ 0 = omega (arith, h) in
    rw e (ap (λ (l : List ℕ). 0 ∷ l) (snoc-zeros xs f.1 (omega (arith, f.0, e))))
