-- Two descending lists: one has a word w where the other has a 0. The word w enters the one, and leaves the other.
use Prim.Native.Nat.{ℕ, suc, ◌+◌, ◌≤◌, ◌<◌}
use mathlib.Core.Path.{◌≡◌, refl, sym, ap, subst, ◌∙◌}
use mathlib.Core.List.{List, [], ◌∷◌}
use native.Mathlib.Nat.{not-suc-le-zero, le_of_suc-le-suc}
use native.Mathlib.Omega.{arith}
use lib.ListN.{length, get_or}
use Rattle.table_column.specs.Descending.{at_least, Descending, inserted_at, removed_at}
use Rattle.table_column.proofs.Descending.{reaches, reaches-yes, reaches-not, at-least-most, at-least-fewer, at-least-in, at-least-out, descending-same}
use Rattle.table_column.proofs.Shifts.{length_inserted, inserted-count, inserted-descends, length_removed, removed-count, removed-descends}

module _ (ds es : List ℕ) (w : ℕ) (falls : Descending ds) (falls-too : Descending es) (positive : 0 < w) (size : length es ≡ length ds)
    (more : (v : ℕ) → at_least v es + reaches v 0 ≡ at_least v ds + reaches v w) where
  -- there is room for it
  room : (v : ℕ) → 0 < v → v ≤ w → at_least v ds < length ds
  room v p h = omega (arith, more v, reaches-not v 0 p, reaches-yes v w h, at-least-most v es, size)

  last_word : (x : ℕ) (xs : List ℕ) → ds ≡ x ∷ xs → get_or (x ∷ xs) (length xs) 0 ≡ 0
  last_word x xs e =
      let n : suc (length xs) ≡ length ds = sym (ap length e) in
      let f : Descending (x ∷ xs) = subst Descending e falls in
      let c : at_least 1 (x ∷ xs) < length ds = subst (λ (l : List ℕ). at_least 1 l < length ds) e (room 1 (omega arith) (omega (arith, positive))) in
      omega (arith, at-least-out 1 (x ∷ xs) f (length xs) (omega (arith, c, n)) (omega arith))

  enters-count : (v p : ℕ) (xs : List ℕ) → ds ≡ xs → p < length xs → at_least v (inserted_at p w xs) + reaches v 0 ≡ reaches v w + at_least v xs
  enters-count v p [] e h = absurd (not-suc-le-zero h)
  enters-count v p (x ∷ xs) e h = ap (λ (n : ℕ). at_least v (inserted_at p w (x ∷ xs)) + reaches v n) (sym (last_word x xs e)) ∙ inserted-count v p w x xs (le_of_suc-le-suc h)

  pub enters : (at_least w ds < length ds) × (es ≡ inserted_at (at_least w ds) w ds)
  enters =
      let r : at_least w ds < length ds = room w positive (omega arith) in (
        r,
        descending-same es (inserted_at (at_least w ds) w ds) falls-too (inserted-descends w ds falls)
            (size ∙ sym (length_inserted (at_least w ds) w ds))
            (λ v. omega (arith, more v, enters-count v (at_least w ds) ds refl r)),
      )

  -- it stands first among the words that are not above it
  found : (at_least (w + 1) es < length es) × (get_or es (at_least (w + 1) es) 0 ≡ w)
  found =
      let p : ℕ = at_least (w + 1) es in
      let l : p < at_least w es =
      omega (arith, more w, more (w + 1), reaches-not w 0 positive, reaches-not (w + 1) 0 (omega arith), reaches-yes w w (omega arith), reaches-not (w + 1) w (omega arith), at-least-fewer w (w + 1) ds (omega arith)) in
      let h : p < length es = omega (arith, l, at-least-most w es) in
      (h, omega (arith, at-least-in w es falls-too p l, at-least-out (w + 1) es falls-too p (omega arith) h))

  pub leaves : (at_least (w + 1) es < length es) × (ds ≡ removed_at (at_least (w + 1) es) es)
  leaves =
      let p : ℕ = at_least (w + 1) es in (
        found.0,
        descending-same ds (removed_at p es) falls (removed-descends p es falls-too) (sym (length_removed p es ∙ size))
            (λ v. omega (arith, more v, ap (reaches v) found.1, removed-count v p es found.0)),
      )
