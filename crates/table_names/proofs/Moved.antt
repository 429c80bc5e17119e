-- Seven words of a table that move up by one, or down.
use Rattle.std.proofs.Common.{◌≡◌, ℕ, ◌+◌, ◌-◌, List, [], ◌∷◌, ◌++◌, length, get_or, take, drop, set, sym, ap, ◌∙◌, ap₂, append_assoc, arith, length-append}
use Rattle.std.proofs.lemmas.List.{take_at, drop_at, set_at}
use Rattle.std.specs.List.{copy_within}
use lib.Seq.{append_snoc, get_or_at}

-- word x comes out
pub moved_up : (p xs : List ℕ) (x : ℕ) (t : List ℕ) (at w : ℕ) → length p ≡ at → length xs ≡ 6
    → set (copy_within (p ++ (xs ++ (x ∷ t))) at (at + 6) (at + 1)) at w ≡ p ++ (w ∷ (xs ++ t))
moved_up p [] x t at w e n = absurd (omega (arith, n))
moved_up p (y ∷ ys) x t at w e n =
    ap (λ (m : List ℕ). set m at w)
    (ap₂ (λ (a b : List ℕ). a ++ b)
    (ap₂ (λ (a b : List ℕ). a ++ b) front (ap (λ (k : ℕ). take k (drop at l)) six ∙ middle) ∙ append_snoc p y (y ∷ ys))
    (ap (λ (k : ℕ). drop k l) to ∙ behind)
    ∙ append_assoc p (y ∷ y ∷ ys) t)
    ∙ set_at p y ((y ∷ ys) ++ t) w at e
  where
    l : List ℕ
    l = p ++ ((y ∷ ys) ++ (x ∷ t))

    six : at + 6 - at ≡ 6
    six = omega arith

    to : at + 1 + (at + 6 - at) ≡ at + 7
    to = omega arith

    front : take (at + 1) l ≡ p ++ (y ∷ [])
    front = ap (take (at + 1)) (sym (append_snoc p y (ys ++ (x ∷ t)))) ∙ take_at (p ++ (y ∷ [])) (ys ++ (x ∷ t)) (at + 1) (omega (arith, length-append p (y ∷ []), e))

    middle : take 6 (drop at l) ≡ y ∷ ys
    middle = ap (take 6) (drop_at p ((y ∷ ys) ++ (x ∷ t)) at e) ∙ take_at (y ∷ ys) (x ∷ t) 6 n

    whole : l ≡ (p ++ ((y ∷ ys) ++ (x ∷ []))) ++ t
    whole = ap (λ (m : List ℕ). p ++ m) (sym (append_snoc (y ∷ ys) x t)) ∙ sym (append_assoc p ((y ∷ ys) ++ (x ∷ [])) t)

    behind : drop (at + 7) l ≡ t
    behind =
        ap (drop (at + 7)) whole
        ∙ drop_at (p ++ ((y ∷ ys) ++ (x ∷ []))) t (at + 7) (omega (arith, length-append p ((y ∷ ys) ++ (x ∷ [])), length-append (y ∷ ys) (x ∷ []), e, n))

pub come-out : (p xs : List ℕ) (x : ℕ) (t : List ℕ) (at : ℕ) → length p ≡ at → length xs ≡ 6 → get_or (p ++ (xs ++ (x ∷ t))) (at + 6) 0 ≡ x
come-out p xs x t at e n =
    ap (λ (m : List ℕ). get_or m (at + 6) 0) (sym (append_assoc p xs (x ∷ t))) ∙ get_or_at (p ++ xs) x t 0 (at + 6) (omega (arith, length-append p xs, e, n))

-- word y stands twice then
pub moved_down : (p : List ℕ) (x : ℕ) (xs : List ℕ) (y : ℕ) (t : List ℕ) (at : ℕ) → length p ≡ at → length xs ≡ 6
    → copy_within (p ++ (x ∷ (xs ++ (y ∷ t)))) (at + 1) (at + 8) at ≡ p ++ ((xs ++ (y ∷ [])) ++ (y ∷ t))
moved_down p x xs y t at e n =
    ap₂ (λ (a b : List ℕ). a ++ b)
    (ap₂ (λ (a b : List ℕ). a ++ b) (take_at p (x ∷ (xs ++ (y ∷ t))) at e) (ap (λ (k : ℕ). take k (drop (at + 1) l)) seven ∙ middle))
    (ap (λ (k : ℕ). drop k l) to ∙ behind)
    ∙ append_assoc p (xs ++ (y ∷ [])) (y ∷ t)
  where
    l : List ℕ
    l = p ++ (x ∷ (xs ++ (y ∷ t)))

    seven : at + 8 - (at + 1) ≡ 7
    seven = omega arith

    to : at + (at + 8 - (at + 1)) ≡ at + 7
    to = omega arith

    middle : take 7 (drop (at + 1) l) ≡ xs ++ (y ∷ [])
    middle =
        ap (λ (m : List ℕ). take 7 (drop (at + 1) m)) (sym (append_snoc p x (xs ++ (y ∷ t))))
        ∙ ap (take 7) (drop_at (p ++ (x ∷ [])) (xs ++ (y ∷ t)) (at + 1) (omega (arith, length-append p (x ∷ []), e)) ∙ sym (append_snoc xs y t))
        ∙ take_at (xs ++ (y ∷ [])) t 7 (omega (arith, length-append xs (y ∷ []), n))

    behind : drop (at + 7) l ≡ y ∷ t
    behind =
        ap (drop (at + 7)) (sym (append_assoc p (x ∷ xs) (y ∷ t)))
        ∙ drop_at (p ++ (x ∷ xs)) (y ∷ t) (at + 7) (omega (arith, length-append p (x ∷ xs), e, n))
