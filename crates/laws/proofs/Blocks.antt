-- Laws of blocks and of runs of stores, over any width.
use mathlib.Core.Path.{◌≡◌, refl, sym, ap, ◌∙◌}
use Prim.Native.Nat.{ℕ, zero, suc, ◌+◌, ◌*◌, ◌<◌}
use native.Mathlib.Nat.{zero-mul, zero-add, suc-mul, add-zero, add_comm, add-suc, not-suc-le-zero, le_of_suc-le-suc, suc_inj}
use native.Mathlib.Numerals.{add-one}
use native.Mathlib.Omega.{arith}
use mathlib.Core.List.{List, [], ◌∷◌, ◌++◌, append_assoc, append-nil}
use lib.ListN.{length, get_or, set, drop, length-append, replicate, replicate-append-replicate}
use lib.Seq.{sets, set-append_seam, append_snoc, drop-append-add}
use Rattle.laws.specs.Blocks.{flat, put_from, put}

pub put_from-sets : (l : List ℕ) (b k : ℕ) (vs : List ℕ) → put_from l b k vs ≡ sets l (b + k) vs
put_from-sets l b k [] = refl
put_from-sets l b k (v ∷ vs) =
    put_from-sets (set l (b + k) v) b (k + 1) vs
    ∙ ap (λ (n : ℕ). sets (set l (b + k) v) n vs) (ap (λ (m : ℕ). b + m) (add-one k) ∙ add-suc b k)

pub put-sets : (l : List ℕ) (b : ℕ) (vs : List ℕ) → put l b vs ≡ sets l b vs
put-sets l b [] = refl
put-sets l b (v ∷ vs) = put_from-sets (set l b v) b 1 vs ∙ ap (λ (n : ℕ). sets (set l b v) n vs) (add-one b)

-- what stands between p and r is replaced
pub sets-mid : (p q r v : List ℕ) → length q ≡ length v → sets (p ++ (q ++ r)) (length p) v ≡ p ++ (v ++ r)
sets-mid p [] r [] e = refl
sets-mid p (x ∷ q) r [] e = absurd (omega (arith, e))
sets-mid p [] r (a ∷ v) e = absurd (omega (arith, e))
sets-mid p (x ∷ q) r (a ∷ v) e =
    ap (λ (l : List ℕ). sets l (suc (length p)) v) (set-append_seam p x (q ++ r) a ∙ sym (append_snoc p a (q ++ r)))
    ∙ ap (λ (n : ℕ). sets ((p ++ (a ∷ [])) ++ (q ++ r)) n v) (sym (length-append p (a ∷ []) ∙ add-one (length p)))
    ∙ sets-mid (p ++ (a ∷ [])) q r v (suc_inj e)
    ∙ append_snoc p a (v ++ r)

pub put-mid : (p q r v : List ℕ) → length q ≡ length v → put (p ++ (q ++ r)) (length p) v ≡ p ++ (v ++ r)
put-mid p q r v e = put-sets (p ++ (q ++ r)) (length p) v ∙ sets-mid p q r v e

module _ {A : Type 0} (f : A → List ℕ) (w : ℕ) (wide : (a : A) → length (f a) ≡ w) where
  pub length-flat : (xs : List A) → length (flat f xs) ≡ length xs * w
  length-flat [] = sym (zero-mul w)
  length-flat (a ∷ xs) =
      length-append (f a) (flat f xs) ∙ ap (λ (n : ℕ). n + length (flat f xs)) (wide a)
      ∙ ap (λ (n : ℕ). w + n) (length-flat xs) ∙ add_comm w (length xs * w) ∙ sym (suc-mul (length xs) w)

  -- the words from block i on, of a list that goes on after the blocks
  pub drop-flat : (xs : List A) (t : List ℕ) (i : ℕ) (d : A) → i < length xs
      → drop (i * w) (flat f xs ++ t) ≡ f (get_or xs i d) ++ (flat f (drop (suc i) xs) ++ t)
  drop-flat [] t i d h = absurd (not-suc-le-zero h)
  drop-flat (a ∷ xs) t zero d h =
      ap (λ (n : ℕ). drop n (flat f (a ∷ xs) ++ t)) (zero-mul w) ∙ append_assoc (f a) (flat f xs) t
  drop-flat (a ∷ xs) t (suc i) d h =
      ap (λ (n : ℕ). drop n (flat f (a ∷ xs) ++ t)) (suc-mul i w ∙ add_comm (i * w) w ∙ ap (λ (n : ℕ). n + i * w) (sym (wide a)))
      ∙ ap (λ (l : List ℕ). drop (length (f a) + i * w) l) (append_assoc (f a) (flat f xs) t)
      ∙ drop-append-add (f a) (flat f xs ++ t) (i * w)
      ∙ drop-flat xs t i d (le_of_suc-le-suc h)

  -- a part of block i replaced
  pub part-flat : (h : List ℕ) (xs : List A) (t : List ℕ) (i : ℕ) (d a : A) (p q v r : List ℕ) → i < length xs
      → f (get_or xs i d) ≡ p ++ (q ++ r) → f a ≡ p ++ (v ++ r) → length q ≡ length v
      → put (h ++ (flat f xs ++ t)) (length h + (i * w + length p)) v ≡ h ++ (flat f (set xs i a) ++ t)
  part-flat h [] t i d a p q v r l e g s = absurd (not-suc-le-zero l)
  part-flat h (b ∷ xs) t zero d a p q v r l e g s =
      ap (λ (n : ℕ). put (h ++ ((f b ++ flat f xs) ++ t)) n v)
      (ap (λ (n : ℕ). length h + (n + length p)) (zero-mul w) ∙ ap (λ (n : ℕ). length h + n) (zero-add (length p)) ∙ sym (length-append h p))
      ∙ ap (λ (m : List ℕ). put m (length (h ++ p)) v) (ap (λ (m : List ℕ). h ++ ((m ++ flat f xs) ++ t)) e ∙ inner h p q r (flat f xs) t)
      ∙ put-mid (h ++ p) q (r ++ (flat f xs ++ t)) v s
      ∙ sym (ap (λ (m : List ℕ). h ++ ((m ++ flat f xs) ++ t)) g ∙ inner h p v r (flat f xs) t)
    where
      inner : (x y z u k m : List ℕ) → x ++ (((y ++ (z ++ u)) ++ k) ++ m) ≡ (x ++ y) ++ (z ++ (u ++ (k ++ m)))
      inner x y z u k m = simp append_assoc
  part-flat h (b ∷ xs) t (suc i) d a p q v r l e g s =
      ap (λ (n : ℕ). put (h ++ ((f b ++ flat f xs) ++ t)) n v) (shifted (length h) (length p) ∙ ap (λ (n : ℕ). n + (i * w + length p)) (sym (length-append h (f b))))
      ∙ ap (λ (m : List ℕ). put m (length (h ++ f b) + (i * w + length p)) v) (regroup h (f b) (flat f xs) t)
      ∙ part-flat (h ++ f b) xs t i d a p q v r (le_of_suc-le-suc l) e g s
      ∙ sym (regroup h (f b) (flat f (set xs i a)) t)
    where
      regroup : (x y z u : List ℕ) → x ++ ((y ++ z) ++ u) ≡ (x ++ y) ++ (z ++ u)
      regroup x y z u = simp append_assoc

      shifted : (m n : ℕ) → m + (suc i * w + n) ≡ m + length (f b) + (i * w + n)
      shifted m n = omega (arith, suc-mul i w, wide b)

  -- block i replaced
  pub put-flat : (h : List ℕ) (xs : List A) (t : List ℕ) (i : ℕ) (d a : A) → i < length xs
      → put (h ++ (flat f xs ++ t)) (length h + i * w) (f a) ≡ h ++ (flat f (set xs i a) ++ t)
  put-flat h xs t i d a l =
      ap (λ (n : ℕ). put (h ++ (flat f xs ++ t)) (length h + n) (f a)) (sym (add-zero (i * w)))
      ∙ part-flat h xs t i d a [] (f (get_or xs i d)) (f a) [] l (sym (append-nil (f (get_or xs i d)))) (sym (append-nil (f a))) (wide (get_or xs i d) ∙ sym (wide a))

  -- a block that is already there changes nothing
  pub flat-same : (xs : List A) (i : ℕ) (a d : A) → i < length xs → f a ≡ f (get_or xs i d) → flat f (set xs i a) ≡ flat f xs
  flat-same [] i a d h e = refl
  flat-same (x ∷ xs) zero a d h e = ap (λ (l : List ℕ). l ++ flat f xs) e
  flat-same (x ∷ xs) (suc i) a d h e = ap (λ (l : List ℕ). f x ++ l) (flat-same xs i a d (le_of_suc-le-suc h) e)

  -- a row of zero blocks is zero
  pub flat-zeros : (a : A) → f a ≡ replicate w 0 → (n : ℕ) → flat f (replicate n a) ≡ replicate (n * w) 0
  flat-zeros a e zero = ap (λ (k : ℕ). replicate k 0) (sym (zero-mul w))
  flat-zeros a e (suc n) =
      ap (λ (l : List ℕ). l ++ flat f (replicate n a)) e
      ∙ ap (λ (l : List ℕ). replicate w 0 ++ l) (flat-zeros a e n)
      ∙ replicate-append-replicate w (n * w) 0
      ∙ ap (λ (k : ℕ). replicate k 0) (add_comm w (n * w) ∙ sym (suc-mul n w))
