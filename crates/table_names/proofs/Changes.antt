-- What a change of some words of the directory does to its samples: only the last word of a block is in one.
use Rattle.std.proofs.Common.{◌≡◌, ℕ, suc, ◌+◌, ◌-◌, ◌*◌, ◌/◌, ◌%◌, ◌<◌, ◌≤◌, Bool, true, false, cond, eqb, ltb, ◌≢◌, List, [], ◌∷◌, ◌++◌, length, get_or, take, drop, set, sym, refl, ap, ◌∙◌, append_assoc, zero-add, arith, length-append, take-append-drop, length-take-le, get_or-set_other, get_or-append-add, ltb-true, lt-ltb, eq-eqb, ne_eqb, eqb-true}
use lib.ListN.{get_or-append}
use lib.Seq.{set_at, get_or_at}
use borrow.Author.Tests.{eqb-false}
use Rattle.laws.proofs.Rows.{length-row, row_same, row-set}
use Rattle.model.specs.State.{capacity}
use Rattle.table.specs.Layout.{sample_word, samples, sampled, groups, samples_from, finer_from, directory_from}
use Rattle.table.proofs.Records.{set-inside}
use Rattle.table_column.specs.Column.{InColumn}
use Rattle.table_column.proofs.Descending.{Reach, above, below, reach}
use Rattle.table_column.proofs.Shifts.{descending-take}
use Rattle.table_column.proofs.Moves.{read_at, store_at}
use Rattle.table_names.specs.Filing.{InDirectory, last_put, both_samples}
use Rattle.table_names.proofs.Samples.{sampled-is, length_both, directory-column}

pub sampled-again : (h xs ds t : List ℕ) → xs ≡ ds → h ++ (both_samples xs ++ (xs ++ t)) ≡ h ++ (sampled ds ++ t)
sampled-again h xs ds t e = ap (λ (l : List ℕ). h ++ l) (sym (sampled-is xs t) ∙ ap (λ (l : List ℕ). sampled l ++ t) e)

-- ---- the last words of blocks stay

samples-same : (k n : ℕ) (xs ys : List ℕ) → ((j : ℕ) → j * k + k < capacity → get_or xs (j * k + (k - 1)) 0 ≡ get_or ys (j * k + (k - 1)) 0) → samples k n xs ≡ samples k n ys
samples-same k n xs ys f = row_same (sample_word k xs) (sample_word k ys) 0 n (λ j _ _. go j (ltb (j * k + k) capacity) refl)
  where
    go : (j : ℕ) (b : Bool) → ltb (j * k + k) capacity ≡ b → cond b (get_or xs (j * k + (k - 1)) 0) 0 ≡ cond b (get_or ys (j * k + (k - 1)) 0) 0
    go j true e = f j (ltb-true (j * k + k) capacity e)
    go j false e = refl

pub both-same : (xs ys : List ℕ) → ((j : ℕ) → j * 8 + 8 < capacity → get_or xs (j * 8 + 7) 0 ≡ get_or ys (j * 8 + 7) 0) → both_samples xs ≡ both_samples ys
both-same xs ys f =
    ap (λ (l : List ℕ). l ++ samples 8 (8 * groups) xs) (samples-same 64 groups xs ys coarse)
    ∙ ap (λ (l : List ℕ). samples 64 groups ys ++ l) (samples-same 8 (8 * groups) xs ys f)
  where
    coarse : (j : ℕ) → j * 64 + 64 < capacity → get_or xs (j * 64 + (64 - 1)) 0 ≡ get_or ys (j * 64 + (64 - 1)) 0
    coarse j h =
        let e : j * 64 + (64 - 1) ≡ (j * 8 + 7) * 8 + 7 = omega arith in
        ap (λ (n : ℕ). get_or xs n 0) e ∙ f (j * 8 + 7) (omega (arith, h)) ∙ ap (λ (n : ℕ). get_or ys n 0) (sym e)

-- where only words of one block but its last change
pub both-kept : (b p : ℕ) (xs ys c : List ℕ) → length xs ≡ b * 8 + 7 → length ys ≡ b * 8 + 7 → b * 8 ≤ p → ((i : ℕ) → i < p → get_or xs i 0 ≡ get_or ys i 0)
    → both_samples (xs ++ c) ≡ both_samples (ys ++ c)
both-kept b p xs ys c m n q f = both-same (xs ++ c) (ys ++ c) (λ j h. go j (reach (suc j) b))
  where
    go : (j : ℕ) → Reach (suc j) b → get_or (xs ++ c) (j * 8 + 7) 0 ≡ get_or (ys ++ c) (j * 8 + 7) 0
    go j (above h) =
        get_or-append xs c 0 (j * 8 + 7) (omega (arith, h, m)) ∙ f (j * 8 + 7) (omega (arith, h, q))
        ∙ sym (get_or-append ys c 0 (j * 8 + 7) (omega (arith, h, n)))
    go j (below h) =
        let d : ℕ = j * 8 - b * 8 in
        let e : j * 8 + 7 ≡ length xs + d = omega (arith, h, m) in
        let g : j * 8 + 7 ≡ length ys + d = omega (arith, h, n) in
        ap (λ (k : ℕ). get_or (xs ++ c) k 0) e ∙ get_or-append-add xs c d 0 ∙ sym (get_or-append-add ys c d 0) ∙ ap (λ (k : ℕ). get_or (ys ++ c) k 0) (sym g)

-- where seven words change behind whole blocks
pub both-seven : (b : ℕ) (a us vs c : List ℕ) → length a ≡ b * 8 → length us ≡ 7 → length vs ≡ 7 → both_samples ((a ++ us) ++ c) ≡ both_samples ((a ++ vs) ++ c)
both-seven b a us vs c n u v =
    both-kept b (b * 8) (a ++ us) (a ++ vs) c (omega (arith, length-append a us, n, u)) (omega (arith, length-append a vs, n, v)) (omega arith)
    (λ i h. get_or-append a us 0 i (omega (arith, h, n)) ∙ sym (get_or-append a vs 0 i (omega (arith, h, n))))

-- no sample has the very last word
pub both-last : (a : List ℕ) (x y : ℕ) → length a + 1 ≡ capacity → both_samples (a ++ (x ∷ [])) ≡ both_samples (a ++ (y ∷ []))
both-last a x y n =
    both-same (a ++ (x ∷ [])) (a ++ (y ∷ []))
    (λ j h. get_or-append a (x ∷ []) 0 (j * 8 + 7) (omega (arith, h, n)) ∙ sym (get_or-append a (y ∷ []) 0 (j * 8 + 7) (omega (arith, h, n))))

-- ---- the last word of block b changes from x to v

module _ (a c : List ℕ) (x v b : ℕ) (place : length a ≡ b * 8 + 7) (inside : b * 8 + 8 < capacity) where
  other : (i : ℕ) → i ≢ length a → get_or (a ++ (x ∷ c)) i 0 ≡ get_or (a ++ (v ∷ c)) i 0
  other i n = sym (get_or-set_other (a ++ (x ∷ c)) (length a) i v 0 n) ∙ ap (λ (l : List ℕ). get_or l i 0) (set_at a x c v (length a) refl)

  sample-other : (k j : ℕ) → j * k + (k - 1) ≢ length a → sample_word k (a ++ (x ∷ c)) j ≡ sample_word k (a ++ (v ∷ c)) j
  sample-other k j n = ap (λ (y : ℕ). cond (ltb (j * k + k) capacity) y 0) (other (j * k + (k - 1)) n)

  sample-is : (k j : ℕ) → j * k + k < capacity → length a ≡ j * k + (k - 1) → v ≡ sample_word k (a ++ (v ∷ c)) (0 + j)
  sample-is k j h e =
      sym (ap (sample_word k (a ++ (v ∷ c))) (zero-add j) ∙ ap (λ (t : Bool). cond t (get_or (a ++ (v ∷ c)) (j * k + (k - 1)) 0) 0) (lt-ltb (j * k + k) capacity h)
      ∙ get_or_at a v c 0 (j * k + (k - 1)) e)

  finer-set : set (samples 8 (8 * groups) (a ++ (x ∷ c))) b v ≡ samples 8 (8 * groups) (a ++ (v ∷ c))
  finer-set =
      row-set (sample_word 8 (a ++ (x ∷ c))) (sample_word 8 (a ++ (v ∷ c))) 0 (8 * groups) b v (omega (arith, inside))
      (λ j n. sample-other 8 j (λ z. n (omega (arith, z, place)))) (sample-is 8 b inside place)

  coarse-set : b % 8 ≡ 7 → set (samples 64 groups (a ++ (x ∷ c))) (b / 8) v ≡ samples 64 groups (a ++ (v ∷ c))
  coarse-set e =
      row-set (sample_word 64 (a ++ (x ∷ c))) (sample_word 64 (a ++ (v ∷ c))) 0 groups (b / 8) v (omega (arith, inside))
      (λ j n. sample-other 64 j (λ z. n (omega (arith, z, place)))) (sample-is 64 (b / 8) (omega (arith, e, inside)) (omega (arith, e, place)))

  coarse-kept : b % 8 ≢ 7 → samples 64 groups (a ++ (x ∷ c)) ≡ samples 64 groups (a ++ (v ∷ c))
  coarse-kept n = samples-same 64 groups (a ++ (x ∷ c)) (a ++ (v ∷ c)) (λ j h. other (j * 64 + (64 - 1)) (λ z. n (seventh j (omega (arith, z, place)))))
    where
      seventh : (j : ℕ) → b ≡ j * 8 + 7 → b % 8 ≡ 7
      seventh j e = omega (arith, e)

-- ---- the stores that do it

pub last-put-both : (l : List ℕ) (b w : ℕ) → b % 8 ≡ 7 → last_put l b w ≡ set (set (set l (directory_from + (b * 8 + 7)) w) (finer_from + b) w) (samples_from + b / 8) w
last-put-both l b w e =
    let m = set (set l (directory_from + (b * 8 + 7)) w) (finer_from + b) w in
    ap (λ (t : Bool). cond t (set m (samples_from + b / 8) w) m) (eq-eqb (b % 8) 7 e)

pub last-put-one : (l : List ℕ) (b w : ℕ) → b % 8 ≢ 7 → last_put l b w ≡ set (set l (directory_from + (b * 8 + 7)) w) (finer_from + b) w
last-put-one l b w e =
    let m = set (set l (directory_from + (b * 8 + 7)) w) (finer_from + b) w in
    ap (λ (t : Bool). cond t (set m (samples_from + b / 8) w) m) (ne_eqb (b % 8) 7 e)

-- the first n words of the directory
pub front-column : (l h ds t : List ℕ) → InDirectory l h ds t → (n : ℕ) → n ≤ capacity → InColumn directory_from n l (h ++ both_samples ds) (take n ds) (drop n ds ++ t)
front-column l h ds t i n k = (
  (directory-column l h ds t i).0 ∙ ap (λ (m : List ℕ). (h ++ both_samples ds) ++ (m ++ t)) (sym (take-append-drop n ds))
      ∙ ap (λ (m : List ℕ). (h ++ both_samples ds) ++ m) (append_assoc (take n ds) (drop n ds) t),
  length_both h ds i.1,
  length-take-le n ds (omega (arith, k, i.2)),
  descending-take n ds i.3,
)

-- word i of a directory behind samples of any words
module _ (h xs a c t : List ℕ) (y i : ℕ) (head : length h ≡ samples_from) (place : length a ≡ i) where
  pub read_word : get_or (h ++ (both_samples xs ++ ((a ++ (y ∷ c)) ++ t))) (directory_from + i) 0 ≡ y
  read_word =
      ap (λ (l : List ℕ). get_or l (directory_from + i) 0) (sym (append_assoc h (both_samples xs) ((a ++ (y ∷ c)) ++ t)))
      ∙ read_at directory_from (h ++ both_samples xs) a c t y i (length_both h xs head) place

  pub store_word : (v : ℕ) → set (h ++ (both_samples xs ++ ((a ++ (y ∷ c)) ++ t))) (directory_from + i) v ≡ h ++ (both_samples xs ++ ((a ++ (v ∷ c)) ++ t))
  store_word v =
      ap (λ (l : List ℕ). set l (directory_from + i) v) (sym (append_assoc h (both_samples xs) ((a ++ (y ∷ c)) ++ t)))
      ∙ store_at directory_from (h ++ both_samples xs) a c t y i (length_both h xs head) place v
      ∙ append_assoc h (both_samples xs) ((a ++ (v ∷ c)) ++ t)

-- one of its samples
module _ (h s f t : List ℕ) (i v : ℕ) (head : length h ≡ samples_from) (wide : length s ≡ groups) where
  store-finer : length f ≡ 8 * groups → i < 8 * groups → set (h ++ ((s ++ f) ++ t)) (finer_from + i) v ≡ h ++ ((s ++ set f i v) ++ t)
  store-finer wider l =
      ap (λ (m : List ℕ). set m (finer_from + i) v) (regroup f)
      ∙ set-inside (h ++ s) t f i (finer_from + i) v (omega (arith, length-append h s, head, wide)) (omega (arith, l, wider))
      ∙ sym (regroup (set f i v))
    where
      regroup : (g : List ℕ) → h ++ ((s ++ g) ++ t) ≡ (h ++ s) ++ (g ++ t)
      regroup g = simp append_assoc

  store-coarse : i < groups → set (h ++ ((s ++ f) ++ t)) (samples_from + i) v ≡ h ++ ((set s i v ++ f) ++ t)
  store-coarse l =
      ap (λ (m : List ℕ). set m (samples_from + i) v) (regroup s)
      ∙ set-inside h (f ++ t) s i (samples_from + i) v (omega (arith, head)) (omega (arith, l, wide))
      ∙ sym (regroup (set s i v))
    where
      regroup : (g : List ℕ) → h ++ ((g ++ f) ++ t) ≡ h ++ (g ++ (f ++ t))
      regroup g = simp append_assoc

-- the samples are those of x in the place of v, whatever stands there
pub last-put : (h a c t : List ℕ) (x y v b : ℕ) → length h ≡ samples_from → length a ≡ b * 8 + 7 → b * 8 + 8 < capacity
    → last_put (h ++ (both_samples (a ++ (x ∷ c)) ++ ((a ++ (y ∷ c)) ++ t))) b v ≡ h ++ (both_samples (a ++ (v ∷ c)) ++ ((a ++ (v ∷ c)) ++ t))
last-put h a c t x y v b head place inside = go (eqb (b % 8) 7) refl
  where
    old : List ℕ
    old = a ++ (x ∷ c)

    new : List ℕ
    new = a ++ (v ∷ c)

    start : List ℕ
    start = h ++ (both_samples (a ++ (x ∷ c)) ++ ((a ++ (y ∷ c)) ++ t))

    one : set (set start (directory_from + (b * 8 + 7)) v) (finer_from + b) v ≡ h ++ ((samples 64 groups old ++ samples 8 (8 * groups) new) ++ (new ++ t))
    one =
        ap (λ (l : List ℕ). set l (finer_from + b) v)
        (store_word h old a c t y (b * 8 + 7) head place v)
        ∙ store-finer h (samples 64 groups old) (samples 8 (8 * groups) old) (new ++ t) b v head (length-row _ 0 groups) (length-row _ 0 (8 * groups)) (omega (arith, inside))
        ∙ ap (λ (l : List ℕ). h ++ ((samples 64 groups old ++ l) ++ (new ++ t))) (finer-set a c x v b place inside)

    go : (e : Bool) → eqb (b % 8) 7 ≡ e → last_put start b v ≡ h ++ (both_samples new ++ (new ++ t))
    go true e =
        let q : b % 8 ≡ 7 = eqb-true (b % 8) 7 e in
        last-put-both start b v q ∙ ap (λ (l : List ℕ). set l (samples_from + b / 8) v) one
        ∙ store-coarse h (samples 64 groups old) (samples 8 (8 * groups) new) (new ++ t) (b / 8) v head (length-row _ 0 groups) (omega (arith, inside))
        ∙ ap (λ (l : List ℕ). h ++ ((l ++ samples 8 (8 * groups) new) ++ (new ++ t))) (coarse-set a c x v b place inside q)
    go false e =
        let q : b % 8 ≢ 7 = eqb-false (b % 8) 7 e in
        last-put-one start b v q ∙ one
        ∙ ap (λ (l : List ℕ). h ++ ((l ++ samples 8 (8 * groups) new) ++ (new ++ t))) (coarse-kept a c x v b place inside q)
