-- The words of a column in a table that move down behind a run of words that leaves.
use Prim.Native.Nat.{ℕ, zero, suc, ◌+◌, ◌≤◌, ◌<◌}
use mathlib.Core.Path.{◌≡◌, refl, sym, ap, ap₂, ◌∙◌}
use mathlib.Core.Bool.{Bool, true, false, cond, ◌&&◌, and-false}
use mathlib.Core.List.{List, [], ◌∷◌, ◌++◌, append_assoc, append-nil}
use native.Mathlib.Nat.{not-suc-le-zero}
use native.Mathlib.Omega.{arith}
use lib.Dec.{leb, ltb}
use lib.ListN.{length, get_or, set, take, drop, replicate, length-append, length-drop, length-replicate, take-append-drop, replicate-append-replicate}
use lib.Seq.{length-take-le, append_snoc}
use borrow.Author.Tests.{le-leb, lt-leb, lt-ltb, le-ltb}
use Rattle.table_column.specs.Descending.{at_least, Descending, without_run}
use Rattle.table_column.specs.Column.{InColumn, AtLeast, RemovesRun}
use Rattle.table_column.proofs.Descending.{at-least-in, reaches-yes}
use Rattle.table_column.proofs.Shifts.{descending-drop}
use Rattle.table_column.proofs.Moves.{read_at, store_at, length-next}

-- ---- whether a word leaves

-- it is below the run, in it, or above it
pub run-below : (x u w : ℕ) → x < w → (leb w x && ltb x u) ≡ false
run-below x u w h = rw (lt-leb w x h)

pub run-within : (x u w : ℕ) → w ≤ x → x < u → (leb w x && ltb x u) ≡ true
run-within x u w h k = rw (le-leb w x h, lt-ltb x u k)

pub run-above : (x u w : ℕ) → u ≤ x → (leb w x && ltb x u) ≡ false
run-above x u w h = rw (le-ltb x u h) (and-false (leb w x))

-- ---- lists

-- zeros stay, and those behind a 0 are zeros
pub zeros-stay : (u w : ℕ) → 0 < w → (n : ℕ) → without_run u w (replicate n 0) ≡ replicate n 0
unfolding without_run
zeros-stay u w h zero = refl
zeros-stay u w h (suc n) = rw (run-below 0 u w h) (ap (λ (l : List ℕ). 0 ∷ l) (zeros-stay u w h n))

descending-zeros : (xs : List ℕ) → Descending xs → get_or xs 0 0 ≤ 0 → xs ≡ replicate (length xs) 0
descending-zeros [] f h = refl
descending-zeros (x ∷ xs) f h =
    let e : x ≡ 0 = omega (arith, h) in
    ap₂ (λ (n : ℕ) (l : List ℕ). n ∷ l) e (descending-zeros xs f.1 (omega (arith, f.0, e)))

zeros-swap : (m n : ℕ) → ◌++◌ {A = ℕ} (replicate m 0) (replicate n 0) ≡ replicate n 0 ++ replicate m 0
zeros-swap m n =
    let e : m + n ≡ n + m = omega arith in
    replicate-append-replicate {A = ℕ} m n 0 ∙ ap (λ (k : ℕ). replicate k 0) e ∙ sym (replicate-append-replicate {A = ℕ} n m 0)

-- a 0 behind zeros stands before them as well
zero-first : (k : ℕ) (xs : List ℕ) → replicate k 0 ++ (0 ∷ xs) ≡ 0 ∷ (replicate k 0 ++ xs)
zero-first zero xs = refl
zero-first (suc k) xs = ap (λ (l : List ℕ). 0 ∷ l) (zero-first k xs)

-- the words above the run stay
first-stay : (u w : ℕ) (xs : List ℕ) → Descending xs → (p : ℕ) → p ≤ at_least u xs → without_run u w xs ≡ take p xs ++ without_run u w (drop p xs)
unfolding without_run at_least
first-stay u w xs f zero h = refl
first-stay u w [] f (suc p) h = absurd (not-suc-le-zero h)
first-stay u w (x ∷ xs) f (suc p) h =
    let l : u ≤ x = at-least-in u (x ∷ xs) f 0 (omega (arith, h)) in
    rw (run-above x u w l) (ap (λ (m : List ℕ). x ∷ m) (first-stay u w xs f.1 p (omega (arith, h, reaches-yes u x l))))

-- ---- the loop

-- of a column ds: the words done stay, k have left, and the rest was not looked at
record Thinning (len u w : ℕ) (h ds t l : List ℕ) (p i : ℕ) (done : List ℕ) (k : ℕ) (rest : List ℕ) : Type 0 where
  now-is : l ≡ h ++ (((done ++ replicate k 0) ++ rest) ++ t)
  place : length done ≡ p
  gap : p + k ≡ i
  size : length rest + i ≡ len
  falls : Descending rest
  whole : without_run u w ds ≡ done ++ (without_run u w rest ++ replicate k 0)

record Thinned (len u w : ℕ) (h ds t l : List ℕ) (p i : ℕ) : Type 0 where
  done : List ℕ
  gone : ℕ
  rest : List ℕ
  is : Thinning len u w h ds t l p i done gone rest

pub record Running (from len u w : ℕ) (start l : List ℕ) (p i : ℕ) : Type 0 where
  pub order : p ≤ i
  pub inside : i ≤ len
  are : (h ds t : List ℕ) → InColumn from len start h ds t → Thinned len u w h ds t l p i

pub running-start : (from len u w : ℕ) (l : List ℕ) (i : ℕ) → AtLeast from len l u i → Running from len u w l l i i
running-start from len u w l i a = record {
  order = omega arith;
  inside = omega (arith, a.inside);
  are = λ h ds t d.
      let n : i ≤ length ds = omega (arith, a.inside, d.2) in
      record {
        done = take i ds;
        gone = 0;
        rest = drop i ds;
        is = record {
          now-is = d.0 ∙ ap (λ (m : List ℕ). h ++ (m ++ t)) (sym (take-append-drop i ds) ∙ ap (λ (m : List ℕ). m ++ drop i ds) (sym (append-nil (take i ds))));
          place = length-take-le i ds n;
          gap = omega arith;
          size = omega (arith, length-drop i ds, n, d.2);
          falls = descending-drop i ds d.3;
          whole =
              first-stay u w ds d.3 i (omega (arith, a.is h ds t d))
              ∙ ap (λ (m : List ℕ). take i ds ++ m) (sym (append-nil (without_run u w (drop i ds))));
        };
      };
}

module _ (from len u w : ℕ) (h ds t l : List ℕ) (p i : ℕ) (head : length h ≡ from) where
  -- what has left are zeros, and the words up to word i
  before : (done : List ℕ) (k : ℕ) → length done ≡ p → p + k ≡ i → length (done ++ replicate k 0) ≡ i
  before done k e g = omega (arith, length-append done (replicate k 0), length-replicate {A = ℕ} k 0, e, g)

  module _ (done : List ℕ) (k x : ℕ) (xs : List ℕ) (e : Thinning len u w h ds t l p i done k (x ∷ xs)) where
    word : get_or l (from + i) 0 ≡ x
    word = ap (λ (m : List ℕ). get_or m (from + i) 0) e.now-is ∙ read_at from h (done ++ replicate k 0) xs t x i head (before done k e.place e.gap)

    -- the two stores
    stored : (y : ℕ) → set (set l (from + i) 0) (from + p) y ≡ h ++ ((done ++ (y ∷ (replicate k 0 ++ xs))) ++ t)
    stored y =
        ap (λ (m : List ℕ). set (set m (from + i) 0) (from + p) y) e.now-is
        ∙ ap (λ (m : List ℕ). set m (from + p) y) (store_at from h (done ++ replicate k 0) xs t x i head (before done k e.place e.gap) 0)
        ∙ ap (λ (m : List ℕ). set (h ++ (m ++ t)) (from + p) y) (append_assoc done (replicate k 0) (0 ∷ xs) ∙ ap (λ (m : List ℕ). done ++ m) (zero-first k xs))
        ∙ store_at from h done (replicate k 0 ++ xs) t 0 p head e.place y

    next-is : (y r : ℕ) → y ≡ cond (leb w x && ltb x u) 0 x → r ≡ cond (leb w x && ltb x u) 0 1
        → Thinned len u w h ds t (set (set l (from + i) 0) (from + p) y) (p + r) (i + 1)
    unfolding without_run
    next-is y r = go (leb w x && ltb x u) refl
      where
        go : (b : Bool) → (leb w x && ltb x u) ≡ b → y ≡ cond b 0 x → r ≡ cond b 0 1 → Thinned len u w h ds t (set (set l (from + i) 0) (from + p) y) (p + r) (i + 1)
        go true q a c = record {
          done = done;
          gone = suc k;
          rest = xs;
          is = record {
            now-is =
                stored y
                ∙ ap (λ (m : List ℕ). h ++ (m ++ t)) (ap (λ (n : ℕ). done ++ (n ∷ (replicate k 0 ++ xs))) a ∙ sym (append_assoc done (0 ∷ replicate k 0) xs));
            place = omega (arith, e.place, c);
            gap = omega (arith, e.gap, c);
            size = omega (arith, e.size);
            falls = e.falls.1;
            whole =
                e.whole
                ∙ ap (λ (b : Bool). done ++ (cond b (without_run u w xs ++ (0 ∷ [])) (x ∷ without_run u w xs) ++ replicate k 0)) q
                ∙ ap (λ (m : List ℕ). done ++ m) (append_assoc (without_run u w xs) (0 ∷ []) (replicate k 0));
          };
        }
        go false q a c = record {
          done = done ++ (x ∷ []);
          gone = k;
          rest = xs;
          is = record {
            now-is =
                stored y
                ∙ ap (λ (m : List ℕ). h ++ (m ++ t))
                (ap (λ (n : ℕ). done ++ (n ∷ (replicate k 0 ++ xs))) a ∙ sym (append_snoc done x (replicate k 0 ++ xs)) ∙ sym (append_assoc (done ++ (x ∷ [])) (replicate k 0) xs));
            place = length-next done x p e.place ∙ ap (λ (n : ℕ). p + n) (sym c);
            gap = omega (arith, e.gap, c);
            size = omega (arith, e.size);
            falls = e.falls.1;
            whole =
                e.whole
                ∙ ap (λ (b : Bool). done ++ (cond b (without_run u w xs ++ (0 ∷ [])) (x ∷ without_run u w xs) ++ replicate k 0)) q
                ∙ sym (append_snoc done x (without_run u w xs ++ replicate k 0));
          };
        }

    -- a 0 is found, and behind it there are zeros
    at_zero : 0 < w → get_or l (from + i) 0 ≡ 0 → l ≡ h ++ (without_run u w ds ++ t)
    at_zero b z =
        let n : ℕ = length (x ∷ xs) in
        let q : x ∷ xs ≡ replicate n 0 = descending-zeros (x ∷ xs) e.falls (omega (arith, sym word ∙ z)) in
        e.now-is
        ∙ ap (λ (m : List ℕ). h ++ (m ++ t))
        (append_assoc done (replicate k 0) (x ∷ xs)
        ∙ ap (λ (m : List ℕ). done ++ m)
        (ap (λ (m : List ℕ). replicate k 0 ++ m) q ∙ zeros-swap k n
        ∙ ap (λ (m : List ℕ). m ++ replicate k 0) (sym (zeros-stay u w b n) ∙ ap (without_run u w) (sym q)))
        ∙ sym e.whole)

  at-end : (done : List ℕ) (k : ℕ) (rest : List ℕ) → Thinning len u w h ds t l p i done k rest → len ≤ i → l ≡ h ++ (without_run u w ds ++ t)
  unfolding without_run
  at-end done k (x ∷ xs) e b = absurd (omega (arith, e.size, b))
  at-end done k [] e b = e.now-is ∙ ap (λ (m : List ℕ). h ++ (m ++ t)) (append-nil (done ++ replicate k 0) ∙ sym e.whole)

  next : (r y : ℕ) (done : List ℕ) (k : ℕ) (rest : List ℕ) → Thinning len u w h ds t l p i done k rest → i < len
      → y ≡ cond (leb w (get_or l (from + i) 0) && ltb (get_or l (from + i) 0) u) 0 (get_or l (from + i) 0)
      → r ≡ cond (leb w (get_or l (from + i) 0) && ltb (get_or l (from + i) 0) u) 0 1 → Thinned len u w h ds t (set (set l (from + i) 0) (from + p) y) (p + r) (i + 1)
  next r y done k [] e b a c = absurd (omega (arith, e.size, b))
  next r y done k (x ∷ xs) e b a c =
      let q : get_or l (from + i) 0 ≡ x = word done k x xs e in
      next-is done k x xs e y r (a ∙ ap (λ (n : ℕ). cond (leb w n && ltb n u) 0 n) q) (c ∙ ap (λ (n : ℕ). cond (leb w n && ltb n u) 0 1) q)

  zero-found : (done : List ℕ) (k : ℕ) (rest : List ℕ) → Thinning len u w h ds t l p i done k rest → i < len → 0 < w → get_or l (from + i) 0 ≡ 0
      → l ≡ h ++ (without_run u w ds ++ t)
  zero-found done k [] e b c z = absurd (omega (arith, e.size, b))
  zero-found done k (x ∷ xs) e b c z = at_zero done k x xs e c z

module _ (from len u w : ℕ) (start l : List ℕ) (p i : ℕ) (b : Running from len u w start l p i) where
  pub running-next : i < len → (r y : ℕ) → r ≤ 1
      → y ≡ cond (leb w (get_or l (from + i) 0) && ltb (get_or l (from + i) 0) u) 0 (get_or l (from + i) 0)
      → r ≡ cond (leb w (get_or l (from + i) 0) && ltb (get_or l (from + i) 0) u) 0 1
      → Running from len u w start (set (set l (from + i) 0) (from + p) y) (p + r) (i + 1)
  running-next k r y o a c = record {
    order = omega (arith, b.order, o);
    inside = omega (arith, k);
    are = λ h ds t d. let e : Thinned len u w h ds t l p i = b.are h ds t d in next from len u w h ds t l p i d.1 r y e.done e.gone e.rest e.is k a c;
  }

  pub running-zero : i < len → get_or l (from + i) 0 ≡ 0 → RemovesRun from len u w start l
  running-zero k z = record {
    is = λ h ds t d c. let e : Thinned len u w h ds t l p i = b.are h ds t d in zero-found from len u w h ds t l p i d.1 e.done e.gone e.rest e.is k c z;
  }

  pub running-end : len ≤ i → RemovesRun from len u w start l
  running-end k = record {
    is = λ h ds t d c. let e : Thinned len u w h ds t l p i = b.are h ds t d in at-end from len u w h ds t l p i d.1 e.done e.gone e.rest e.is k;
  }
