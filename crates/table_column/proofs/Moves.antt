-- The words of a column in a table that move up behind a new one, and those that move down behind one that leaves.
use Prim.Native.Nat.{ℕ, suc, ◌+◌, ◌-◌, ◌≤◌, ◌<◌}
use mathlib.Core.Path.{◌≡◌, refl, sym, ap, ◌∙◌}
use mathlib.Core.List.{List, [], ◌∷◌, ◌++◌, append_assoc}
use native.Mathlib.Omega.{arith}
use lib.ListN.{length, get_or, set, take, drop, length-append, length-drop, take-append-drop}
use lib.Seq.{length-take-le, append_snoc, split_at, set_at, get_or_at}
use Rattle.table_column.specs.Descending.{Descending, shifted, pushed, inserted_at, removed_at}
use Rattle.table_column.specs.Column.{InColumn, Enters, Leaves}
use Rattle.table_column.proofs.Shifts.{descending-drop, inserted-split, shifted-zeros, pushed-zeros, removed-split, snoc-zeros}

-- ---- a word of the column, read and stored

inner : (h a b t : List ℕ) (x : ℕ) → h ++ ((a ++ (x ∷ b)) ++ t) ≡ (h ++ a) ++ (x ∷ (b ++ t))
inner h a b t x = ap (λ (m : List ℕ). h ++ m) (append_assoc a (x ∷ b) t) ∙ sym (append_assoc h a (x ∷ (b ++ t)))

module _ (from : ℕ) (h a b t : List ℕ) (x i : ℕ) (head : length h ≡ from) (place : length a ≡ i) where
  before-size : length (h ++ a) ≡ from + i
  before-size = omega (arith, length-append h a, head, place)

  pub read_at : get_or (h ++ ((a ++ (x ∷ b)) ++ t)) (from + i) 0 ≡ x
  read_at = ap (λ (m : List ℕ). get_or m (from + i) 0) (inner h a b t x) ∙ get_or_at (h ++ a) x (b ++ t) 0 (from + i) before-size

  pub store_at : (v : ℕ) → set (h ++ ((a ++ (x ∷ b)) ++ t)) (from + i) v ≡ h ++ ((a ++ (v ∷ b)) ++ t)
  store_at v =
      ap (λ (m : List ℕ). set m (from + i) v) (inner h a b t x) ∙ set_at (h ++ a) x (b ++ t) v (from + i) before-size ∙ sym (inner h a b t v)

-- the words before word i + 1
pub length-next : (a : List ℕ) (x i : ℕ) → length a ≡ i → length (a ++ (x ∷ [])) ≡ i + 1
length-next a x i e = omega (arith, length-append a (x ∷ []), e)

-- ---- a word enters

-- of a column ds: the words done have moved, and `moved` is to stand before the rest
record Entering (p len w : ℕ) (h ds t l : List ℕ) (i moved : ℕ) (done rest : List ℕ) : Type 0 where
  now-is : l ≡ h ++ ((done ++ rest) ++ t)
  place : length done ≡ i
  size : length rest + i ≡ len
  falls : Descending rest
  whole : inserted_at p w ds ≡ done ++ shifted moved rest
  out : pushed w (drop p ds) ≡ pushed moved rest

record Entered (p len w : ℕ) (h ds t l : List ℕ) (i moved : ℕ) : Type 0 where
  done : List ℕ
  rest : List ℕ
  is : Entering p len w h ds t l i moved done rest

pub record Inserting (from p len w : ℕ) (start l : List ℕ) (i moved : ℕ) : Type 0 where
  pub inside : i ≤ len
  are : (h ds t : List ℕ) → InColumn from len start h ds t → Entered p len w h ds t l i moved

pub inserting-start : (from p len w : ℕ) (l : List ℕ) → p ≤ len → Inserting from p len w l l p w
inserting-start from p len w l k = record {
  inside = k;
  are = λ h ds t d.
      let n : p ≤ length ds = omega (arith, k, d.2) in
      record {
        done = take p ds;
        rest = drop p ds;
        is = record {
          now-is = d.0 ∙ ap (λ (m : List ℕ). h ++ (m ++ t)) (sym (take-append-drop p ds));
          place = length-take-le p ds n;
          size = omega (arith, length-drop p ds, n, d.2);
          falls = descending-drop p ds d.3;
          whole = inserted-split p w ds n;
          out = refl;
        };
      };
}

module _ (from p len w : ℕ) (h ds t l : List ℕ) (i moved : ℕ) (head : length h ≡ from) where
  entering-next : (done rest : List ℕ) → Entering p len w h ds t l i moved done rest → i < len
      → Entered p len w h ds t (set l (from + i) moved) (i + 1) (get_or l (from + i) 0)
  unfolding shifted pushed
  entering-next done [] e k = absurd (omega (arith, e.size, k))
  entering-next done (x ∷ xs) e k =
      let r : get_or l (from + i) 0 ≡ x = ap (λ (m : List ℕ). get_or m (from + i) 0) e.now-is ∙ read_at from h done xs t x i head e.place in
      record {
        done = done ++ (moved ∷ []);
        rest = xs;
        is = record {
          now-is =
              ap (λ (m : List ℕ). set m (from + i) moved) e.now-is ∙ store_at from h done xs t x i head e.place moved
              ∙ ap (λ (m : List ℕ). h ++ (m ++ t)) (sym (append_snoc done moved xs));
          place = length-next done moved i e.place;
          size = omega (arith, e.size);
          falls = e.falls.1;
          whole = e.whole ∙ sym (append_snoc done moved (shifted x xs)) ∙ ap (λ (m : ℕ). (done ++ (moved ∷ [])) ++ shifted m xs) (sym r);
          out = e.out ∙ ap (λ (m : ℕ). pushed m xs) (sym r);
        };
      }

  -- what was read is 0, and so are the words behind it
  entering-zero : (done rest : List ℕ) → Entering p len w h ds t l i moved done rest → i < len → get_or l (from + i) 0 ≡ 0
      → (set l (from + i) moved ≡ h ++ (inserted_at p w ds ++ t)) × (0 ≡ pushed w (drop p ds))
  unfolding shifted pushed
  entering-zero done [] e k z = absurd (omega (arith, e.size, k))
  entering-zero done (x ∷ xs) e k z =
      let r : x ≡ 0 = sym (ap (λ (m : List ℕ). get_or m (from + i) 0) e.now-is ∙ read_at from h done xs t x i head e.place) ∙ z in
      let f : get_or xs 0 0 ≤ 0 = omega (arith, e.falls.0, r) in (
        ap (λ (m : List ℕ). set m (from + i) moved) e.now-is ∙ store_at from h done xs t x i head e.place moved
            ∙ ap (λ (m : List ℕ). h ++ ((done ++ (moved ∷ m)) ++ t)) (sym (ap (λ (m : ℕ). shifted m xs) r ∙ shifted-zeros xs e.falls.1 f))
            ∙ ap (λ (m : List ℕ). h ++ (m ++ t)) (sym e.whole),
        sym (e.out ∙ ap (λ (m : ℕ). pushed m xs) r ∙ pushed-zeros xs e.falls.1 f),
      )

  entering-end : (done rest : List ℕ) → Entering p len w h ds t l i moved done rest → len ≤ i → (l ≡ h ++ (inserted_at p w ds ++ t)) × (moved ≡ pushed w (drop p ds))
  unfolding shifted pushed
  entering-end done [] e k = (e.now-is ∙ ap (λ (m : List ℕ). h ++ (m ++ t)) (sym e.whole), sym e.out)
  entering-end done (x ∷ xs) e k = absurd (omega (arith, e.size, k))

module _ (from p len w : ℕ) (start l : List ℕ) (i moved : ℕ) (b : Inserting from p len w start l i moved) where
  pub inserting-next : i < len → Inserting from p len w start (set l (from + i) moved) (i + 1) (get_or l (from + i) 0)
  inserting-next k = record {
    inside = omega (arith, k);
    are = λ h ds t d. let e : Entered p len w h ds t l i moved = b.are h ds t d in entering-next from p len w h ds t l i moved d.1 e.done e.rest e.is k;
  }

  pub inserting-zero : i < len → get_or l (from + i) 0 ≡ 0 → Enters from p len w start (set l (from + i) moved) 0
  inserting-zero k z = record {
    is = λ h ds t d. let e : Entered p len w h ds t l i moved = b.are h ds t d in entering-zero from p len w h ds t l i moved d.1 e.done e.rest e.is k z;
  }

  pub inserting-end : len ≤ i → Enters from p len w start l moved
  inserting-end k = record {
    is = λ h ds t d. let e : Entered p len w h ds t l i moved = b.are h ds t d in entering-end from p len w h ds t l i moved d.1 e.done e.rest e.is k;
  }

-- ---- a word leaves

-- of a column ds: the words done have moved, and the rest is to stand where `old` stands
record Leaving (p len : ℕ) (h ds t l : List ℕ) (i : ℕ) (done : List ℕ) (old : ℕ) (rest : List ℕ) : Type 0 where
  now-is : l ≡ h ++ ((done ++ (old ∷ rest)) ++ t)
  place : length done ≡ i
  size : length rest + i + 1 ≡ len
  falls : Descending rest
  whole : removed_at p ds ≡ done ++ (rest ++ (0 ∷ []))

record Left (p len : ℕ) (h ds t l : List ℕ) (i : ℕ) : Type 0 where
  done : List ℕ
  old : ℕ
  rest : List ℕ
  is : Leaving p len h ds t l i done old rest

pub record Removing (from p len : ℕ) (start l : List ℕ) (i : ℕ) : Type 0 where
  pub inside : i < len
  are : (h ds t : List ℕ) → InColumn from len start h ds t → Left p len h ds t l i

pub removing-start : (from p len : ℕ) (l : List ℕ) → p < len → Removing from p len l l p
removing-start from p len l k = record {
  inside = k;
  are = λ h ds t d.
      let n : p < length ds = omega (arith, k, d.2) in
      record {
        done = take p ds;
        old = get_or ds p 0;
        rest = drop (suc p) ds;
        is = record {
          now-is = d.0 ∙ ap (λ (m : List ℕ). h ++ (m ++ t)) (split_at ds p 0 n);
          place = length-take-le p ds (omega (arith, n));
          size = omega (arith, length-drop (suc p) ds, n, d.2);
          falls = descending-drop (suc p) ds d.3;
          whole = removed-split p ds n;
        };
      };
}

module _ (from p len : ℕ) (h ds t l : List ℕ) (i : ℕ) (head : length h ≡ from) where
  -- the word behind it
  behind : (done : List ℕ) (old x : ℕ) (xs : List ℕ) → Leaving p len h ds t l i done old (x ∷ xs) → get_or l (from + (i + 1)) 0 ≡ x
  behind done old x xs e =
      ap (λ (m : List ℕ). get_or m (from + (i + 1)) 0) (e.now-is ∙ ap (λ (m : List ℕ). h ++ (m ++ t)) (sym (append_snoc done old (x ∷ xs))))
      ∙ read_at from h (done ++ (old ∷ [])) xs t x (i + 1) head (length-next done old i e.place)

  -- is stored over it
  moves : (done : List ℕ) (old x : ℕ) (xs : List ℕ) → Leaving p len h ds t l i done old (x ∷ xs)
      → set l (from + i) (get_or l (from + (i + 1)) 0) ≡ h ++ ((done ++ (x ∷ x ∷ xs)) ++ t)
  moves done old x xs e =
      ap (set l (from + i)) (behind done old x xs e) ∙ ap (λ (m : List ℕ). set m (from + i) x) e.now-is ∙ store_at from h done (x ∷ xs) t old i head e.place x

  leaving-next : (done : List ℕ) (old : ℕ) (rest : List ℕ) → Leaving p len h ds t l i done old rest → i + 1 < len
      → Left p len h ds t (set l (from + i) (get_or l (from + (i + 1)) 0)) (i + 1)
  leaving-next done old [] e k = absurd (omega (arith, e.size, k))
  leaving-next done old (x ∷ xs) e k = record {
    done = done ++ (x ∷ []);
    old = x;
    rest = xs;
    is = record {
      now-is = moves done old x xs e ∙ ap (λ (m : List ℕ). h ++ (m ++ t)) (sym (append_snoc done x (x ∷ xs)));
      place = length-next done x i e.place;
      size = omega (arith, e.size);
      falls = e.falls.1;
      whole = e.whole ∙ sym (append_snoc done x (xs ++ (0 ∷ [])));
    };
  }

  -- it is 0, and so are the words behind it
  leaving-zero : (done : List ℕ) (old : ℕ) (rest : List ℕ) → Leaving p len h ds t l i done old rest → i + 1 < len → get_or l (from + (i + 1)) 0 ≡ 0
      → set l (from + i) (get_or l (from + (i + 1)) 0) ≡ h ++ (removed_at p ds ++ t)
  leaving-zero done old [] e k z = absurd (omega (arith, e.size, k))
  leaving-zero done old (x ∷ xs) e k z =
      let r : x ≡ 0 = sym (behind done old x xs e) ∙ z in
      moves done old x xs e
      ∙ ap (λ (m : List ℕ). h ++ ((done ++ (x ∷ m)) ++ t)) (ap (λ (m : ℕ). m ∷ xs) r ∙ sym (snoc-zeros xs e.falls.1 (omega (arith, e.falls.0, r))))
      ∙ ap (λ (m : List ℕ). h ++ (m ++ t)) (sym e.whole)

  leaving-end : (done : List ℕ) (old : ℕ) (rest : List ℕ) → Leaving p len h ds t l i done old rest → len ≤ i + 1
      → set l (from + (len - 1)) 0 ≡ h ++ (removed_at p ds ++ t)
  leaving-end done old (x ∷ xs) e k = absurd (omega (arith, e.size, k))
  leaving-end done old [] e k =
      ap (λ (m : List ℕ). set m (from + (len - 1)) 0) e.now-is ∙ store_at from h done [] t old (len - 1) head (omega (arith, e.place, e.size)) 0
      ∙ ap (λ (m : List ℕ). h ++ (m ++ t)) (sym e.whole)

module _ (from p len : ℕ) (start l : List ℕ) (i : ℕ) (b : Removing from p len start l i) where
  pub removing-next : i + 1 < len → Removing from p len start (set l (from + i) (get_or l (from + (i + 1)) 0)) (i + 1)
  removing-next k = record {
    inside = k;
    are = λ h ds t d. let e : Left p len h ds t l i = b.are h ds t d in leaving-next from p len h ds t l i d.1 e.done e.old e.rest e.is k;
  }

  pub removing-zero : i + 1 < len → get_or l (from + (i + 1)) 0 ≡ 0 → Leaves from p len start (set l (from + i) (get_or l (from + (i + 1)) 0))
  removing-zero k z = record {
    is = λ h ds t d. let e : Left p len h ds t l i = b.are h ds t d in leaving-zero from p len h ds t l i d.1 e.done e.old e.rest e.is k z;
  }

  pub removing-end : len ≤ i + 1 → Leaves from p len start (set l (from + (len - 1)) 0)
  removing-end k = record {
    is = λ h ds t d. let e : Left p len h ds t l i = b.are h ds t d in leaving-end from p len h ds t l i d.1 e.done e.old e.rest e.is k;
  }
