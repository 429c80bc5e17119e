-- A word enters the directory at its place, and the words behind it move up block by block.
use Rattle.std.proofs.Common.{◌≡◌, ℕ, ◌+◌, ◌-◌, ◌*◌, ◌/◌, ◌<◌, ◌≤◌, List, [], ◌∷◌, ◌++◌, length, get_or, take, drop, set, sym, refl, ap, ◌∙◌, subst, ap₂, append_assoc, arith, length-append, length-drop, take-append-drop, length-take-le}
use lib.Seq.{append_snoc, split_at}
use Rattle.model.specs.State.{capacity}
use Rattle.table.specs.Layout.{sampled, groups, samples_from, directory_from}
use Rattle.table_column.specs.Descending.{at_least, Descending, shifted, pushed, inserted_at}
use Rattle.table_column.specs.Column.{Enters}
use Rattle.table_column.proofs.Shifts.{descending-drop, length_inserted, inserted-before, inserted-append, shifted-append, shifted-snoc, pushed-snoc, shifted-zeros}
use Rattle.std.specs.List.{copy_within}
use Rattle.table_names.specs.Filing.{InDirectory, FindsPlace, last_put, both_samples, InBlocks, ShiftsUp, Files}
use Rattle.table_names.proofs.Samples.{sampled-is, length_both}
use Rattle.table_names.proofs.Changes.{front-column, sampled-again, read_word, store_word, both-kept, both-seven, both-last, last-put}
use Rattle.table_names.proofs.Moved.{moved_up, come-out}

-- ---- the words behind move

-- the words done have moved, and `moved` is to stand before the rest, whose first word is the last of block b
record Entering (goal h t l : List ℕ) (b moved : ℕ) (done rest : List ℕ) : Type 0 where
  now-is : l ≡ h ++ (both_samples (done ++ rest) ++ ((done ++ rest) ++ t))
  place : length done ≡ b * 8 + 7
  size : length rest + (b * 8 + 7) ≡ capacity
  falls : Descending rest
  whole : goal ≡ done ++ shifted moved rest

record Entered (goal h t l : List ℕ) (b moved : ℕ) : Type 0 where
  done : List ℕ
  rest : List ℕ
  is : Entering goal h t l b moved done rest

module _ (goal h t l : List ℕ) (b moved : ℕ) (head : length h ≡ samples_from) where
  entering-word : (done : List ℕ) (x : ℕ) (xs : List ℕ) → Entering goal h t l b moved done (x ∷ xs) → get_or l (directory_from + (b * 8 + 7)) 0 ≡ x
  entering-word done x xs e =
      ap (λ (m : List ℕ). get_or m (directory_from + (b * 8 + 7)) 0) e.now-is ∙ read_word h (done ++ (x ∷ xs)) done xs t x (b * 8 + 7) head e.place

  entering-put : (done : List ℕ) (x : ℕ) (xs : List ℕ) → Entering goal h t l b moved done (x ∷ xs) → b * 8 + 8 < capacity
      → last_put l b moved ≡ h ++ (both_samples (done ++ (moved ∷ xs)) ++ ((done ++ (moved ∷ xs)) ++ t))
  entering-put done x xs e k = ap (λ (m : List ℕ). last_put m b moved) e.now-is ∙ last-put h done xs t x x moved b head e.place k

  -- what was read is 0, and so are the words behind it
  entering-zero : (done rest : List ℕ) → Entering goal h t l b moved done rest → b * 8 + 8 < capacity → get_or l (directory_from + (b * 8 + 7)) 0 ≡ 0
      → last_put l b moved ≡ h ++ (sampled (goal) ++ t)
  unfolding shifted
  entering-zero done [] e k z = absurd (omega (arith, e.size, k))
  entering-zero done (x ∷ xs) e k z =
      let r : x ≡ 0 = sym (entering-word done x xs e) ∙ z in
      let s : done ++ (moved ∷ xs) ≡ goal =
      ap (λ (m : List ℕ). done ++ (moved ∷ m)) (sym (ap (λ (m : ℕ). shifted m xs) r ∙ shifted-zeros xs e.falls.1 (omega (arith, e.falls.0, r)))) ∙ sym e.whole in
      entering-put done x xs e k ∙ sampled-again h (done ++ (moved ∷ xs)) (goal) t s

  entering-end : (done rest : List ℕ) → Entering goal h t l b moved done rest → capacity ≤ b * 8 + 8
      → set l (directory_from + (capacity - 1)) moved ≡ h ++ (sampled (goal) ++ t)
  unfolding shifted
  entering-end done [] e k = absurd (omega (arith, e.size, k))
  entering-end done (x ∷ y ∷ xs) e k = absurd (omega (arith, e.size, k))
  entering-end done (x ∷ []) e k =
      ap (λ (m : List ℕ). set m (directory_from + (capacity - 1)) moved) e.now-is
      ∙ store_word h (done ++ (x ∷ [])) done [] t x (capacity - 1) head (omega (arith, e.place, e.size)) moved
      ∙ ap (λ (m : List ℕ). h ++ (m ++ ((done ++ (moved ∷ [])) ++ t))) (both-last done x moved (omega (arith, e.place, e.size)))
      ∙ sampled-again h (done ++ (moved ∷ [])) (goal) t (sym e.whole)

  -- the last word of this block is stored, and seven of the next one have moved
  entering-moved : (done : List ℕ) (x : ℕ) (us : List ℕ) (u : ℕ) (zs : List ℕ) → Entering goal h t l b moved done (x ∷ (us ++ (u ∷ zs))) → length us ≡ 6 → b * 8 + 8 < capacity
      → Descending zs → (m : List ℕ) (r : ℕ) → let k = last_put l b moved in let at = directory_from + (b * 8 + 8) in
      m ≡ set (copy_within k at (at + 6) (at + 1)) at (get_or l (directory_from + (b * 8 + 7)) 0) → r ≡ get_or k (at + 6) 0 → Entered goal h t m (b + 1) r
  unfolding shifted
  entering-moved done x us u zs e six inside falls m r q o =
      record {
        done = next;
        rest = zs;
        is = record {
          now-is =
              q ∙ ap (λ (y : ℕ). set (copy_within k at (at + 6) (at + 1)) at y) (entering-word done x (us ++ (u ∷ zs)) e)
              ∙ ap (λ (n : List ℕ). set (copy_within n at (at + 6) (at + 1)) at x) is
              ∙ moved_up before us u (zs ++ t) at x long six
              ∙ behind (both_samples now)
              ∙ ap (λ (n : List ℕ). h ++ (n ++ ((next ++ zs) ++ t))) same;
          place = omega (arith, length-append (done ++ (moved ∷ [])) (x ∷ us), block, six);
          size = omega (arith, e.size, length-append us (u ∷ zs), six);
          falls = falls;
          whole = e.whole ∙ ap (λ (n : List ℕ). done ++ (moved ∷ n)) shifts ∙ sym (regroup done (x ∷ us) (shifted u zs)) ∙ ap (λ (y : ℕ). next ++ shifted y zs) (sym out);
        };
      }
    where
      k : List ℕ
      k = last_put l b moved

      at : ℕ
      at = directory_from + (b * 8 + 8)

      now : List ℕ
      now = done ++ (moved ∷ (us ++ (u ∷ zs)))

      next : List ℕ
      next = (done ++ (moved ∷ [])) ++ (x ∷ us)

      before : List ℕ
      before = (h ++ both_samples now) ++ (done ++ (moved ∷ []))

      regroup : (a c d : List ℕ) → ((a ++ (moved ∷ [])) ++ c) ++ d ≡ a ++ (moved ∷ (c ++ d))
      regroup a c d = simp append_assoc

      is : k ≡ before ++ (us ++ (u ∷ (zs ++ t)))
      is = entering-put done x (us ++ (u ∷ zs)) e inside ∙ group (both_samples now) done us
        where
          group : (s a c : List ℕ) → h ++ (s ++ ((a ++ (moved ∷ (c ++ (u ∷ zs)))) ++ t)) ≡ ((h ++ s) ++ (a ++ (moved ∷ []))) ++ (c ++ (u ∷ (zs ++ t)))
          group s a c = simp append_assoc

      behind : (s : List ℕ) → ((h ++ s) ++ (done ++ (moved ∷ []))) ++ (x ∷ (us ++ (zs ++ t))) ≡ h ++ (s ++ ((next ++ zs) ++ t))
      behind s = simp append_assoc

      block : length (done ++ (moved ∷ [])) ≡ (b + 1) * 8
      block = omega (arith, length-append done (moved ∷ []), e.place)

      long : length before ≡ at
      long = omega (arith, length-append (h ++ both_samples now) (done ++ (moved ∷ [])), length_both h now head, block)

      same : both_samples now ≡ both_samples (next ++ zs)
      same =
          ap both_samples (ap (λ (n : List ℕ). done ++ (moved ∷ n)) (sym (append_snoc us u zs)) ∙ sym (regroup done (us ++ (u ∷ [])) zs))
          ∙ both-seven (b + 1) (done ++ (moved ∷ [])) (us ++ (u ∷ [])) (x ∷ us) zs block (omega (arith, length-append us (u ∷ []), six)) (omega (arith, six))

      out : r ≡ u
      out = o ∙ ap (λ (n : List ℕ). get_or n (at + 6) 0) is ∙ come-out before us u (zs ++ t) at long six

      shifts : shifted x (us ++ (u ∷ zs)) ≡ (x ∷ us) ++ shifted u zs
      shifts =
          ap (shifted x) (sym (append_snoc us u zs)) ∙ shifted-append x (us ++ (u ∷ [])) zs
          ∙ ap₂ (λ (a : List ℕ) (y : ℕ). a ++ shifted y zs) (shifted-snoc x us u) (pushed-snoc x us u)

  entering-next : (done rest : List ℕ) → Entering goal h t l b moved done rest → b * 8 + 8 < capacity
      → (m : List ℕ) (r : ℕ) → let k = last_put l b moved in let at = directory_from + (b * 8 + 8) in
      m ≡ set (copy_within k at (at + 6) (at + 1)) at (get_or l (directory_from + (b * 8 + 7)) 0) → r ≡ get_or k (at + 6) 0 → Entered goal h t m (b + 1) r
  entering-next done [] e inside m r q o = absurd (omega (arith, e.size, inside))
  entering-next done (x ∷ xs) e inside m r q o =
      let n : 6 < length xs = omega (arith, e.size, inside) in
      entering-moved done x (take 6 xs) (get_or xs 6 0) (drop 7 xs) (subst (λ (ys : List ℕ). Entering goal h t l b moved done (x ∷ ys)) (split_at xs 6 0 n) e)
      (length-take-le 6 xs (omega (arith, n))) inside (descending-drop 7 xs e.falls.1) m r q o

pub record ShiftingUp (first w : ℕ) (start l : List ℕ) (b moved : ℕ) : Type 0 where
  pub inside : b < groups * 8
  are : (h xs ys t : List ℕ) → InBlocks start first h xs ys t → Entered (xs ++ shifted w ys) h t l b moved

pub shifting-up-start : (b w : ℕ) (l : List ℕ) → b < groups * 8 → ShiftingUp b w l l b w
shifting-up-start b w l k = record {
  inside = k;
  are = λ h xs ys t i. record {
    done = xs;
    rest = ys;
    is = record { now-is = i.0 ∙ ap (λ (m : List ℕ). h ++ m) (sampled-is (xs ++ ys) t); place = i.2; size = i.3; falls = i.4; whole = refl };
  };
}

module _ (first w : ℕ) (start l : List ℕ) (b moved : ℕ) (f : ShiftingUp first w start l b moved) where
  pub shifting-up-next : b * 8 + 8 < capacity → (k m : List ℕ) (r : ℕ) → k ≡ last_put l b moved → let at = directory_from + (b * 8 + 8) in
      (m ≡ set (copy_within k at (at + 6) (at + 1)) at (get_or l (directory_from + (b * 8 + 7)) 0)) × (r ≡ get_or k (at + 6) 0) → ShiftingUp first w start m (b + 1) r
  shifting-up-next inside k m r e q = record {
    inside = omega (arith, inside);
    are = λ h xs ys t i.
        let n = f.are h xs ys t i in
        let at : ℕ = directory_from + (b * 8 + 8) in
        entering-next (xs ++ shifted w ys) h t l b moved i.1 n.done n.rest n.is inside m r
        (q.0 ∙ ap (λ (z : List ℕ). set (copy_within z at (at + 6) (at + 1)) at (get_or l (directory_from + (b * 8 + 7)) 0)) e) (q.1 ∙ ap (λ (z : List ℕ). get_or z (at + 6) 0) e);
  }

  pub shifting-up-zero : b * 8 + 8 < capacity → get_or l (directory_from + (b * 8 + 7)) 0 ≡ 0 → (k : List ℕ) → k ≡ last_put l b moved → ShiftsUp first w start k
  shifting-up-zero inside z k e = record {
    is = λ h xs ys t i. let n = f.are h xs ys t i in e ∙ entering-zero (xs ++ shifted w ys) h t l b moved i.1 n.done n.rest n.is inside z;
  }

  pub shifting-up-end : capacity ≤ b * 8 + 8 → ShiftsUp first w start (set l (directory_from + (capacity - 1)) moved)
  shifting-up-end inside = record {
    is = λ h xs ys t i. let n = f.are h xs ys t i in entering-end (xs ++ shifted w ys) h t l b moved i.1 n.done n.rest n.is inside;
  }

-- ---- the block that the word belongs to

pub files : (v w p out : ℕ) (start l m : List ℕ) → w ≡ v → 0 < v → FindsPlace start w p → Enters directory_from p (p / 8 * 8 + 7) w start l out → ShiftsUp (p / 8) out l m → Files v start m
files v w p out start l m q pos f d u =
    subst (λ (z : ℕ). Files z start m) q (record { is = λ h ds t i k. go h ds t i k (omega (arith, f.is h ds t i (omega (arith, q, pos)), k)) })
  where
    go : (h ds t : List ℕ) → InDirectory start h ds t → at_least w ds < capacity → p ≡ at_least w ds → m ≡ h ++ (sampled (inserted_at (at_least w ds) w ds) ++ t)
    go h ds t i k e =
        u.is h done (drop n ds) t (
          r.0 ∙ regroup (both_samples ds) done (drop n ds) ∙ ap (λ (z : List ℕ). h ++ (z ++ ((done ++ drop n ds) ++ t))) same
              ∙ ap (λ (z : List ℕ). h ++ z) (sym (sampled-is (done ++ drop n ds) t)),
          i.1,
          size,
          omega (arith, length-drop n ds, inside, i.2),
          descending-drop n ds i.3,
        )
        ∙ ap (λ (z : List ℕ). h ++ (sampled z ++ t)) (sym whole)
      where
        n : ℕ
        n = p / 8 * 8 + 7

        inside : p / 8 * 8 + 7 ≤ length ds
        inside = omega (arith, k, e, i.2)

        long : length (take n ds) ≡ n
        long = length-take-le n ds inside

        done : List ℕ
        done = inserted_at p w (take n ds)

        size : length done ≡ p / 8 * 8 + 7
        size = length_inserted p w (take n ds) ∙ long

        upto : p ≤ length (take n ds)
        upto = subst (λ (z : ℕ). p ≤ z) (sym long) (omega arith)

        r : (l ≡ (h ++ both_samples ds) ++ (done ++ (drop n ds ++ t))) × (out ≡ pushed w (drop p (take n ds)))
        r = d.is (h ++ both_samples ds) (take n ds) (drop n ds ++ t) (front-column start h ds t i n (omega (arith, inside, i.2)))

        same : both_samples ds ≡ both_samples (done ++ drop n ds)
        same =
            ap both_samples (sym (take-append-drop n ds))
            ∙ both-kept (p / 8) p (take n ds) done (drop n ds) long size (omega arith) (λ j z. sym (inserted-before p w (take n ds) j upto z))

        whole : inserted_at (at_least w ds) w ds ≡ done ++ shifted out (drop n ds)
        whole =
            ap (λ (z : ℕ). inserted_at z w ds) (sym e) ∙ ap (inserted_at p w) (sym (take-append-drop n ds)) ∙ inserted-append p w (take n ds) (drop n ds) upto
            ∙ ap (λ (z : ℕ). done ++ shifted z (drop n ds)) (sym r.1)

        regroup : (a x c : List ℕ) → (h ++ a) ++ (x ++ (c ++ t)) ≡ h ++ (a ++ ((x ++ c) ++ t))
        regroup a x c = simp append_assoc
