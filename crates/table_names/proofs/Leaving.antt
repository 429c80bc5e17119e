-- A word leaves the directory, and the words behind it move down block by block.
use Rattle.std.proofs.Common.{◌≡◌, ℕ, suc, ◌+◌, ◌-◌, ◌*◌, ◌/◌, ◌<◌, ◌≤◌, List, [], ◌∷◌, ◌++◌, length, get_or, take, drop, set, sym, refl, ap, ◌∙◌, subst, append_assoc, arith, length-append, length-drop, take-append-drop, length-take-le, get_or-take}
use lib.ListN.{get_or-append}
use lib.Seq.{append_snoc, split_at}
use Rattle.model.specs.State.{capacity}
use Rattle.table.specs.Layout.{sampled, groups, samples_from, directory_from}
use Rattle.table_column.specs.Descending.{at_least, Descending, removed_at}
use Rattle.table_column.specs.Column.{Leaves}
use Rattle.table_column.proofs.Shifts.{descending-drop, removed-split, removed-append, snoc-zeros}
use Rattle.std.specs.List.{copy_within}
use Rattle.table_names.specs.Filing.{InDirectory, FindsPlace, last_put, both_samples, InBlocksBut, ShiftsDown, Unfiles}
use Rattle.table_names.proofs.Samples.{length_both}
use Rattle.table_names.proofs.Changes.{sampled-again, read_word, store_word, front-column, both-kept, both-seven, both-last, last-put}
use Rattle.table_names.proofs.Moved.{moved_down}

-- ---- the words behind move

-- the words done have moved, and the rest is to move over y, the last word of block b; the samples have x in its place
record Leaving (goal h t l : List ℕ) (b : ℕ) (done : List ℕ) (x y : ℕ) (rest : List ℕ) : Type 0 where
  now-is : l ≡ h ++ (both_samples (done ++ (x ∷ rest)) ++ ((done ++ (y ∷ rest)) ++ t))
  place : length done ≡ b * 8 + 7
  size : length rest + (b * 8 + 8) ≡ capacity
  falls : Descending rest
  whole : goal ≡ done ++ (rest ++ (0 ∷ []))

record Left (goal h t l : List ℕ) (b : ℕ) : Type 0 where
  done : List ℕ
  x : ℕ
  y : ℕ
  rest : List ℕ
  is : Leaving goal h t l b done x y rest

module _ (goal h t l : List ℕ) (b : ℕ) (head : length h ≡ samples_from) where
  leaving-word : (done : List ℕ) (x y n : ℕ) (xs : List ℕ) → Leaving goal h t l b done x y (n ∷ xs) → get_or l (directory_from + (b * 8 + 8)) 0 ≡ n
  leaving-word done x y n xs e =
      ap (λ (m : List ℕ). get_or m (directory_from + (b * 8 + 8)) 0)
      (e.now-is ∙ ap (λ (m : List ℕ). h ++ (both_samples (done ++ (x ∷ n ∷ xs)) ++ (m ++ t))) (sym (append_snoc done y (n ∷ xs))))
      ∙ read_word h (done ++ (x ∷ n ∷ xs)) (done ++ (y ∷ [])) xs t n (b * 8 + 8) head (omega (arith, length-append done (y ∷ []), e.place))

  leaving-put : (done : List ℕ) (x y n : ℕ) (xs : List ℕ) → Leaving goal h t l b done x y (n ∷ xs) → b * 8 + 8 < capacity
      → last_put l b (get_or l (directory_from + (b * 8 + 8)) 0) ≡ h ++ (both_samples (done ++ (n ∷ n ∷ xs)) ++ ((done ++ (n ∷ n ∷ xs)) ++ t))
  leaving-put done x y n xs e k =
      ap (last_put l b) (leaving-word done x y n xs e) ∙ ap (λ (m : List ℕ). last_put m b n) e.now-is ∙ last-put h done (n ∷ xs) t x y n b head e.place k

  -- what was read is 0, and so are the words behind it
  leaving-zero : (done : List ℕ) (x y : ℕ) (rest : List ℕ) → Leaving goal h t l b done x y rest → b * 8 + 8 < capacity → get_or l (directory_from + (b * 8 + 8)) 0 ≡ 0
      → last_put l b (get_or l (directory_from + (b * 8 + 8)) 0) ≡ h ++ (sampled goal ++ t)
  leaving-zero done x y [] e k z = absurd (omega (arith, e.size, k))
  leaving-zero done x y (n ∷ xs) e k z =
      let r : n ≡ 0 = sym (leaving-word done x y n xs e) ∙ z in
      let s : done ++ (n ∷ n ∷ xs) ≡ goal =
      ap (λ (m : ℕ). done ++ (m ∷ n ∷ xs)) r ∙ ap (λ (m : List ℕ). done ++ m) (sym (snoc-zeros (n ∷ xs) e.falls (omega (arith, r)))) ∙ sym e.whole in
      leaving-put done x y n xs e k ∙ sampled-again h (done ++ (n ∷ n ∷ xs)) goal t s

  leaving-end : (done : List ℕ) (x y : ℕ) (rest : List ℕ) → Leaving goal h t l b done x y rest → capacity ≤ b * 8 + 8
      → set l (directory_from + (capacity - 1)) 0 ≡ h ++ (sampled goal ++ t)
  leaving-end done x y (n ∷ xs) e k = absurd (omega (arith, e.size, k))
  leaving-end done x y [] e k =
      ap (λ (m : List ℕ). set m (directory_from + (capacity - 1)) 0) e.now-is
      ∙ store_word h (done ++ (x ∷ [])) done [] t y (capacity - 1) head (omega (arith, e.place, e.size)) 0
      ∙ ap (λ (m : List ℕ). h ++ (m ++ ((done ++ (0 ∷ [])) ++ t))) (both-last done x 0 (omega (arith, e.place, e.size)))
      ∙ sampled-again h (done ++ (0 ∷ [])) goal t (sym e.whole)

  -- the last word of this block is stored, and seven words of the next one have moved
  leaving-moved : (done : List ℕ) (x y n : ℕ) (us : List ℕ) (u : ℕ) (zs : List ℕ) → Leaving goal h t l b done x y (n ∷ (us ++ (u ∷ zs))) → length us ≡ 6 → b * 8 + 8 < capacity
      → Descending zs → (m : List ℕ) → let k = last_put l b (get_or l (directory_from + (b * 8 + 8)) 0) in let at = directory_from + (b * 8 + 8) in
      m ≡ copy_within k (at + 1) (at + 8) at → Left goal h t m (b + 1)
  leaving-moved done x y n us u zs e six inside falls m q = record {
    done = next;
    x = u;
    y = u;
    rest = zs;
    is = record {
      now-is =
          q ∙ ap (λ (z : List ℕ). copy_within z (at + 1) (at + 8) at) is
          ∙ moved_down before n us u (zs ++ t) at long six
          ∙ behind (both_samples now)
          ∙ ap (λ (z : List ℕ). h ++ (z ++ ((next ++ (u ∷ zs)) ++ t))) same;
      place = omega (arith, length-append (done ++ (n ∷ [])) (us ++ (u ∷ [])), length-append us (u ∷ []), block, six);
      size = omega (arith, e.size, length-append us (u ∷ zs), six);
      falls = falls;
      whole = e.whole ∙ regroup done us zs;
    };
  }
    where
      k : List ℕ
      k = last_put l b (get_or l (directory_from + (b * 8 + 8)) 0)

      at : ℕ
      at = directory_from + (b * 8 + 8)

      now : List ℕ
      now = done ++ (n ∷ n ∷ (us ++ (u ∷ zs)))

      next : List ℕ
      next = (done ++ (n ∷ [])) ++ (us ++ (u ∷ []))

      before : List ℕ
      before = (h ++ both_samples now) ++ (done ++ (n ∷ []))

      regroup : (a c d : List ℕ) → a ++ ((n ∷ (c ++ (u ∷ d))) ++ (0 ∷ [])) ≡ ((a ++ (n ∷ [])) ++ (c ++ (u ∷ []))) ++ (d ++ (0 ∷ []))
      regroup a c d = simp append_assoc

      is : k ≡ before ++ (n ∷ (us ++ (u ∷ (zs ++ t))))
      is = leaving-put done x y n (us ++ (u ∷ zs)) e inside ∙ group (both_samples now) done us
        where
          group : (s a c : List ℕ) → h ++ (s ++ ((a ++ (n ∷ n ∷ (c ++ (u ∷ zs)))) ++ t)) ≡ ((h ++ s) ++ (a ++ (n ∷ []))) ++ (n ∷ (c ++ (u ∷ (zs ++ t))))
          group s a c = simp append_assoc

      behind : (s : List ℕ) → ((h ++ s) ++ (done ++ (n ∷ []))) ++ ((us ++ (u ∷ [])) ++ (u ∷ (zs ++ t))) ≡ h ++ (s ++ ((next ++ (u ∷ zs)) ++ t))
      behind s = simp append_assoc

      block : length (done ++ (n ∷ [])) ≡ (b + 1) * 8
      block = omega (arith, length-append done (n ∷ []), e.place)

      long : length before ≡ at
      long = omega (arith, length-append (h ++ both_samples now) (done ++ (n ∷ [])), length_both h now head, block)

      same : both_samples now ≡ both_samples (next ++ (u ∷ zs))
      same =
          ap both_samples (group done us)
          ∙ both-seven (b + 1) (done ++ (n ∷ [])) (n ∷ us) (us ++ (u ∷ [])) (u ∷ zs) block (omega (arith, six)) (omega (arith, length-append us (u ∷ []), six))
        where
          group : (a c : List ℕ) → a ++ (n ∷ n ∷ (c ++ (u ∷ zs))) ≡ ((a ++ (n ∷ [])) ++ (n ∷ c)) ++ (u ∷ zs)
          group a c = simp append_assoc

  leaving-next : (done : List ℕ) (x y : ℕ) (rest : List ℕ) → Leaving goal h t l b done x y rest → b * 8 + 8 < capacity
      → (m : List ℕ) → let k = last_put l b (get_or l (directory_from + (b * 8 + 8)) 0) in let at = directory_from + (b * 8 + 8) in
      m ≡ copy_within k (at + 1) (at + 8) at → Left goal h t m (b + 1)
  leaving-next done x y [] e inside m q = absurd (omega (arith, e.size, inside))
  leaving-next done x y (n ∷ xs) e inside m q =
      let s : 6 < length xs = omega (arith, e.size, inside) in
      leaving-moved done x y n (take 6 xs) (get_or xs 6 0) (drop 7 xs) (subst (λ (ys : List ℕ). Leaving goal h t l b done x y (n ∷ ys)) (split_at xs 6 0 s) e)
      (length-take-le 6 xs (omega (arith, s))) inside (descending-drop 7 xs e.falls.1) m q

pub record ShiftingDown (first : ℕ) (start l : List ℕ) (b : ℕ) : Type 0 where
  pub inside : b < groups * 8
  are : (h xs ys t : List ℕ) (x y : ℕ) → InBlocksBut start first h xs x y ys t → Left (xs ++ (ys ++ (0 ∷ []))) h t l b

pub shifting-down-start : (b : ℕ) (l : List ℕ) → b < groups * 8 → ShiftingDown b l l b
shifting-down-start b l k = record {
  inside = k;
  are = λ h xs ys t x y i. record { done = xs; x = x; y = y; rest = ys; is = record { now-is = i.0; place = i.2; size = i.3; falls = i.4; whole = refl } };
}

module _ (first : ℕ) (start l : List ℕ) (b : ℕ) (f : ShiftingDown first start l b) where
  pub shifting-down-next : b * 8 + 8 < capacity → (k m : List ℕ) → k ≡ last_put l b (get_or l (directory_from + (b * 8 + 8)) 0) → let at = directory_from + (b * 8 + 8) in
      m ≡ copy_within k (at + 1) (at + 8) at → ShiftingDown first start m (b + 1)
  shifting-down-next inside k m e q = record {
    inside = omega (arith, inside);
    are = λ h xs ys t x y i.
        let n = f.are h xs ys t x y i in
        let at : ℕ = directory_from + (b * 8 + 8) in
        leaving-next (xs ++ (ys ++ (0 ∷ []))) h t l b i.1 n.done n.x n.y n.rest n.is inside m (q ∙ ap (λ (z : List ℕ). copy_within z (at + 1) (at + 8) at) e);
  }

  pub shifting-down-zero : b * 8 + 8 < capacity → get_or l (directory_from + (b * 8 + 8)) 0 ≡ 0 → (k : List ℕ) → k ≡ last_put l b (get_or l (directory_from + (b * 8 + 8)) 0) → ShiftsDown first start k
  shifting-down-zero inside z k e = record {
    is = λ h xs ys t x y i. let n = f.are h xs ys t x y i in e ∙ leaving-zero (xs ++ (ys ++ (0 ∷ []))) h t l b i.1 n.done n.x n.y n.rest n.is inside z;
  }

  pub shifting-down-end : capacity ≤ b * 8 + 8 → ShiftsDown first start (set l (directory_from + (capacity - 1)) 0)
  shifting-down-end inside = record {
    is = λ h xs ys t x y i. let n = f.are h xs ys t x y i in leaving-end (xs ++ (ys ++ (0 ∷ []))) h t l b i.1 n.done n.x n.y n.rest n.is inside;
  }

-- ---- the block that the word belongs to

pub unfiles : (v w p : ℕ) (start l m : List ℕ) → w ≡ v → 0 < v → FindsPlace start w p → Leaves directory_from p (p / 8 * 8 + 8) start l → ShiftsDown (p / 8) l m → Unfiles v start m
unfiles v w p start l m q pos f d u =
    subst (λ (z : ℕ). Unfiles z start m) q (record { is = λ h ds t i k. go h ds t i k (omega (arith, f.is h ds t i (omega (arith, q, pos)), k)) })
  where
    go : (h ds t : List ℕ) → InDirectory start h ds t → at_least w ds < capacity → p ≡ at_least w ds → m ≡ h ++ (sampled (removed_at (at_least w ds) ds) ++ t)
    go h ds t i k e =
        u.is h done (drop n ds) t (get_or ds (p / 8 * 8 + 7) 0) 0 (
          r ∙ ap (λ (z : List ℕ). (h ++ both_samples ds) ++ (z ++ (drop n ds ++ t))) (removed-split p (take n ds) upto)
              ∙ regroup (both_samples ds) (take p (take n ds)) (drop (suc p) (take n ds)) (drop n ds)
              ∙ ap (λ (z : List ℕ). h ++ (z ++ ((done ++ (0 ∷ drop n ds)) ++ t))) same,
          i.1,
          size,
          omega (arith, length-drop n ds, inside, i.2),
          descending-drop n ds i.3,
        )
        ∙ ap (λ (z : List ℕ). h ++ (sampled z ++ t)) (sym whole)
      where
        n : ℕ
        n = p / 8 * 8 + 8

        inside : p / 8 * 8 + 8 ≤ length ds
        inside = omega (arith, k, e, i.2)

        long : length (take n ds) ≡ p / 8 * 8 + 8
        long = length-take-le n ds inside

        upto : p < length (take n ds)
        upto = omega (arith, long)

        done : List ℕ
        done = take p (take n ds) ++ drop (suc p) (take n ds)

        front : length (take p (take n ds)) ≡ p
        front = length-take-le p (take n ds) (omega (arith, upto))

        size : length done ≡ p / 8 * 8 + 7
        size = omega (arith, length-append (take p (take n ds)) (drop (suc p) (take n ds)), front, length-drop (suc p) (take n ds), long)

        r : l ≡ (h ++ both_samples ds) ++ (removed_at p (take n ds) ++ (drop n ds ++ t))
        r = d.is (h ++ both_samples ds) (take n ds) (drop n ds ++ t) (front-column start h ds t i n (omega (arith, inside, i.2)))

        -- the words before the place stay
        stays : (j : ℕ) → j < p → get_or (take (p / 8 * 8 + 7) ds) j 0 ≡ get_or done j 0
        stays j z =
            get_or-take (p / 8 * 8 + 7) ds j 0 (omega (arith, z)) ∙ sym (get_or-take n ds j 0 (omega (arith, z))) ∙ sym (get_or-take p (take n ds) j 0 z)
            ∙ sym (get_or-append (take p (take n ds)) (drop (suc p) (take n ds)) 0 j (omega (arith, z, front)))

        behind : suc (p / 8 * 8 + 7) ≡ p / 8 * 8 + 8
        behind = omega arith

        same : both_samples ds ≡ both_samples (done ++ (get_or ds (p / 8 * 8 + 7) 0 ∷ drop n ds))
        same =
            ap both_samples (split_at ds (p / 8 * 8 + 7) 0 (omega (arith, inside)))
            ∙ ap (λ (z : ℕ). both_samples (take (p / 8 * 8 + 7) ds ++ (get_or ds (p / 8 * 8 + 7) 0 ∷ drop z ds))) behind
            ∙ both-kept (p / 8) p (take (p / 8 * 8 + 7) ds) done (get_or ds (p / 8 * 8 + 7) 0 ∷ drop n ds) (length-take-le (p / 8 * 8 + 7) ds (omega (arith, inside))) size (omega arith) stays

        whole : removed_at (at_least w ds) ds ≡ done ++ (drop n ds ++ (0 ∷ []))
        whole =
            ap (λ (z : ℕ). removed_at z ds) (sym e) ∙ ap (removed_at p) (sym (take-append-drop n ds)) ∙ removed-append p (take n ds) (drop n ds) upto

        regroup : (a x c b : List ℕ) → (h ++ a) ++ ((x ++ (c ++ (0 ∷ []))) ++ (b ++ t)) ≡ h ++ (a ++ (((x ++ c) ++ (0 ∷ b)) ++ t))
        regroup a x c b = simp append_assoc
