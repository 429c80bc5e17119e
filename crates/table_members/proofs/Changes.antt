-- A word enters the members' words for a new member, and leaves them with one.
use Prim.Native.Nat.{ℕ, suc, ◌+◌, ◌-◌, ◌*◌, ◌≤◌, ◌<◌}
use mathlib.Core.Path.{◌≡◌, refl, sym, ap, subst, ◌∙◌}
use mathlib.Core.Bool.{Bool, true, false, cond, ◌||◌, true≢false}
use mathlib.Core.List.{List, [], ◌∷◌, ◌++◌, append-nil}
use native.Mathlib.Omega.{arith}
use lib.Dec.{ltb, eqb}
use lib.ListN.{length, replicate}
use borrow.Author.Tests.{eqb-true}
use Rattle.cell.specs.Name.{no_name}
use Rattle.connection_members.specs.Members.{Member, member_capacity, named, any_where, cells_where, without, is_member, cells_of, new_member, with_member, without_member}
use Rattle.connection_members.specs.Invariant.{Rising, ValidMembers}
use Rattle.laws.specs.All.{All}
use Rattle.connection_members.proofs.Lists.{absent, cells-none, with-member-length}
use Rattle.connection_members.proofs.Valid.{with-member-valid, without-valid, cells_fit}
use Rattle.table.specs.Layout.{members_from, member_word, packed, member_words}
use Rattle.table_column.specs.Descending.{at_least, removed_at}
use Rattle.table_column.specs.Column.{Inserts as WordEnters, RemovesWord as WordLeaves}
use Rattle.table_column.proofs.Descending.{reaches, Reach, above, below as under, reach, at-least-in, at-least-fewer}
use Rattle.table_column.proofs.Counts.{enters, leaves}
use Rattle.table_members.specs.Place.{below, word_limit}
use Rattle.table_members.specs.Words.{Adds, RemovesMember}
use Rattle.table_members.proofs.Packed.{words-length, words-fall, in-column, at-least-append, words-below}
use Rattle.table_members.proofs.Places.{word-is}

-- the counts of one 0 more
zero_more : (v n k : ℕ) → n ≡ suc k → at_least v (replicate n 0) ≡ reaches v 0 + at_least v (replicate k 0)
unfolding at_least
zero_more v n k e = ap (λ (m : ℕ). at_least v (replicate m 0)) e

-- ms has one member less than ns, and w is its word
module _ (ms ns : List Member) (w : ℕ) (more : (v : ℕ) → at_least v (packed ns) ≡ at_least v (packed ms) + reaches v w) (one : length ns ≡ suc (length ms)) (few : length ns ≤ member_capacity) where
  words_more : (v : ℕ) → at_least v (member_words ns) + reaches v 0 ≡ at_least v (member_words ms) + reaches v w
  unfolding member_words
  words_more v =
      omega (
        arith,
        at-least-append v (packed ns) (replicate (member_capacity - length ns) 0),
        at-least-append v (packed ms) (replicate (member_capacity - length ms) 0),
        zero_more v (member_capacity - length ms) (member_capacity - length ns) (omega (arith, one, few)),
        more v,
      )

-- ---- a member more

packed_more : (v x : ℕ) (ms : List Member) → at_least v (packed (with_member x ms)) ≡ at_least v (packed ms) + reaches v (member_word (new_member x))
unfolding packed at_least with_member
packed_more v x [] = omega arith
packed_more v x (m ∷ ms) = go (ltb x m.name) (packed_more v x ms)
  where
    go : (b : Bool) → at_least v (packed (with_member x ms)) ≡ at_least v (packed ms) + reaches v (member_word (new_member x))
        → at_least v (packed (cond b (new_member x ∷ m ∷ ms) (m ∷ with_member x ms))) ≡ (reaches v (member_word m) + at_least v (packed ms)) + reaches v (member_word (new_member x))
    go true k = omega arith
    go false k = omega (arith, k)

pub adds : (l m : List ℕ) (x : ℕ) → x < no_name → WordEnters members_from member_capacity ((no_name - x) * 65536) l m → Adds x l m
adds l m x h r = record {
  is = λ b ms w c e k.
      let ns : List Member = with_member x ms in
      let v : ValidMembers ns = with-member-valid x ms w.valid h c e k in
      let n : length (member_words ms) ≡ member_capacity = words-length ms w.valid.few in
      let q : member_word (new_member x) ≡ (no_name - x) * 65536 = omega arith in
      let i = enters (member_words ms) (member_words ns) ((no_name - x) * 65536) (words-fall ms w.valid) (words-fall ns v) (omega (arith, h)) (words-length ns v.few ∙ sym n)
      (words_more ms ns ((no_name - x) * 65536) (λ u. packed_more u x ms ∙ ap (λ (y : ℕ). at_least u (packed ms) + reaches u y) q) (with-member-length x ms) v.few) in
      r.is b (member_words ms) [] (in-column l b ms w) (omega (arith, i.0, n)) ∙ ap (λ (y : List ℕ). b ++ y) (append-nil _ ∙ sym i.1);
}

-- ---- a member less

without-absent : (x : ℕ) (ms : List Member) → is_member x ms ≡ false → without_member x ms ≡ ms
unfolding without any_where
without-absent x [] e = refl
without-absent x (m ∷ ms) e = go (eqb m.name x) e (without-absent x ms)
  where
    go : (b : Bool) → (b || is_member x ms) ≡ false → (is_member x ms ≡ false → without_member x ms ≡ ms) → cond b (without_member x ms) (m ∷ without_member x ms) ≡ m ∷ ms
    go true e k = absurd (true≢false e)
    go false e k = ap (λ (l : List Member). m ∷ l) (k e)

-- no other has the name of the first
alone : (x : ℕ) (m : Member) (ms : List Member) → Rising (m ∷ ms) → eqb m.name x ≡ true → is_member x ms ≡ false
alone x m ms r q = absent x ms (subst (λ (y : ℕ). All (λ i. y < i.name) ms) (eqb-true m.name x q) r.0)

one_less : (x : ℕ) (ms : List Member) → Rising ms → is_member x ms ≡ true → length ms ≡ suc (length (without_member x ms))
unfolding without any_where
one_less x [] r e = absurd (true≢false (sym e))
one_less x (m ∷ ms) r e = go (eqb m.name x) refl e (one_less x ms r.1)
  where
    go : (b : Bool) → eqb m.name x ≡ b → (b || is_member x ms) ≡ true → (is_member x ms ≡ true → length ms ≡ suc (length (without_member x ms)))
        → suc (length ms) ≡ suc (length (cond b (without_member x ms) (m ∷ without_member x ms)))
    go true q e k = ap suc (sym (ap length (without-absent x ms (alone x m ms r q))))
    go false q e k = ap suc (k e)

packed-less :
    (v x : ℕ) (ms : List Member) → Rising ms → is_member x ms ≡ true
    → at_least v (packed ms) ≡ at_least v (packed (without_member x ms)) + reaches v ((no_name - x) * 65536 + cells_of x ms)
unfolding packed at_least without any_where cells_where
packed-less v x [] r e = absurd (true≢false (sym e))
packed-less v x (m ∷ ms) r e = go (eqb m.name x) refl e (packed-less v x ms r.1)
  where
    go : (b : Bool) → eqb m.name x ≡ b → (b || is_member x ms) ≡ true
        → (is_member x ms ≡ true → at_least v (packed ms) ≡ at_least v (packed (without_member x ms)) + reaches v ((no_name - x) * 65536 + cells_of x ms))
        → reaches v (member_word m) + at_least v (packed ms)
        ≡ at_least v (packed (cond b (without_member x ms) (m ∷ without_member x ms))) + reaches v ((no_name - x) * 65536 + (cond b m.cells 0 + cells_of x ms))
    go true q e k =
        let a : is_member x ms ≡ false = alone x m ms r q in
        let z : (no_name - x) * 65536 + (m.cells + cells_of x ms) ≡ member_word m = omega (arith, eqb-true m.name x q, cells-none (named x) ms a) in
        rw (without-absent x ms a, z) (omega arith)
    go false q e k =
        let z : 0 + cells_of x ms ≡ cells_of x ms = omega arith in
        rw z (omega (arith, k e))

pub removes : (l m : List ℕ) (x k : ℕ) → x < no_name → k ≡ word_limit x → WordLeaves members_from member_capacity k l m → RemovesMember x l m
removes l m x k h q r = record {
  is = λ b ms w e.
      let ns : List Member = without_member x ms in
      let v : ValidMembers ns = without-valid (named x) ms w.valid in
      let n : length (member_words ms) ≡ member_capacity = words-length ms w.valid.few in
      let y : ℕ = (no_name - x) * 65536 + cells_of x ms in
      let i = leaves (member_words ns) (member_words ms) y (words-fall ns v) (words-fall ms w.valid) (omega (arith, h)) (n ∙ sym (words-length ns v.few))
      (words_more ns ms y (λ u. packed-less u x ms w.valid.rising e) (one_less x ms w.valid.rising e) w.valid.few) in
      let p : at_least (word_limit x) (member_words ms) ≡ at_least (y + 1) (member_words ms) = same_place ms w.valid e in
      let d : at_least k (member_words ms) ≡ at_least (y + 1) (member_words ms) = ap (λ (z : ℕ). at_least z (member_words ms)) q ∙ p in
      r.is b (member_words ms) [] (in-column l b ms w) (omega (arith, d, i.0, n))
      ∙ ap (λ (z : List ℕ). b ++ z) (append-nil _ ∙ ap (λ (z : ℕ). removed_at z (member_words ms)) d ∙ sym i.1);
}
  where
    -- what is below the limit and what is below its own word begins at the same place
    same_place : (ms : List Member) → ValidMembers ms → is_member x ms ≡ true
        → at_least (word_limit x) (member_words ms) ≡ at_least ((no_name - x) * 65536 + cells_of x ms + 1) (member_words ms)
    same_place ms v e = go (reach (suc (below x ms)) (at_least ((no_name - x) * 65536 + cells_of x ms + 1) (member_words ms)))
      where
        c : at_least (word_limit x) (member_words ms) ≡ below x ms
        c = words-below x ms (omega (arith, h)) v

        go : Reach (suc (below x ms)) (at_least ((no_name - x) * 65536 + cells_of x ms + 1) (member_words ms))
            → at_least (word_limit x) (member_words ms) ≡ at_least ((no_name - x) * 65536 + cells_of x ms + 1) (member_words ms)
        go (above d) =
            absurd (omega (arith, at-least-in ((no_name - x) * 65536 + cells_of x ms + 1) (member_words ms) (words-fall ms v) (below x ms) d, word-is ms v.rising x (below x ms) (record { member = e; place = refl })))
        go (under d) =
            omega (arith, d, c, at-least-fewer ((no_name - x) * 65536 + cells_of x ms + 1) (word_limit x) (member_words ms) (omega (arith, h, cells_fit x ms v)))
