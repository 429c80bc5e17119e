-- What the search for a name finds in the words of a table, what waits on a member there, and
-- whether there is room for another.
use Prim.Native.Nat.{ℕ, suc, ◌+◌, ◌-◌, ◌*◌, ◌/◌, ◌%◌, ◌<◌, min}
use mathlib.Core.Path.{◌≡◌, refl, sym, ap, subst, ◌∙◌}
use mathlib.Core.Bool.{Bool, true, false}
use mathlib.Core.List.{List, [], ◌∷◌, ◌++◌}
use native.Mathlib.Omega.{arith}
use lib.Dec.{ltb, eqb}
use lib.ListN.{length, get_or, set}
use borrow.Author.Tests.{ltb-true, ltb-false, eq-eqb, ne_eqb}
use Rattle.cell.specs.Name.{no_name}
use Rattle.connection_members.specs.Members.{Member, member_capacity, is_member, cells_of, with_cells}
use Rattle.connection_members.specs.Invariant.{ValidMember, ValidMembers}
use Rattle.connection_members.proofs.Valid.{cells_fit}
use Rattle.table.specs.Layout.{members_from, member_words}
use Rattle.std.specs.Prelude.{Some, None}
use Rattle.table_column.specs.Column.{AtLeast}
use Rattle.table_column.proofs.Halving.{in-column as column-word}
use Rattle.table_members.specs.Place.{below, word_limit, MemberAt}
use Rattle.table_members.specs.Words.{WithMembers, FindsMember, CellsAt, HasRoom, SetsCells}
use Rattle.table_members.proofs.Packed.{in-column, words-below}
use Rattle.table_members.proofs.Places.{below_in, none-there, words-at, words-behind, each_at, member-at, word-is, set_words}

-- a word of the members in a table
pub word_in : (l h : List ℕ) (ms : List Member) → WithMembers l h ms → (i : ℕ) → i < member_capacity → get_or l (members_from + i) 0 ≡ get_or (member_words ms) i 0
word_in l h ms w i k = column-word members_from member_capacity l h (member_words ms) [] (in-column l h ms w) i k

-- the word of the member x
pub word_at : (l h : List ℕ) (ms : List Member) → WithMembers l h ms → (x i : ℕ) → i < member_capacity → MemberAt ms x i → get_or l (members_from + i) 0 ≡ (no_name - x) * 65536 + cells_of x ms
word_at l h ms w x i k a = word_in l h ms w i k ∙ word-is ms w.valid.rising x i a

-- ---- the search

-- the member whose word has the name x is x
named-at : (ms : List Member) → ValidMembers ms → (x p : ℕ) → x < no_name → get_or (member_words ms) p 0 / 65536 ≡ no_name - x → MemberAt ms x p
named-at ms v x p h e = go (ltb p (length ms)) refl
  where
    go : (b : Bool) → ltb p (length ms) ≡ b → MemberAt ms x p
    go true q =
        let l : p < length ms = ltb-true p (length ms) q in
        let k : ValidMember (get_or ms p none-there) = each_at ValidMember ms v.each p l in
        let n : (get_or ms p none-there).name ≡ x = omega (arith, e, words-at ms p l, k.coded, k.stocked, h) in
        subst (λ y. MemberAt ms y p) n (member-at ms v.rising p l)
    go false q = absurd (omega (arith, e, words-behind ms p (ltb-false p (length ms) q), h))

module _ (l : List ℕ) (x p n : ℕ) (h : x < no_name) (is-limit : n ≡ word_limit x) (b : AtLeast members_from member_capacity l n p) where
  a : AtLeast members_from member_capacity l (word_limit x) p
  a = subst (λ (k : ℕ). AtLeast members_from member_capacity l k p) is-limit b

  pub found_here : get_or l (members_from + p) 0 / 65536 ≡ no_name - x → FindsMember l x (Some p)
  found_here e = record {
    inside = a.inside;
    is = λ b ms w. named-at ms w.valid x p h (ap (λ (n : ℕ). n / 65536) (sym (word_in l b ms w p a.inside)) ∙ e);
  }

  pub found_nowhere : (get_or l (members_from + p) 0 / 65536 ≡ no_name - x → ⊥) → FindsMember l x None
  found_nowhere e = record { inside = tt; is = λ b ms w. go b ms w (is_member x ms) refl }
    where
      go : (b : List ℕ) (ms : List Member) → WithMembers l b ms → (t : Bool) → is_member x ms ≡ t → t ≡ false
      go b ms w false q = refl
      go b ms w true q =
          let c : p ≡ min (below x ms) (member_capacity - 1) =
          a.is b (member_words ms) [] (in-column l b ms w) ∙ ap (λ (n : ℕ). min n (member_capacity - 1)) (words-below x ms (omega (arith, h)) w.valid) in
          let d : below x ms ≡ p = omega (arith, c, below_in x ms q, w.valid.few) in
          absurd (e (omega (arith, word_at l b ms w x p a.inside (record { member = q; place = d }), cells_fit x ms w.valid)))

-- ---- what waits

pub cells_are : (l : List ℕ) (i : ℕ) → i < member_capacity → CellsAt l i (get_or l (members_from + i) 0 % 65536)
cells_are l i k = record {
  few = omega arith;
  is = λ h ms x w a. omega (arith, word_at l h ms w x i k a, cells_fit x ms w.valid);
}

set-behind : (h xs : List ℕ) (i v : ℕ) → set (h ++ xs) (length h + i) v ≡ h ++ set xs i v
set-behind [] xs i v = ap (λ (n : ℕ). set xs n v) (omega arith)
set-behind (y ∷ h) xs i v =
    let e : suc (length h) + i ≡ suc (length h + i) = omega arith in
    ap (λ (n : ℕ). set (y ∷ (h ++ xs)) n v) e ∙ ap (λ (m : List ℕ). y ∷ m) (set-behind h xs i v)

-- a store in the word of the member x
pub store_cells : (l h : List ℕ) (ms : List Member) → WithMembers l h ms → (x i n : ℕ) → MemberAt ms x i → set l (members_from + i) ((no_name - x) * 65536 + n) ≡ h ++ member_words (with_cells x n ms)
store_cells l h ms w x i n a =
    ap (λ (m : List ℕ). set m (members_from + i) ((no_name - x) * 65536 + n)) w.is
    ∙ ap (λ (k : ℕ). set (h ++ member_words ms) (k + i) ((no_name - x) * 65536 + n)) (sym w.place)
    ∙ set-behind h (member_words ms) i ((no_name - x) * 65536 + n)
    ∙ ap (λ (m : List ℕ). h ++ m) (set_words ms w.valid.rising x i n a)

pub cells-set : (l : List ℕ) (i n y : ℕ) → i < member_capacity → y ≡ get_or l (members_from + i) 0 / 65536 * 65536 + n → SetsCells i n l (set l (members_from + i) y)
cells-set l i n y k e = record {
  is = λ h ms x w a.
      let z : y ≡ (no_name - x) * 65536 + n = omega (arith, e, word_at l h ms w x i k a, cells_fit x ms w.valid) in
      ap (set l (members_from + i)) z ∙ store_cells l h ms w x i n a;
}

-- ---- room

pub room-is : (l : List ℕ) (r : Bool) → r ≡ eqb (get_or l (members_from + (member_capacity - 1)) 0) 0 → HasRoom l r
room-is l r e = record {
  is = λ h ms w. e ∙ ap (λ (n : ℕ). eqb n 0) (word_in l h ms w (member_capacity - 1) (omega arith)) ∙ go ms w.valid (ltb (length ms) member_capacity) refl;
}
  where
    go : (ms : List Member) → ValidMembers ms → (b : Bool) → ltb (length ms) member_capacity ≡ b → eqb (get_or (member_words ms) (member_capacity - 1) 0) 0 ≡ b
    go ms v true q = eq-eqb (get_or (member_words ms) (member_capacity - 1) 0) 0 (words-behind ms (member_capacity - 1) (omega (arith, ltb-true (length ms) member_capacity q)))
    go ms v false q =
        let n : member_capacity - 1 < length ms = omega (arith, ltb-false (length ms) member_capacity q) in
        ne_eqb (get_or (member_words ms) (member_capacity - 1) 0) 0
        (λ z. omega (arith, z, words-at ms (member_capacity - 1) n, (each_at ValidMember ms v.each (member_capacity - 1) n).coded))
