-- The words of valid members: how many they are, that they fall, and how many are at least a limit.
use Prim.Native.Nat.{ℕ, zero, suc, ◌+◌, ◌-◌, ◌≤◌, ◌<◌}
use mathlib.Core.Path.{◌≡◌, refl, sym, ap, ap₂, ◌∙◌}
use mathlib.Core.Bool.{Bool, true, false, cond}
use mathlib.Core.List.{List, [], ◌∷◌, ◌++◌, append-nil}
use native.Mathlib.Omega.{arith}
use lib.Dec.{ltb, lit≤}
use lib.ListN.{length, get_or, replicate, length-append, length-replicate}
use borrow.Author.Tests.{ltb-true, ltb-false}
use Rattle.cell.specs.Name.{no_name}
use Rattle.connection_members.specs.Members.{Member, member_capacity}
use Rattle.connection_members.specs.Invariant.{Rising, ValidMember, ValidMembers}
use Rattle.laws.specs.All.{All}
use Rattle.table.specs.Layout.{members_from, member_word, packed, member_words}
use Rattle.table_column.specs.Descending.{at_least, Descending}
use Rattle.table_column.specs.Column.{Column, InColumn}
use Rattle.table_column.proofs.Descending.{reaches, reaches-yes, reaches-not}
use Rattle.table_members.specs.Place.{below, word_limit}
use Rattle.table_members.specs.Words.{WithMembers}

-- where they stand
pub members-column : Column members_from member_capacity
members-column = record { halvings = 8; is = refl; inside = lit≤ tt }

pub packed-length : (ms : List Member) → length (packed ms) ≡ length ms
unfolding packed
packed-length [] = refl
packed-length (m ∷ ms) = ap suc (packed-length ms)

pub words-length : (ms : List Member) → length ms ≤ member_capacity → length (member_words ms) ≡ member_capacity
unfolding member_words
words-length ms h =
    omega (
      arith,
      length-append (packed ms) (replicate (member_capacity - length ms) 0),
      packed-length ms,
      length-replicate {A = ℕ} (member_capacity - length ms) 0,
    )

-- ---- they fall

first-zero : (n : ℕ) → get_or (replicate n 0) 0 0 ≤ 0
first-zero zero = omega arith
first-zero (suc n) = omega arith

zeros-fall : (n : ℕ) → Descending (replicate n 0)
zeros-fall zero = tt
zeros-fall (suc n) = (first-zero n, zeros-fall n)

packed-descends : (n : ℕ) (ms : List Member) → Rising ms → All ValidMember ms → Descending (packed ms ++ replicate n 0)
unfolding packed
packed-descends n [] r v = zeros-fall n
packed-descends n (m ∷ []) r v = (omega (arith, first-zero n), zeros-fall n)
packed-descends n (m ∷ k ∷ ms) r v =
    (omega (arith, r.0.0, v.1.0.coded, v.1.0.stocked), packed-descends n (k ∷ ms) r.1 v.1)

pub words-fall : (ms : List Member) → ValidMembers ms → Descending (member_words ms)
unfolding member_words
words-fall ms v = packed-descends (member_capacity - length ms) ms v.rising v.each

-- the members' words in a table
pub in-column : (l h : List ℕ) (ms : List Member) → WithMembers l h ms → InColumn members_from member_capacity l h (member_words ms) []
in-column l h ms w =
    (w.is ∙ ap (λ (m : List ℕ). h ++ m) (sym (append-nil (member_words ms))), w.place, words-length ms w.valid.few, words-fall ms w.valid)

-- ---- counts

pub at-least-append : (w : ℕ) (xs ys : List ℕ) → at_least w (xs ++ ys) ≡ at_least w xs + at_least w ys
unfolding at_least
at-least-append w [] ys = omega arith
at-least-append w (x ∷ xs) ys = omega (arith, at-least-append w xs ys)

pub at-least-zeros : (w n : ℕ) → 0 < w → at_least w (replicate n 0) ≡ 0
unfolding at_least
at-least-zeros w zero h = refl
at-least-zeros w (suc n) h = omega (arith, reaches-not w 0 h, at-least-zeros w n h)

-- the word of a lower name is at least the limit, that of another is not
pub reaches-limit : (x : ℕ) (m : Member) → x ≤ no_name → ValidMember m → reaches (word_limit x) (member_word m) ≡ cond (ltb m.name x) 1 0
reaches-limit x m h v = go (ltb m.name x) refl
  where
    go : (b : Bool) → ltb m.name x ≡ b → reaches (word_limit x) (member_word m) ≡ cond b 1 0
    go true e = reaches-yes (word_limit x) (member_word m) (omega (arith, ltb-true m.name x e, v.coded))
    go false e = reaches-not (word_limit x) (member_word m) (omega (arith, ltb-false m.name x e, v.coded, v.stocked))

packed-below : (x : ℕ) (ms : List Member) → x ≤ no_name → All ValidMember ms → at_least (word_limit x) (packed ms) ≡ below x ms
unfolding packed below at_least
packed-below x [] h v = refl
packed-below x (m ∷ ms) h v = ap₂ (λ (a b : ℕ). a + b) (reaches-limit x m h v.0) (packed-below x ms h v.1)

pub words-below : (x : ℕ) (ms : List Member) → x ≤ no_name → ValidMembers ms → at_least (word_limit x) (member_words ms) ≡ below x ms
unfolding member_words
words-below x ms h v =
    omega (
      arith,
      at-least-append (word_limit x) (packed ms) (replicate (member_capacity - length ms) 0),
      packed-below x ms h v.each,
      at-least-zeros (word_limit x) (member_capacity - length ms) (omega (arith, h)),
    )
