-- The winner of a leaf, as the code finds it: one lemma for each way out. The number of a winner, with its mark and
-- without.
use Prim.Native.Nat.{ℕ, ◌+◌, ◌*◌, ◌/◌, ◌%◌, ◌^◌, ◌<◌}
use mathlib.Core.Path.{◌≡◌, refl, sym, ap, ◌∙◌}
use mathlib.Core.Logic.{◌≢◌}
use mathlib.Core.Bool.{Bool, true, false, cond}
use mathlib.Core.List.{List}
use native.Mathlib.Nat.{add-zero}
use native.Mathlib.Omega.{arith}
use lib.Dec.{eqb}
use lib.ListN.{get_or, set}
use borrow.Author.Tests.{eqb-false, eq-eqb, ne_eqb}
use Rattle.model.specs.State.{Entry, capacity}
use Rattle.model.specs.Tournament.{MatchWinner, no_winner, won_by, neighbour, winner_at, winner_word}
use Rattle.model.proofs.Entries.{Case, same, other, case}
use Rattle.model.proofs.Places.{Stands, OnMatchWinner, Comes, winner-entry, ended}
use Rattle.table.specs.Layout.{halves, record_from, winner_number, winner_key}
use Rattle.table_tournament.specs.declared.winner.KeyedWinner.{KeyedWinner}
use Rattle.table_tournament.specs.KeyedWinner.{word_mark, leaf_word, keyed_leaf, word_leaf}

abbrev pub as_keyed : (word key : ℕ) → KeyedWinner
as_keyed w k = record { word = w; key = k }

-- ---- leaves

module _ (l : List ℕ) (x m : ℕ) where
  pub leaf-none : get_or l (record_from x) 0 ≡ 0 → record { word = 0; key = 0 } ≡ keyed_leaf l x m
  leaf-none e = rw (eq-eqb (get_or l (record_from x) 0) 0 e)

  pub leaf-some : {w : ℕ} → w ≡ leaf_word l x → get_or l (record_from x) 0 ≢ 0 → as_keyed (w + m) (get_or l (record_from x) 0) ≡ keyed_leaf l x m
  leaf-some f e = ap (λ (w : ℕ). as_keyed (w + m) (get_or l (record_from x) 0)) f ∙ rw (ne_eqb (get_or l (record_from x) 0) 0 e)

-- ---- the number of a winner

pub leaf-of-word : (v x : ℕ) → x < capacity → word_leaf (halves v (2 * (x + 1))) ≡ x
leaf-of-word v x l = omega arith

-- its lower half tells the leaf
pub low_half : (ss : List Entry) (d p : ℕ) (a : MatchWinner) → OnMatchWinner (Comes ss d p) a → winner_number a % 2 ^ 32 ≡ 2 * winner_word a
unfolding winner_number winner_word
low_half ss d p no_winner c = refl
low_half ss d p (won_by i v x) c = let l = c.inside in omega arith

-- ---- marks

-- what is added to the number of leaf k, and of no other: a mark, or 0 where none is needed
unfoldable pub mark_of : (mark leaf : ℕ) → MatchWinner → ℕ
mark_of m k no_winner = 0
mark_of m k (won_by i v x) = cond (eqb x k) m 0

abbrev pub marked_number : (mark leaf : ℕ) → MatchWinner → ℕ
marked_number m k a = winner_number a + mark_of m k a

abbrev pub marked_winner : (mark leaf : ℕ) → MatchWinner → KeyedWinner
marked_winner m k a = as_keyed (marked_number m k a) (winner_key a)

pub mark-other : (m k : ℕ) (a : MatchWinner) → winner_word a ≢ k + 1 → winner_number a ≡ marked_number m k a
unfolding mark_of winner_word
mark-other m k no_winner n = sym (add-zero (winner_number no_winner))
mark-other m k (won_by i v x) n =
    let z : eqb x k ≡ false = ne_eqb x k (λ e. n (ap (λ (m : ℕ). m + 1) e)) in
    sym (ap (λ (t : Bool). winner_number (won_by i v x) + cond t m 0) z ∙ add-zero (winner_number (won_by i v x)))

-- it is taken off
pub mark-off : (k : ℕ) (a : MatchWinner) → marked_number word_mark k a / 2 * 2 ≡ winner_number a
unfolding mark_of winner_number
mark-off k no_winner = refl
mark-off k (won_by i v x) = go (eqb x k)
  where
    go : (t : Bool) → (halves v (2 * (x + 1)) + cond t word_mark 0) / 2 * 2 ≡ halves v (2 * (x + 1))
    go true = omega arith
    go false = omega arith

-- there is none
pub mark-none : (k : ℕ) (a : MatchWinner) → marked_number 0 k a ≡ winner_number a
unfolding mark_of
mark-none k no_winner = add-zero (winner_number no_winner)
mark-none k (won_by i v x) = go (eqb x k)
  where
    go : (t : Bool) → winner_number (won_by i v x) + cond t 0 0 ≡ winner_number (won_by i v x)
    go true = add-zero (winner_number (won_by i v x))
    go false = add-zero (winner_number (won_by i v x))

-- Where a replay of leaf k ends, and where it does not. The entries are those before and now.
module _ (ss : List Entry) (k : ℕ) (y : Entry) (d p : ℕ) where
  ends_at : (a b : MatchWinner) → OnMatchWinner (Comes ss d p) a → OnMatchWinner (Comes (set ss k y) d p) b → winner_number a ≡ marked_number word_mark k b → (winner_word a ≡ winner_word b) × (winner_word b ≢ k + 1)
  unfolding mark_of winner_number winner_word
  ends_at no_winner no_winner s t e = (refl, λ z. omega (arith, z))
  ends_at no_winner (won_by j w z) s t e = absurd (omega (arith, e))
  ends_at (won_by i v u) no_winner s t e = absurd (omega (arith, e))
  ends_at (won_by i v u) (won_by j w z) s t e = go (eqb z k) refl e
    where
      go : (b : Bool) → eqb z k ≡ b → halves v (2 * (u + 1)) ≡ halves w (2 * (z + 1)) + cond b word_mark 0 → (u + 1 ≡ z + 1) × (z + 1 ≢ k + 1)
      go true f e = absurd (omega (arith, e))
      go false f e =
          let n : halves v (2 * (u + 1)) ≡ halves w (2 * (z + 1)) = omega (arith, e) in
          let m : 2 * (u + 1) ≡ 2 * (z + 1) = sym (low_half ss d p (won_by i v u) s) ∙ ap (λ (j : ℕ). j % 2 ^ 32) n ∙ low_half (set ss k y) d p (won_by j w z) t in
          (omega arith, λ g. eqb-false z k f (omega (arith, g)))

  module _ {h : ℕ} (s : Stands h d p) where
    pub mark-ends : winner_number (winner_at ss d p) ≡ marked_number word_mark k (winner_at (set ss k y) d p)
        → (winner_word (winner_at ss d p) ≡ winner_word (winner_at (set ss k y) d p)) × (winner_word (winner_at (set ss k y) d p) ≢ k + 1)
    mark-ends = ends_at (winner_at ss d p) (winner_at (set ss k y) d p) (winner-entry ss d p s) (winner-entry (set ss k y) d p s)

    pub mark-goes-on : winner_number (winner_at ss d p) ≢ marked_number word_mark k (winner_at (set ss k y) d p)
        → winner_word (winner_at ss d p) ≡ winner_word (winner_at (set ss k y) d p) → winner_word (winner_at (set ss k y) d p) ≡ k + 1
    mark-goes-on n e = go (case (winner_word (winner_at (set ss k y) d p)) (k + 1))
      where
        go : Case (winner_word (winner_at (set ss k y) d p)) (k + 1) → winner_word (winner_at (set ss k y) d p) ≡ k + 1
        go (same z) = z
        go (other z) = absurd (n (ap winner_number (sym (ended ss k y d p s e z)) ∙ mark-other word_mark k (winner_at (set ss k y) d p) z))

-- ---- places

-- of an even number of places each has its neighbour among them
pub neighbour-below : (c x : ℕ) → x < c + c → neighbour x < c + c
neighbour-below c x l = omega arith
