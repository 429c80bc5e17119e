-- The matches that a leaf wins, as the code counts them: the places above it that have its number.
use Prim.Native.Nat.{ℕ, zero, suc, ◌+◌, ◌-◌, ◌*◌, ◌/◌, ◌%◌, ◌^◌, ◌≤◌, ◌<◌}
use mathlib.Core.Path.{◌≡◌, refl, ap, ◌∙◌}
use mathlib.Core.Logic.{◌≢◌}
use mathlib.Core.Bool.{Bool, true, false, cond}
use mathlib.Core.List.{List}
use native.Mathlib.Omega.{arith}
use lib.Dec.{eqb}
use lib.ListN.{get_or}
use borrow.Author.Tests.{eqb-true, eqb-false, eq-eqb, ne_eqb}
use Rattle.model.specs.State.{State, capacity}
use Rattle.model.specs.Invariant.{WellFormed}
use Rattle.model.specs.Tournament.{levels, MatchWinner, winner_at, winner_word, ends, replayed_from, replayed}
use Rattle.model.proofs.Places.{above, Stands, above-stands, winner-entry}
use Rattle.model.proofs.Replays.{replayed-all}
use Rattle.table.specs.Layout.{words, nodes_from}
use Rattle.table_tournament.specs.Replaying.{CountsWon, levels_with}
use Rattle.table_tournament.proofs.Keyed.{low_half}
use Rattle.table_tournament.proofs.Replaying.{ends-yes, ends-no}
use Rattle.table_tournament.proofs.States.{node-word}

-- ---- the loop: so many places were looked at, and this one is next

abbrev pub Looked : (l : List ℕ) (leaf first most n place : ℕ) → Type 0
Looked l x first most n p = n + levels_with l x p (most - n) ≡ 1 + levels_with l x first (most - 1)

module _ (l : List ℕ) (x first most n p : ℕ) (h : Looked l x first most n p) where
  looks : n < most → levels_with l x p (most - n) ≡ cond (eqb (get_or l (nodes_from + 2 * p) 0 % 2 ^ 32) (2 * (x + 1))) (1 + levels_with l x (p / 2) (most - (n + 1))) 1
  unfolding levels_with
  looks m = let z : most - n ≡ suc (most - (n + 1)) = omega arith in ap (levels_with l x p) z

  pub looked-other : n < most → get_or l (nodes_from + 2 * p) 0 % 2 ^ 32 ≢ 2 * (x + 1) → n ≡ levels_with l x first (most - 1)
  looked-other m d =
      let z = looks m ∙ ap (λ (t : Bool). cond t (1 + levels_with l x (p / 2) (most - (n + 1))) 1) (ne_eqb (get_or l (nodes_from + 2 * p) 0 % 2 ^ 32) (2 * (x + 1)) d) in
      omega (arith, z, h)

  pub looked-same : n < most → get_or l (nodes_from + 2 * p) 0 % 2 ^ 32 ≡ 2 * (x + 1) → Looked l x first most (n + 1) (p / 2)
  looked-same m d =
      let z = looks m ∙ ap (λ (t : Bool). cond t (1 + levels_with l x (p / 2) (most - (n + 1))) 1) (eq-eqb (get_or l (nodes_from + 2 * p) 0 % 2 ^ 32) (2 * (x + 1)) d) in
      omega (arith, z, h)

  pub looked-all : most ≤ n → n ≡ levels_with l x first (most - 1)
  unfolding levels_with
  looked-all m = let z : most - n ≡ 0 = omega arith in let e = ap (levels_with l x p) z in omega (arith, e, h)

-- ---- one place less is looked at

pub levels-less : (l : List ℕ) (x p k : ℕ) → levels_with l x p (suc k) ≡ suc (suc k) → levels_with l x p k ≡ suc k
unfolding levels_with
levels-less l x p zero e = refl
levels-less l x p (suc k) e = go (levels-less l x (p / 2) k) (eqb (get_or l (nodes_from + 2 * p) 0 % 2 ^ 32) (2 * (x + 1))) e
  where
    go : (levels_with l x (p / 2) (suc k) ≡ suc (suc k) → levels_with l x (p / 2) k ≡ suc k) → (t : Bool)
        → cond t (1 + levels_with l x (p / 2) (suc k)) 1 ≡ suc (suc (suc k)) → cond t (1 + levels_with l x (p / 2) k) 1 ≡ suc (suc k)
    go less true e = omega (arith, less (omega (arith, e)))
    go less false e = absurd (omega (arith, e))

-- ---- the places above a leaf

either-one : (b : Bool) (n : ℕ) → n ≡ 0 → 1 ≡ cond b 1 (suc n)
either-one true n e = refl
either-one false n e = omega (arith, e)

module _ (l : List ℕ) (s : State) (w : WellFormed s) (q : l ≡ words s) (x : ℕ) (b : x < capacity) where
  -- from level d on
  from-level : (k d : ℕ) → d + suc k ≡ levels → levels_with l x (above (suc d) (capacity + x)) k ≡ replayed_from x s.entries s.entries (suc d) (above (suc d) (capacity + x)) (suc k)
  unfolding levels_with replayed_from above
  from-level zero d e = either-one (ends x (winner_at s.entries (suc d) (above (suc d) (capacity + x))) (winner_at s.entries (suc d) (above (suc d) (capacity + x)))) _ refl
  from-level (suc k) d e = go (from-level k (suc d) (omega arith)) (eqb (get_or l (nodes_from + 2 * p) 0 % 2 ^ 32) (2 * (x + 1))) refl
    where
      p : ℕ
      p = above (suc d) (capacity + x)

      a : MatchWinner
      a = winner_at s.entries (suc d) p

      stands : Stands (levels - suc d) (suc d) p
      stands = above-stands x b (levels - suc d) (suc d) (omega arith)

      -- what the code reads of the place
      read : get_or l (nodes_from + 2 * p) 0 % 2 ^ 32 ≡ 2 * winner_word a
      read = ap (λ (k : ℕ). k % 2 ^ 32) (node-word l s w q stands) ∙ low_half s.entries (suc d) p a (winner-entry s.entries (suc d) p stands)

      go : levels_with l x (above (suc (suc d)) (capacity + x)) k ≡ replayed_from x s.entries s.entries (suc (suc d)) (above (suc (suc d)) (capacity + x)) (suc k)
          → (t : Bool) → eqb (get_or l (nodes_from + 2 * p) 0 % 2 ^ 32) (2 * (x + 1)) ≡ t
          → cond t (1 + levels_with l x (p / 2) k) 1 ≡ cond (ends x a a) 1 (suc (replayed_from x s.entries s.entries (suc (suc d)) (p / 2) (suc k)))
      go next true f = rw (ends-no x a a (λ _. omega (arith, read, eqb-true (get_or l (nodes_from + 2 * p) 0 % 2 ^ 32) (2 * (x + 1)) f))) (omega (arith, next))
      go next false f = rw (ends-yes x a a refl (λ z. eqb-false (get_or l (nodes_from + 2 * p) 0 % 2 ^ 32) (2 * (x + 1)) f (read ∙ ap (λ (k : ℕ). 2 * k) z)))

pub counts-won : (l : List ℕ) (x n : ℕ) → x < capacity → n ≡ levels_with l x ((capacity + x) / 2) (levels - 1) → CountsWon l x n
unfolding replayed above
counts-won l x n b f = record { is = λ s h q. f ∙ from-level l s h q x b (levels - 1) 0 refl }

-- The winner of the tournament has won at every place above its leaf.
pub leads-all : (l : List ℕ) (s : State) → WellFormed s → l ≡ words s → (x : ℕ) → x < capacity → winner_word (winner_at s.entries levels 1) ≡ x + 1
    → levels_with l x ((capacity + x) / 2) (levels - 2) ≡ levels - 1
leads-all l s h q x b e =
    levels-less l x ((capacity + x) / 2) (levels - 2) ((counts-won l x _ b refl).is s h q ∙ replayed-all x b s.entries h.unique s.entries e)
