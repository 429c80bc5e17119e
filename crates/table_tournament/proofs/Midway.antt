-- The winners half-way through a replay. Up to a level they are those of the entries now, above it
-- those of the entries before.
use Prim.Native.Nat.{ℕ, zero, suc, ◌+◌, ◌*◌, ◌≤◌, ◌<◌}
use mathlib.Core.Path.{◌≡◌, refl, sym, ap, subst, ◌∙◌}
use mathlib.Core.Logic.{◌≢◌}
use mathlib.Core.Bool.{Bool, true, false, cond}
use mathlib.Core.List.{List}
use native.Mathlib.Nat.{zero-add}
use native.Mathlib.Omega.{arith}
use lib.Dec.{leb}
use lib.ListN.{set}
use borrow.Author.Tests.{leb-true, leb-false, le-leb, lt-leb}
use Rattle.model.specs.State.{Entry, capacity}
use Rattle.model.specs.Tournament.{MatchWinner, no_winner, levels, winner_at}
use Rattle.model.proofs.Entries.{Case, same, other, case}
use Rattle.model.proofs.Places.{above, Stands, Unchanged, unchanged-above, off-path}
use Rattle.table.specs.Layout.{height, node_winner, winner_number, winner_key, winner_words, nodes}
use Rattle.table.proofs.Nodes.{winners-same, winners-set, at-leaves, above-leaves, height-leaf, height-at, Placed, height-stands, node-zero, node_at}

module _ (x : ℕ) (ss : List Entry) (y : Entry) where
  abbrev pub mid_winner : (level place : ℕ) → MatchWinner
  mid_winner n p = cond (leb (height levels p) n) (node_winner (set ss x y) p) (node_winner ss p)

  abbrev pub mid_nodes : ℕ → List ℕ
  mid_nodes n = winner_words (mid_winner n) 0 capacity

  mid-new : (n p : ℕ) → height levels p ≤ n → mid_winner n p ≡ node_winner (set ss x y) p
  mid-new n p l = rw (le-leb (height levels p) n l)

  mid-old : (n p : ℕ) → n < height levels p → mid_winner n p ≡ node_winner ss p
  mid-old n p l = rw (lt-leb (height levels p) n l)

  mid-zero : (n : ℕ) → mid_winner n 0 ≡ no_winner
  mid-zero n = rw (node-zero ss, node-zero (set ss x y)) (go (leb (height levels 0) n))
    where
      go : (b : Bool) → cond b no_winner no_winner ≡ no_winner
      go true = refl
      go false = refl

  mid-below : {h d p : ℕ} (n : ℕ) → Stands h d p → d ≤ n → mid_winner n p ≡ winner_at (set ss x y) d p
  mid-below {h} {d} {p} n s l = mid-new n p (omega (arith, height-at levels d (omega (arith, s.height)) s)) ∙ node_at (set ss x y) p s

  pub mid-above : {h d p : ℕ} (n : ℕ) → Stands h d p → n < d → mid_winner n p ≡ winner_at ss d p
  mid-above {h} {d} {p} n s l = mid-old n p (omega (arith, height-at levels d (omega (arith, s.height)) s)) ∙ node_at ss p s

  -- a place of a match stands above the leaves
  raised : (p : ℕ) → 1 ≤ p → p < capacity → 0 < height levels p
  raised p l m = go (height levels p) (height-stands p l (omega arith))
    where
      go : (d : ℕ) → Placed 0 d p → 0 < d
      go zero s = absurd (omega (arith, at-leaves s.stands))
      go (suc d) s = omega arith

  -- at the start
  pub mid_start : nodes ss ≡ mid_nodes 0
  mid_start = winners-same (node_winner ss) (mid_winner 0) 0 capacity (λ j _ l. go j (omega arith))
    where
      go : (j : ℕ) → j < capacity → node_winner ss j ≡ mid_winner 0 j
      go zero l = node-zero ss ∙ sym (mid-zero 0)
      go (suc j) l = sym (mid-old 0 (suc j) (raised (suc j) (omega arith) l))

  -- one level more, where its winner above the leaf, at q, is stored
  pub mid-store : {h : ℕ} (n q a b : ℕ) → Stands h (suc n) q → above (suc n) (capacity + x) ≡ q → a ≡ winner_number (winner_at (set ss x y) (suc n) q) → b ≡ winner_key (winner_at (set ss x y) (suc n) q)
      → set (set (mid_nodes n) (2 * q) a) (2 * q + 1) b ≡ mid_nodes (suc n)
  mid-store n q a b s on e f =
      winners-set (mid_winner n) (mid_winner (suc n)) 0 capacity q a b (above-leaves s) (λ j o. elsewhere j (λ z. o (z ∙ sym (zero-add q)))) (e ∙ ap winner_number stored) (f ∙ ap winner_key stored)
    where
      stored : winner_at (set ss x y) (suc n) q ≡ mid_winner (suc n) (0 + q)
      stored = sym (mid-below (suc n) s (omega arith)) ∙ ap (mid_winner (suc n)) (sym (zero-add q))

      level : (j : ℕ) → j ≢ q → 1 ≤ j → j < capacity → height levels j ≡ suc n → mid_winner n j ≡ mid_winner (suc n) j
      level j o l m f =
          let p = height-stands j l (omega arith) in
          let b : Stands p.from (suc n) j = subst (λ (d : ℕ). Stands p.from d j) f p.stands in
          mid-above n b (omega arith) ∙ sym (off-path ss x y (suc n) j b (λ z. o (sym z ∙ on))) ∙ sym (mid-below (suc n) b (omega arith))

      elsewhere : (j : ℕ) → j ≢ q → mid_winner n j ≡ mid_winner (suc n) j
      elsewhere zero o = mid-zero n ∙ sym (mid-zero (suc n))
      elsewhere (suc j) o = go (case (height levels (suc j)) (suc n)) (leb (height levels (suc j)) n) refl
        where
          go : Case (height levels (suc j)) (suc n) → (b : Bool) → leb (height levels (suc j)) n ≡ b → mid_winner n (suc j) ≡ mid_winner (suc n) (suc j)
          go (same f) b e = level (suc j) o (omega arith) (in-matches (leb capacity (suc j)) refl) f
            where
              in-matches : (b : Bool) → leb capacity (suc j) ≡ b → suc j < capacity
              in-matches true g = absurd (omega (arith, height-leaf levels (suc j) (leb-true capacity (suc j) g)))
              in-matches false g = leb-false capacity (suc j) g
          go (other f) true e = let l = leb-true (height levels (suc j)) n e in mid-new n (suc j) l ∙ sym (mid-new (suc n) (suc j) (omega arith))
          go (other f) false e = let l = leb-false (height levels (suc j)) n e in mid-old n (suc j) l ∙ sym (mid-old (suc n) (suc j) (omega (arith, f)))

  -- Where the next level is as before, all are those of the entries now.
  pub mid-end : (n : ℕ) → Unchanged ss (set ss x y) (suc n) → mid_nodes n ≡ nodes (set ss x y)
  mid-end n u = winners-same (mid_winner n) (node_winner (set ss x y)) 0 capacity (λ j _ l. go j (omega arith))
    where
      go : (j : ℕ) → j < capacity → mid_winner n j ≡ node_winner (set ss x y) j
      go zero l = mid-zero n ∙ sym (node-zero (set ss x y))
      go (suc j) l = at (leb (height levels (suc j)) n) refl
        where
          at : (b : Bool) → leb (height levels (suc j)) n ≡ b → mid_winner n (suc j) ≡ node_winner (set ss x y) (suc j)
          at true e = mid-new n (suc j) (leb-true (height levels (suc j)) n e)
          at false e =
              let m = leb-false (height levels (suc j)) n e in
              let a = height-stands (suc j) (omega arith) (omega arith) in
              mid-old n (suc j) m ∙ node_at ss (suc j) a.stands ∙ sym (unchanged-above ss (set ss x y) (suc n) (height levels (suc j)) m u a.from (suc j) a.stands)
              ∙ sym (node_at (set ss x y) (suc j) a.stands)
