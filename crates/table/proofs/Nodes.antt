-- The winners in a table's words: what stands at a place, at which height it stands, and what a change of one leaf
-- leaves of them.
use Prim.Native.Nat.{ℕ, zero, suc, ◌+◌, ◌-◌, ◌*◌, ◌^◌, ◌≤◌, ◌<◌}
use mathlib.Core.Path.{◌≡◌, refl, sym, ap, ap₂, subst, ◌∙◌}
use mathlib.Core.Logic.{◌≢◌}
use mathlib.Core.Bool.{Bool, true, false, cond}
use mathlib.Core.List.{List, ◌∷◌}
use native.Mathlib.Nat.{add-zero, add-suc, suc-add, not-suc-le-zero, le_of_suc-le-suc, two-pow-succ, pow-le-pow_right}
use native.Mathlib.Omega.{arith}
use lib.Dec.{leb}
use lib.ListN.{length, get_or, set, replicate}
use borrow.Author.Tests.{leb-true, leb-false, le-leb, lt-leb}
use Rattle.model.specs.State.{Entry, free, capacity}
use Rattle.model.specs.Tournament.{MatchWinner, no_winner, levels, leaf_winner, first, winner_at}
use Rattle.model.proofs.Places.{Stands, lower, upper, even, same-leaf}
use Rattle.table.specs.Layout.{height, node_winner, winner_number, winner_key, winner_words, nodes}

-- ---- the two words of a place

-- the words of the first place, and of those behind it
twice : (k : ℕ) → 2 * suc k ≡ suc (suc (2 * k))
twice k = omega arith

twice-more : (k : ℕ) → 2 * suc k + 1 ≡ suc (suc (2 * k + 1))
twice-more k = omega arith

onward : (p k : ℕ) → suc p + k ≡ p + suc k
onward p k = suc-add p k ∙ sym (add-suc p k)

pub length-winners : (w : ℕ → MatchWinner) (p n : ℕ) → length (winner_words w p n) ≡ 2 * n
unfolding winner_words
length-winners w p zero = refl
length-winners w p (suc n) = ap (λ (k : ℕ). suc (suc k)) (length-winners w (suc p) n) ∙ sym (twice n)

module _ (w : ℕ → MatchWinner) where
  pub winner-at : (p n k : ℕ) → k < n → get_or (winner_words w p n) (2 * k) 0 ≡ winner_number (w (p + k))
  unfolding winner_words
  winner-at p zero k l = absurd (not-suc-le-zero l)
  winner-at p (suc n) zero l = ap (λ (j : ℕ). winner_number (w j)) (sym (add-zero p))
  winner-at p (suc n) (suc k) l =
      ap (λ (j : ℕ). get_or (winner_words w p (suc n)) j 0) (twice k) ∙ winner-at (suc p) n k (le_of_suc-le-suc l) ∙ ap (λ (j : ℕ). winner_number (w j)) (onward p k)

  pub key-at : (p n k : ℕ) → k < n → get_or (winner_words w p n) (2 * k + 1) 0 ≡ winner_key (w (p + k))
  unfolding winner_words
  key-at p zero k l = absurd (not-suc-le-zero l)
  key-at p (suc n) zero l = ap (λ (j : ℕ). winner_key (w j)) (sym (add-zero p))
  key-at p (suc n) (suc k) l =
      ap (λ (j : ℕ). get_or (winner_words w p (suc n)) j 0) (twice-more k) ∙ key-at (suc p) n k (le_of_suc-le-suc l) ∙ ap (λ (j : ℕ). winner_key (w j)) (onward p k)

pub winners-same : (v w : ℕ → MatchWinner) (p n : ℕ) → ((j : ℕ) → p ≤ j → j < p + n → v j ≡ w j) → winner_words v p n ≡ winner_words w p n
unfolding winner_words
winners-same v w p zero e = refl
winners-same v w p (suc n) e =
    ap₂ (λ (a : MatchWinner) (l : List ℕ). winner_number a ∷ winner_key a ∷ l) (e p (omega arith) (omega arith))
    (winners-same v w (suc p) n (λ j l m. e j (omega arith) (omega arith)))

-- another winner at place p + k
pub winners-set : (v w : ℕ → MatchWinner) (p n k a b : ℕ) → k < n → ((j : ℕ) → j ≢ p + k → v j ≡ w j) → a ≡ winner_number (w (p + k)) → b ≡ winner_key (w (p + k))
    → set (set (winner_words v p n) (2 * k) a) (2 * k + 1) b ≡ winner_words w p n
unfolding winner_words
winners-set v w p zero k a b l e f g = absurd (not-suc-le-zero l)
winners-set v w p (suc n) zero a b l e f g =
    let z : p + 0 ≡ p = add-zero p in
    rw (f, g, z) (ap (λ (m : List ℕ). winner_number (w p) ∷ winner_key (w p) ∷ m) (winners-same v w (suc p) n (λ j m u. e j (λ z. omega (arith, z)))))
winners-set v w p (suc n) (suc k) a b l e f g =
    ap₂ (λ (i j : ℕ). set (set (winner_words v p (suc n)) i a) j b) (twice k) (twice-more k)
    ∙ ap₂ (λ (c : MatchWinner) (m : List ℕ). winner_number c ∷ winner_key c ∷ m) (e p (λ z. omega (arith, z)))
    (winners-set v w (suc p) n k a b (le_of_suc-le-suc l) (λ j z. e j (λ y. z (omega (arith, y)))) (f ∙ ap (λ (j : ℕ). winner_number (w j)) (sym (onward p k)))
    (g ∙ ap (λ (j : ℕ). winner_key (w j)) (sym (onward p k))))

-- no winner anywhere
winners-none : (w : ℕ → MatchWinner) (p n : ℕ) → ((j : ℕ) → w j ≡ no_winner) → winner_words w p n ≡ replicate (2 * n) 0
unfolding winner_words winner_number winner_key
winners-none w p zero e = refl
winners-none w p (suc n) e =
    ap₂ (λ (a : MatchWinner) (l : List ℕ). winner_number a ∷ winner_key a ∷ l) (e p) (winners-none w (suc p) n e) ∙ ap (λ (k : ℕ). replicate k 0) (sym (twice n))

pub length-nodes : (ss : List Entry) → length (nodes ss) ≡ 2 * capacity
length-nodes ss = length-winners (node_winner ss) 0 capacity

-- ---- heights

pub at-leaves : {h p : ℕ} → Stands h 0 p → capacity ≤ p
at-leaves {h} s =
    let z : h ≡ levels = omega (arith, s.height) in
    let e : 2 ^ h ≡ capacity = ap (λ (n : ℕ). 2 ^ n) z in
    omega (arith, s.least)

pub above-leaves : {h d p : ℕ} → Stands h (suc d) p → p < capacity
above-leaves {h} {d} s =
    let l : suc h ≤ levels = omega (arith, s.height) in
    let e : 2 ^ suc h ≤ 2 ^ levels = pow-le-pow_right (omega arith) l in
    omega (arith, s.most, two-pow-succ h)

pub height-leaf : (n p : ℕ) → capacity ≤ p → height n p ≡ 0
unfolding height
height-leaf zero p l = refl
height-leaf (suc n) p l = rw (le-leb capacity p l)

-- a place that stands d levels above the leaves
pub height-at : (n d : ℕ) {h p : ℕ} → d ≤ n → Stands h d p → height n p ≡ d
unfolding height
height-at zero d l s = omega arith
height-at (suc n) zero {h} {p} l s = height-leaf (suc n) p (at-leaves s)
height-at (suc n) (suc d) {h} {p} l s = rw (lt-leb capacity p (above-leaves s)) (ap suc (height-at n d (omega arith) (lower (2 * p) s (even p))))

-- and every place stands so many levels above them as its height says
pub record Placed (least d p : ℕ) : Type 0 where
  pub from : ℕ
  pub stands : Stands from d p
  pub far : least ≤ from

halved : (h d p : ℕ) (a : Placed (suc h) d (2 * p)) → Placed h (suc d) p
halved h d p a = go a.from a.stands a.far
  where
    go : (g : ℕ) → Stands g d (2 * p) → suc h ≤ g → Placed h (suc d) p
    go zero s l = absurd (omega arith)
    go (suc g) s l = record { from = g; stands = subst (Stands g (suc d)) (even p) (upper (2 * p) s); far = omega arith }

placed : (n h p : ℕ) → h + n ≡ levels → 2 ^ h ≤ p → p < 2 * capacity → Placed h (height n p) p
unfolding height
placed zero h p e l m =
    let z : h ≡ levels = omega arith in
    let q : 2 ^ h ≡ capacity = ap (λ (n : ℕ). 2 ^ n) z in
    record { from = h; stands = record { height = e; least = l; most = omega arith }; far = omega arith }
placed (suc n) h p e l m = go (λ u. placed n (suc h) (2 * p) (omega arith) (omega (arith, two-pow-succ h)) (omega arith)) (leb capacity p) refl
  where
    go : (p < capacity → Placed (suc h) (height n (2 * p)) (2 * p)) → (b : Bool) → leb capacity p ≡ b → Placed h (cond b 0 (suc (height n (2 * p)))) p
    go k true f = record { from = levels; stands = record { height = refl; least = leb-true capacity p f; most = m }; far = omega arith }
    go k false f = halved h (height n (2 * p)) p (k (leb-false capacity p f))

pub height-stands : (p : ℕ) → 1 ≤ p → p < 2 * capacity → Placed 0 (height levels p) p
height-stands p l m = placed levels 0 p refl l m

-- the winner of a place; place 0 has no match
pub node-zero : (ss : List Entry) → node_winner ss 0 ≡ no_winner
unfolding node_winner
node-zero ss = refl

pub node_at : (ss : List Entry) (p : ℕ) {h d : ℕ} → Stands h d p → node_winner ss p ≡ winner_at ss d p
unfolding node_winner
node_at ss zero {h} s = absurd (omega (arith, s.least, pow-le-pow_right {n = 2} (omega arith) {i = 0} {j = h} (omega arith)))
node_at ss (suc p) {h} {d} s = ap (λ (e : ℕ). winner_at ss e (suc p)) (height-at levels d (omega (arith, s.height)) s)

-- ---- one leaf changes

node-same : (ss rs : List Entry) → ((d p : ℕ) → winner_at rs d p ≡ winner_at ss d p) → (p : ℕ) → node_winner rs p ≡ node_winner ss p
unfolding node_winner
node-same ss rs e zero = refl
node-same ss rs e (suc p) = e (height levels (suc p)) (suc p)

-- a leaf that leads as before
pub nodes-same : (ss : List Entry) (i : ℕ) (x : Entry) → i < length ss → leaf_winner i x ≡ leaf_winner i (get_or ss i free) → nodes (set ss i x) ≡ nodes ss
nodes-same ss i x l e = winners-same (node_winner (set ss i x)) (node_winner ss) 0 capacity (λ j _ _. node-same ss (set ss i x) (same-leaf ss i x e l) j)

-- an empty table has no winner
none-won : (n d p : ℕ) → winner_at (replicate n free) d p ≡ no_winner
unfolding winner_at first leaf_winner
none-won n zero p = ap (leaf_winner (p - capacity)) (all-free n (p - capacity))
  where
    all-free : (n k : ℕ) → get_or (replicate n free) k free ≡ free
    all-free zero k = refl
    all-free (suc n) zero = refl
    all-free (suc n) (suc k) = all-free n k
none-won n (suc d) p = rw (none-won n d (2 * p), none-won n d (2 * p + 1))

none-at : (n p : ℕ) → node_winner (replicate n free) p ≡ no_winner
unfolding node_winner
none-at n zero = refl
none-at n (suc p) = none-won n (height levels (suc p)) (suc p)

pub nodes-free : (n : ℕ) → nodes (replicate n free) ≡ replicate (2 * capacity) 0
nodes-free n = winners-none (node_winner (replicate n free)) 0 capacity (none-at n)
