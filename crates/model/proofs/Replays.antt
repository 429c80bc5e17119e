-- What a replay of a leaf's matches counts.
use Prim.Native.Nat.{ℕ, zero, suc, ◌+◌, ◌-◌, ◌/◌, ◌≤◌, ◌<◌}
use mathlib.Core.Path.{◌≡◌, refl, sym, ap, ap₂, subst, ◌∙◌}
use mathlib.Core.Logic.{◌≢◌}
use mathlib.Core.Bool.{Bool, true, false, cond, not, ◌&&◌}
use mathlib.Core.List.{List}
use native.Mathlib.Nat.{zero-add, add-zero}
use native.Mathlib.Omega.{arith}
use lib.Dec.{eqb}
use lib.ListN.{length, get_or, set}
use borrow.Author.Tests.{eqb-true, eq-eqb, ne_eqb}
use Rattle.model.specs.State.{Entry, free, taken, capacity}
use Rattle.model.specs.Invariant.{NamesUnique}
use Rattle.model.specs.Winner.{is_ahead}
use Rattle.model.specs.Tournament.{levels, MatchWinner, no_winner, won_by, instant_winner, leaf_winner, first, neighbour, winner_at, winner_word, ends, replayed_from, replayed}
use Rattle.model.proofs.Places.{above, aside, above-stands, OnMatchWinner, Comes, winner-entry, up, same-leaf, unlike, stands-root}

-- a level more, counted from below
onward : (d c : ℕ) → d + suc c ≡ suc d + c
onward d c = omega arith

either-most : (b : Bool) {i j k : ℕ} → i ≤ k → j ≤ k → cond b i j ≤ k
either-most true p q = p
either-most false p q = q

either-least : (b : Bool) {i j k : ℕ} → k ≤ i → k ≤ j → k ≤ cond b i j
either-least true p q = p
either-least false p q = q

from-most : (x : ℕ) (ss rs : List Entry) (d p n : ℕ) → replayed_from x ss rs d p n ≤ n
unfolding replayed_from
from-most x ss rs d p zero = omega arith
from-most x ss rs d p (suc n) =
    let m : replayed_from x ss rs (suc d) (p / 2) n ≤ n = from-most x ss rs (suc d) (p / 2) n in
    either-most (ends x (winner_at ss d p) (winner_at rs d p)) (omega arith) (omega arith)

pub replayed-most : (x : ℕ) (ss rs : List Entry) → replayed x ss rs ≤ levels
unfolding replayed
replayed-most x ss rs = from-most x ss rs 1 ((capacity + x) / 2) levels

from-least : (x : ℕ) (ss rs : List Entry) (d p n : ℕ) → 1 ≤ replayed_from x ss rs d p (suc n)
unfolding replayed_from
from-least x ss rs d p n = either-least (ends x (winner_at ss d p) (winner_at rs d p)) (omega arith) (omega arith)

pub replayed-least : (x : ℕ) (ss rs : List Entry) → 1 ≤ replayed x ss rs
unfolding replayed
replayed-least x ss rs = from-least x ss rs 1 ((capacity + x) / 2) (levels - 1)

-- where the winners are the same, so is the count
from-same : (x : ℕ) (ss rs : List Entry) → ((d p : ℕ) → winner_at rs d p ≡ winner_at ss d p) → (d p n : ℕ) → replayed_from x ss rs d p n ≡ replayed_from x ss ss d p n
unfolding replayed_from
from-same x ss rs e d p zero = refl
from-same x ss rs e d p (suc n) =
    ap₂ (λ (b : MatchWinner) (m : ℕ). cond (ends x (winner_at ss d p) b) 1 (suc m)) (e d p) (from-same x ss rs e (suc d) (p / 2) n)

-- a leaf that leads as before
pub replayed-same : (x : ℕ) (ss : List Entry) (y : Entry) → x < length ss → leaf_winner x y ≡ leaf_winner x (get_or ss x free) → replayed x ss (set ss x y) ≡ replayed x ss ss
unfolding replayed
replayed-same x ss y l e = from-same x ss (set ss x y) (same-leaf ss x y e l) 1 ((capacity + x) / 2) levels

-- a leaf that is empty or never ready leads no place
won-none : (ss : List Entry) (x d p : ℕ) → leaf_winner x (get_or ss x free) ≡ no_winner → (a : MatchWinner) → OnMatchWinner (Comes ss d p) a → winner_word a ≢ x + 1
unfolding winner_word leaf_winner instant_winner
won-none ss x d p e no_winner c f = omega (arith, f)
won-none ss x d p e (won_by i v y) c f =
    let here : get_or ss x free ≡ taken c.holder = ap (λ (m : ℕ). get_or ss m free) (omega (arith, f)) ∙ c.here in
    winner-some (sym (ap (leaf_winner x) here ∙ ap (instant_winner c.holder.name x) c.ready_at) ∙ e)
  where
    winner-some : {j w z : ℕ} → won_by j w z ≡ no_winner → ⊥
    winner-some q = let z : ◌≡◌ {A = ℕ} 0 1 = cc in omega arith

-- A leaf that was empty or never ready, and still is, changes no winner and wins nothing. Its
-- replay ends at the first level.
pub replayed-one : (x : ℕ) (ss : List Entry) (y : Entry) → length ss ≡ capacity → x < length ss → leaf_winner x (get_or ss x free) ≡ no_winner → leaf_winner x y ≡ no_winner
    → replayed x ss (set ss x y) ≡ 1
unfolding replayed replayed_from ends above
replayed-one x ss y z l e f =
    let p = (capacity + x) / 2 in
    let s = above-stands x (omega arith) (levels - 1) 1 refl in
    let n = won-none ss x 1 p e (winner_at ss 1 p) (winner-entry ss 1 p s) in
    replayed-same x ss y l (f ∙ sym e) ∙ rw (eq-eqb (winner_word (winner_at ss 1 p)) (winner_word (winner_at ss 1 p)) refl, ne_eqb (winner_word (winner_at ss 1 p)) (x + 1) n)

-- where a leaf has won a match, its own lead was in it
one_of : (a b : MatchWinner) (w : ℕ) → winner_word (first a b) ≡ w → winner_word b ≢ w → winner_word a ≡ w
unfolding first winner_word
one_of no_winner b w e n = absurd (n e)
one_of (won_by i v x) no_winner w e n = e
one_of (won_by i v x) (won_by j u y) w e n = go (is_ahead i v j u) e
  where
    go : (t : Bool) → winner_word (cond t (won_by i v x) (won_by j u y)) ≡ w → x + 1 ≡ w
    go true e = e
    go false e = absurd (n e)

pub not-below : (ss : List Entry) (x d p : ℕ) (a : MatchWinner) → OnMatchWinner (Comes ss d p) a → above d (capacity + x) ≢ p → winner_word a ≢ x + 1
unfolding winner_word
not-below ss x d p no_winner c n e = omega (arith, e)
not-below ss x d p (won_by i v y) c n e = let z : y ≡ x = omega (arith, e) in n (sym (ap (λ (m : ℕ). above d (capacity + m)) z) ∙ c.below)

-- whether leaf x wins the match so many levels above it
abbrev pub WonAt : (ss : List Entry) (x level : ℕ) → Type 0
WonAt ss x d = winner_word (winner_at ss d (above d (capacity + x))) ≡ x + 1

module _ (x : ℕ) (l : x < capacity) (ss : List Entry) (u : NamesUnique ss) where
  -- the leaf leads the match below
  won-below : (h d : ℕ) → h + suc d ≡ levels → WonAt ss x (suc d) → WonAt ss x d
  unfolding above
  won-below h d e f =
      let s = above-stands x l (suc h) d (omega arith) in
      let q = above d (capacity + x) in
      one_of (winner_at ss d q) (winner_at ss d (neighbour q)) (x + 1) (sym (ap winner_word (up ss u h d q s)) ∙ f)
      (not-below ss x d (neighbour q) (winner_at ss d (neighbour q)) (winner-entry ss d (neighbour q) (aside q s)) (unlike q))

  -- and those further below
  won-all : (c d : ℕ) → d + c ≤ levels → WonAt ss x (d + c) → WonAt ss x d
  won-all zero d e f = subst (WonAt ss x) (add-zero d) f
  won-all (suc c) d e f = won-below (levels - suc d) d (omega arith) (won-all c (suc d) (omega arith) (subst (WonAt ss x) (onward d c) f))

  led_on : (a b : MatchWinner) → winner_word a ≡ x + 1 → ends x a b ≡ false
  unfolding ends
  led_on a b e = go (eqb (winner_word a) (winner_word b)) refl
    where
      go : (t : Bool) → eqb (winner_word a) (winner_word b) ≡ t → (t && not (eqb (winner_word b) (x + 1))) ≡ false
      go true f = rw (eq-eqb (winner_word b) (x + 1) (sym (eqb-true (winner_word a) (winner_word b) f) ∙ e))
      go false f = refl

  from-won : (rs : List Entry) (c d n p : ℕ) → d + n ≡ levels → c < n → p ≡ above (suc d) (capacity + x) → WonAt ss x (d + c) → c < replayed_from x ss rs (suc d) p n
  unfolding replayed_from above
  from-won rs c d zero p e m q f = absurd (omega arith)
  from-won rs zero d (suc n) p e m q f = from-least x ss rs (suc d) p n
  from-won rs (suc c) d (suc n) p e m q f =
      let g = subst (WonAt ss x) (onward d c) f in
      let k = from-won rs c (suc d) n (p / 2) (omega arith) (omega arith) (ap (λ (m : ℕ). m / 2) q) g in
      rw (led_on (winner_at ss (suc d) p) (winner_at rs (suc d) p) (rw q (won-all c (suc d) (omega arith) g))) (omega (arith, k))

  -- the levels up to one at which the leaf leads are replayed, and the next one
  replayed-won : (rs : List Entry) (d : ℕ) → d < levels → WonAt ss x d → d < replayed x ss rs
  unfolding replayed above
  replayed-won rs d m f = from-won rs d 0 levels ((capacity + x) / 2) refl m refl (subst (WonAt ss x) (sym (zero-add d)) f)

  -- A leaf that leads the root leads every match above it, so that no level ends a replay.
  pub replayed-all : (rs : List Entry) → winner_word (winner_at ss levels 1) ≡ x + 1 → replayed x ss rs ≡ levels
  replayed-all rs f =
      let s : above levels (capacity + x) ≡ 1 = stands-root (above-stands x l 0 levels refl) in
      let w : WonAt ss x levels = ap (λ (p : ℕ). winner_word (winner_at ss levels p)) s ∙ f in
      omega (arith, replayed-most x ss rs, replayed-won rs (levels - 1) (omega arith) (won-below 0 (levels - 1) refl w))
