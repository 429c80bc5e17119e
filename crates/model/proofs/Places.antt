-- The places of the tournament: where they stand, which entry leads at a place, and what
-- stays when one leaf changes.
use Rattle.std.specs.Prelude.{Some, None}
use Prim.Native.Nat.{ℕ, zero, suc, ◌+◌, ◌-◌, ◌*◌, ◌/◌, ◌%◌, ◌^◌, ◌≤◌, ◌<◌}
use mathlib.Core.Path.{◌≡◌, refl, sym, ap, ap₂, subst, ◌∙◌}
use mathlib.Core.Logic.{◌≢◌}
use mathlib.Core.Bool.{Bool, true, false, cond}
use mathlib.Core.List.{List}
use native.Mathlib.Nat.{two-pow-succ}
use native.Mathlib.Numerals.{add-one}
use native.Mathlib.Omega.{arith}
use lib.Dec.{eqb}
use lib.ListN.{length, get_or, set}
use lib.Seq.{get_or-set_same, get_or-set_other}
use borrow.Author.Tests.{eqb-true, eqb-false}
use Rattle.connection.specs.declared.parts.Connection.{Connection}
use Rattle.connection.specs.Ready.{ready_instant}
use Rattle.connection.specs.Parts.{Instant}
use Rattle.model.specs.State.{Entry, free, taken, position, holds, capacity}
use Rattle.model.specs.Invariant.{NamesUnique}
use Rattle.model.specs.Winner.{is_ahead}
use Rattle.model.specs.Tournament.{levels, MatchWinner, no_winner, won_by, instant_winner, leaf_winner, first, neighbour, winner_at, winner_word}
use Rattle.model.proofs.Entries.{entry_place, Case, same, other, case}
use Rattle.model.proofs.Winners.{ahead-yes, ahead-no, ahead-anti}

-- ---- places

-- the place that stands so many levels above a place
unfoldable pub above : (levels place : ℕ) → ℕ
above zero q = q
above (suc d) q = above d q / 2

-- a level more, as a loop counts them
pub above-next : (n q place : ℕ) → place ≡ above n q → place / 2 ≡ above (n + 1) q
unfolding above
above-next n q place e = ap (λ (m : ℕ). m / 2) e ∙ sym (ap (λ (k : ℕ). above k q) (add-one n))

pub above-none : (q : ℕ) → q ≡ above 0 q
unfolding above
above-none q = refl

-- Place p stands d levels above the leaves, and so h levels below the root.
pub record Stands (h d p : ℕ) : Type 0 where
  pub height : h + d ≡ levels
  pub least : 2 ^ h ≤ p
  pub most : p < 2 * 2 ^ h

pub lower : {h d p : ℕ} (q : ℕ) → Stands h (suc d) p → q / 2 ≡ p → Stands (suc h) d q
lower {h} q s e = record { height = omega (arith, s.height); least = omega (arith, s.least, two-pow-succ h); most = omega (arith, s.most, two-pow-succ h) }

pub upper : {h d : ℕ} (q : ℕ) → Stands (suc h) d q → Stands h (suc d) (q / 2)
upper {h} q s = record { height = omega (arith, s.height); least = omega (arith, s.least, two-pow-succ h); most = omega (arith, s.most, two-pow-succ h) }

pub aside : {h d : ℕ} (q : ℕ) → Stands (suc h) d q → Stands (suc h) d (neighbour q)
aside {h} q s = record { height = s.height; least = omega (arith, s.least, two-pow-succ h); most = omega (arith, s.most, two-pow-succ h) }

pub leaf-stands : (x : ℕ) → x < capacity → Stands levels 0 (capacity + x)
leaf-stands x l = record { height = refl; least = omega arith; most = omega arith }

-- the places above a leaf
pub above-stands : (x : ℕ) → x < capacity → (h d : ℕ) → h + d ≡ levels → Stands h d (above d (capacity + x))
unfolding above
above-stands x l h zero e = let z : h ≡ levels = omega arith in rw z (leaf-stands x l)
above-stands x l h (suc d) e = upper (above d (capacity + x)) (above-stands x l (suc h) d (omega arith))

pub root_stands : Stands 0 levels 1
root_stands = record { height = refl; least = omega arith; most = omega arith }

pub stands-root : {h p : ℕ} → Stands h levels p → p ≡ 1
stands-root {h} s = let z : h ≡ 0 = omega (arith, s.height) in let a = s.least in let b = s.most in let c : 2 ^ h ≡ 1 = ap (λ (n : ℕ). 2 ^ n) z in omega arith

-- ---- where a lead comes from

abbrev pub OnMatchWinner : (ℕ → ℕ → ℕ → Type 0) → MatchWinner → Type 0
OnMatchWinner P no_winner = Unit
OnMatchWinner P (won_by i v x) = P i v x

pub on-first : (P : ℕ → ℕ → ℕ → Type 0) (a b : MatchWinner) → OnMatchWinner P a → OnMatchWinner P b → OnMatchWinner P (first a b)
unfolding first
on-first P no_winner b p q = q
on-first P (won_by i v x) no_winner p q = p
on-first P (won_by i v x) (won_by j w y) p q = go (is_ahead i v j w)
  where
    go : (t : Bool) → OnMatchWinner P (cond t (won_by i v x) (won_by j w y))
    go true = p
    go false = q

pub on-map : (P Q : ℕ → ℕ → ℕ → Type 0) → ((i v x : ℕ) → P i v x → Q i v x) → (a : MatchWinner) → OnMatchWinner P a → OnMatchWinner Q a
on-map P Q f no_winner h = tt
on-map P Q f (won_by i v x) h = f i v x h

-- the lead of instant i, name v and leaf x at a place: that of the connection in entry x, which stands below it
pub record Comes (ss : List Entry) (d p i v x : ℕ) : Type 0 where
  pub holder : Connection
  pub here : get_or ss x free ≡ taken holder
  pub ready_at : ready_instant holder ≡ Some i
  pub named : holder.name ≡ v
  pub below : above d (capacity + x) ≡ p
  pub inside : x < capacity

leaf-entry : (ss : List Entry) (p x : ℕ) → capacity + x ≡ p → x < capacity → (e : Entry) → get_or ss x free ≡ e → OnMatchWinner (Comes ss 0 p) (leaf_winner x e)
unfolding leaf_winner instant_winner above
leaf-entry ss p x q l free e = tt
leaf-entry ss p x q l (taken c) e = go (ready_instant c) refl
  where
    go : (r : Instant) → ready_instant c ≡ r → OnMatchWinner (Comes ss 0 p) (instant_winner c.name x r)
    go None z = tt
    go (Some i) z = record { holder = c; here = e; ready_at = z; named = refl; below = q; inside = l }

comes-up : (ss : List Entry) (d q p : ℕ) → q / 2 ≡ p → (i v x : ℕ) → Comes ss d q i v x → Comes ss (suc d) p i v x
unfolding above
comes-up ss d q p e i v x c = record {
  holder = c.holder;
  here = c.here;
  ready_at = c.ready_at;
  named = c.named;
  below = ap (λ (n : ℕ). n / 2) c.below ∙ e;
  inside = c.inside;
}

pub even : (p : ℕ) → 2 * p / 2 ≡ p
even p = omega arith

odd : (p : ℕ) → (2 * p + 1) / 2 ≡ p
odd p = omega arith

pub winner-entry : (ss : List Entry) {h : ℕ} (d p : ℕ) → Stands h d p → OnMatchWinner (Comes ss d p) (winner_at ss d p)
unfolding winner_at
winner-entry ss {h} zero p s =
    let z : h ≡ levels = omega (arith, s.height) in
    let e : 2 ^ h ≡ capacity = ap (λ (n : ℕ). 2 ^ n) z in
    leaf-entry ss p (p - capacity) (omega (arith, s.least)) (omega (arith, s.least, s.most)) (get_or ss (p - capacity) free) refl
winner-entry ss (suc d) p s =
    on-first (Comes ss (suc d) p) (winner_at ss d (2 * p)) (winner_at ss d (2 * p + 1))
    (on-map _ _ (comes-up ss d (2 * p) p (even p)) (winner_at ss d (2 * p)) (winner-entry ss d (2 * p) (lower (2 * p) s (even p))))
    (on-map _ _ (comes-up ss d (2 * p + 1) p (odd p)) (winner_at ss d (2 * p + 1)) (winner-entry ss d (2 * p + 1) (lower (2 * p + 1) s (odd p))))

-- two leads of one name are of one entry
one_entry : (ss : List Entry) → NamesUnique ss → {d e p q i j v w x y : ℕ} → Comes ss d p i v x → Comes ss e q j w y → v ≡ w → x ≡ y
one_entry ss u {x} {y} a b n =
    sym (entry_place ss u x a.holder a.here) ∙ ap (λ (m : ℕ). position (holds m) ss) (a.named ∙ n ∙ sym b.named) ∙ entry_place ss u y b.holder b.here

-- ---- a match has no order, where names differ

abbrev Apart : MatchWinner → MatchWinner → Type 0
Apart a b = OnMatchWinner (λ i v x. OnMatchWinner (λ j w y. v ≢ w) b) a

first-comm : (a b : MatchWinner) → Apart a b → first a b ≡ first b a
unfolding first
first-comm no_winner no_winner n = refl
first-comm no_winner (won_by j w y) n = refl
first-comm (won_by i v x) no_winner n = refl
first-comm (won_by i v x) (won_by j w y) n = go (is_ahead i v j w) (is_ahead j w i v) refl refl
  where
    go : (s t : Bool) → is_ahead i v j w ≡ s → is_ahead j w i v ≡ t → cond s (won_by i v x) (won_by j w y) ≡ cond t (won_by j w y) (won_by i v x)
    go true true p q = absurd (n (ahead-anti (ahead-yes i v j w p) (ahead-yes j w i v q)))
    go true false p q = refl
    go false true p q = refl
    go false false p q = absurd (n (ahead-anti (ahead-no j w i v q) (ahead-no i v j w p)))

pub unlike : (q : ℕ) → q ≢ neighbour q
unlike q e = omega arith

apart : (ss : List Entry) → NamesUnique ss → (d p q : ℕ) → p ≢ q → (a b : MatchWinner) → OnMatchWinner (Comes ss d p) a → OnMatchWinner (Comes ss d q) b → Apart a b
apart ss u d p q n no_winner b s t = tt
apart ss u d p q n (won_by i v x) no_winner s t = tt
apart ss u d p q n (won_by i v x) (won_by j w y) s t = λ e. n (sym s.below ∙ ap (λ (m : ℕ). above d (capacity + m)) (one_entry ss u s t e) ∙ t.below)

-- the match of a place, with the place first
pub up : (ss : List Entry) → NamesUnique ss → (h d q : ℕ) → Stands (suc h) d q → winner_at ss (suc d) (q / 2) ≡ first (winner_at ss d q) (winner_at ss d (neighbour q))
unfolding winner_at
up ss u h d q s = go (eqb (q % 2) 0) refl
  where
    go : (b : Bool) → eqb (q % 2) 0 ≡ b → first (winner_at ss d (2 * (q / 2))) (winner_at ss d (2 * (q / 2) + 1)) ≡ first (winner_at ss d q) (winner_at ss d (neighbour q))
    go true e =
        let z = eqb-true (q % 2) 0 e in
        ap₂ (λ (m n : ℕ). first (winner_at ss d m) (winner_at ss d n)) {x = 2 * (q / 2)} {y = q} {u = 2 * (q / 2) + 1} {v = neighbour q} (omega arith) (omega arith)
    go false e =
        let z = eqb-false (q % 2) 0 e in
        ap₂ (λ (m n : ℕ). first (winner_at ss d m) (winner_at ss d n)) {x = 2 * (q / 2)} {y = neighbour q} {u = 2 * (q / 2) + 1} {v = q} (omega (arith, z)) (omega (arith, z))
        ∙ sym (first-comm (winner_at ss d q) (winner_at ss d (neighbour q)) (apart ss u d q (neighbour q) (unlike q) (winner_at ss d q) (winner_at ss d (neighbour q)) (winner-entry ss d q s) (winner-entry ss d (neighbour q) (aside q s))))

-- ---- one leaf changes

-- the winners of a level are the same
abbrev pub Unchanged : (ss rs : List Entry) (d : ℕ) → Type 0
Unchanged ss rs d = (h p : ℕ) → Stands h d p → winner_at rs d p ≡ winner_at ss d p

unchanged-up : (ss rs : List Entry) (d : ℕ) → Unchanged ss rs d → Unchanged ss rs (suc d)
unfolding winner_at
unchanged-up ss rs d u h p s = ap₂ first (u (suc h) (2 * p) (lower (2 * p) s (even p))) (u (suc h) (2 * p + 1) (lower (2 * p + 1) s (odd p)))

-- and so are those of all levels above
pub unchanged-above : (ss rs : List Entry) (d e : ℕ) → d ≤ e → Unchanged ss rs d → Unchanged ss rs e
unchanged-above ss rs d zero l u = let z : d ≡ 0 = omega arith in subst (Unchanged ss rs) z u
unchanged-above ss rs d (suc e) l u = go (λ m. unchanged-above ss rs d e m u) (case d (suc e))
  where
    go : (d ≤ e → Unchanged ss rs e) → Case d (suc e) → Unchanged ss rs (suc e)
    go k (same z) = subst (Unchanged ss rs) z u
    go k (other z) = unchanged-up ss rs e (k (omega (arith, z)))

module _ (ss : List Entry) (x : ℕ) (y : Entry) where
  -- the winner at a place that the leaf is not below
  pub off-path : {h : ℕ} (d p : ℕ) → Stands h d p → above d (capacity + x) ≢ p → winner_at (set ss x y) d p ≡ winner_at ss d p
  unfolding winner_at above
  off-path {h} zero p s n =
      let z : h ≡ levels = omega (arith, s.height) in
      let e : 2 ^ h ≡ capacity = ap (λ (n : ℕ). 2 ^ n) z in
      ap (leaf_winner (p - capacity)) (get_or-set_other ss x (p - capacity) y free (λ z. n (omega (arith, s.least))))
  off-path (suc d) p s n =
      ap₂ first (off-path d (2 * p) (lower (2 * p) s (even p)) (λ z. n (ap (λ (m : ℕ). m / 2) z ∙ even p)))
      (off-path d (2 * p + 1) (lower (2 * p + 1) s (odd p)) (λ z. n (ap (λ (m : ℕ). m / 2) z ∙ odd p)))

  -- where the winner above the leaf, at q, is as before, all of its level are
  pub path-unchanged : (d q : ℕ) → above d (capacity + x) ≡ q → winner_at (set ss x y) d q ≡ winner_at ss d q → Unchanged ss (set ss x y) d
  path-unchanged d q a e h p s = go (case q p)
    where
      go : Case q p → winner_at (set ss x y) d p ≡ winner_at ss d p
      go (same z) = subst (λ (m : ℕ). winner_at (set ss x y) d m ≡ winner_at ss d m) z e
      go (other z) = off-path d p s (λ f. z (sym a ∙ f))

  -- Two leads of one leaf, of the entries before and now, are one lead, if it is not the leaf that changed.
  one-winner : (d p : ℕ) (a b : MatchWinner) → OnMatchWinner (Comes ss d p) a → OnMatchWinner (Comes (set ss x y) d p) b → winner_word a ≡ winner_word b → winner_word b ≢ x + 1 → b ≡ a
  unfolding winner_word
  one-winner d p no_winner no_winner s t e n = refl
  one-winner d p no_winner (won_by j w z) s t e n = absurd (omega (arith, e))
  one-winner d p (won_by i v u) no_winner s t e n = absurd (omega (arith, e))
  one-winner d p (won_by i v u) (won_by j w z) s t e n = whole (some_same j i (sym t.ready_at ∙ ap ready_instant one ∙ s.ready_at)) (sym t.named ∙ ap (λ (c : Connection). c.name) one ∙ s.named) (omega (arith, e))
    where
      some_same : (i j : ℕ) → Some i ≡ Some j → i ≡ j
      some_same i j e = cc

      whole : {i j v w x y : ℕ} → i ≡ j → v ≡ w → x ≡ y → won_by i v x ≡ won_by j w y
      whole p q r = rw (p, q, r)

      taken-same : (c d : Connection) → taken c ≡ taken d → c ≡ d
      taken-same c d e = cc

      leaf : u ≡ z
      leaf = omega (arith, e)

      one : t.holder ≡ s.holder
      one = taken-same t.holder s.holder (sym t.here ∙ get_or-set_other ss x z y free (λ q. n (omega arith)) ∙ ap (λ (m : ℕ). get_or ss m free) (sym leaf) ∙ s.here)

  -- Where a replay may end: the winner's leaf, or the lack of one, is as before and is not the leaf that changed.
  pub ended : {h : ℕ} (d p : ℕ) → Stands h d p → winner_word (winner_at ss d p) ≡ winner_word (winner_at (set ss x y) d p) → winner_word (winner_at (set ss x y) d p) ≢ x + 1
      → winner_at (set ss x y) d p ≡ winner_at ss d p
  ended d p s = one-winner d p (winner_at ss d p) (winner_at (set ss x y) d p) (winner-entry ss d p s) (winner-entry (set ss x y) d p s)

  -- a leaf that leads as before
  pub same-leaf : leaf_winner x y ≡ leaf_winner x (get_or ss x free) → x < length ss → (d p : ℕ) → winner_at (set ss x y) d p ≡ winner_at ss d p
  unfolding winner_at
  same-leaf e l zero p = go (case (p - capacity) x)
    where
      go : Case (p - capacity) x → leaf_winner (p - capacity) (get_or (set ss x y) (p - capacity) free) ≡ leaf_winner (p - capacity) (get_or ss (p - capacity) free)
      go (same z) = rw (z, get_or-set_same ss x y free l) e
      go (other z) = ap (leaf_winner (p - capacity)) (get_or-set_other ss x (p - capacity) y free z)
  same-leaf e l (suc d) p = ap₂ first (same-leaf e l d (2 * p)) (same-leaf e l d (2 * p + 1))
