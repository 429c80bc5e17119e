-- The winner of all matches is the winner of the scan.
use Rattle.std.specs.Prelude.{Some, None}
use Prim.Native.Nat.{ℕ, zero, suc, ◌+◌, ◌-◌, ◌*◌, ◌^◌}
use mathlib.Core.Path.{◌≡◌, refl, sym, ap, ap₂, ◌∙◌}
use mathlib.Core.Bool.{Bool, true, false, cond}
use mathlib.Core.List.{List, [], ◌∷◌}
use native.Mathlib.Nat.{two-pow-succ, add-zero, add-suc, suc-add, zero-add, mul_assoc, mul-add, add-mul}
use native.Mathlib.Omega.{arith}
use lib.Dec.{leb}
use lib.ListN.{length, get_or}
use borrow.Author.Tests.{leb-true, leb-false}
use Rattle.connection.specs.Ready.{ready_instant}
use Rattle.connection.specs.Parts.{Instant}
use Rattle.model.specs.State.{Entry, free, taken, capacity}
use Rattle.model.specs.Winner.{Winner, none_ready, wins, candidate_from, candidate, is_ahead, better, winner, Ahead}
use Rattle.model.specs.Tournament.{levels, MatchWinner, no_winner, won_by, instant_winner, leaf_winner, first, winner_at, in_time}
use Rattle.model.proofs.Winners.{ahead-trans, ahead-yes, ahead-no, ahead-anti, ahead-instant}

none-better : (a : Winner) → better a none_ready ≡ a
unfolding better
none-better none_ready = refl
none-better (wins i v) = refl

one-winner : {i v j w : ℕ} → Ahead i v j w → Ahead j w i v → wins i v ≡ wins j w
one-winner {i} {v} {j} {w} a b = let p : i ≡ j = omega (arith, ahead-instant a, ahead-instant b) in let q : v ≡ w = ahead-anti a b in cc

better-assoc : (a b c : Winner) → better a (better b c) ≡ better (better a b) c
unfolding better
better-assoc none_ready b c = refl
better-assoc (wins i v) none_ready c = refl
better-assoc (wins i v) (wins j w) none_ready = sym (none-better (better (wins i v) (wins j w)))
better-assoc (wins i v) (wins j w) (wins k u) = go (is_ahead i v j w) (is_ahead j w k u) (is_ahead i v k u) refl refl refl
  where
    go : (p q r : Bool) → is_ahead i v j w ≡ p → is_ahead j w k u ≡ q → is_ahead i v k u ≡ r
        → better (wins i v) (cond q (wins j w) (wins k u)) ≡ better (cond p (wins i v) (wins j w)) (wins k u)
    go true true true e f g = rw (e, g)
    go true true false e f g = rw (e, g) (one-winner (ahead-trans (ahead-yes i v j w e) (ahead-yes j w k u f)) (ahead-no i v k u g))
    go true false r e f g = refl
    go false true r e f g = rw (e, f)
    go false false true e f g = rw (f, g) (one-winner (ahead-yes i v k u g) (ahead-trans (ahead-no j w k u f) (ahead-no i v j w e)))
    go false false false e f g = rw (f, g)

time-first : (t : ℕ) (a b : MatchWinner) → in_time t (first a b) ≡ better (in_time t a) (in_time t b)
unfolding in_time first better candidate_from
time-first t no_winner b = refl
time-first t (won_by i v x) no_winner = sym (none-better (in_time t (won_by i v x)))
time-first t (won_by i v x) (won_by j w y) = go (is_ahead i v j w) (leb i t) (leb j t) refl refl refl
  where
    go : (p q r : Bool) → is_ahead i v j w ≡ p → leb i t ≡ q → leb j t ≡ r
        → in_time t (cond p (won_by i v x) (won_by j w y)) ≡ better (cond q (wins i v) none_ready) (cond r (wins j w) none_ready)
    go true true true e f g = rw (e, f)
    go true true false e f g = rw f
    go true false true e f g = absurd (omega (arith, ahead-instant (ahead-yes i v j w e), leb-false i t f, leb-true j t g))
    go true false false e f g = rw f
    go false true true e f g = rw (e, g)
    go false true false e f g = absurd (omega (arith, ahead-instant (ahead-no i v j w e), leb-true i t f, leb-false j t g))
    go false false true e f g = rw g
    go false false false e f g = rw g

time-leaf : (t x : ℕ) (e : Entry) → in_time t (leaf_winner x e) ≡ candidate t e
unfolding in_time instant_winner leaf_winner candidate_from candidate
time-leaf t x free = refl
time-leaf t x (taken c) = go (ready_instant c)
  where
    go : (r : Instant) → in_time t (instant_winner c.name x r) ≡ candidate_from t c.name r
    go None = refl
    go (Some i) = refl

-- the winner of n entries from k on
unfoldable scan : (t : ℕ) → List Entry → (k n : ℕ) → Winner
scan t ss k zero = none_ready
scan t ss k (suc n) = better (candidate t (get_or ss k free)) (scan t ss (suc k) n)

scan-add : (t : ℕ) (ss : List Entry) (k m n : ℕ) → scan t ss k (m + n) ≡ better (scan t ss k m) (scan t ss (k + m) n)
unfolding scan better
scan-add t ss k zero n = rw (add-zero k, zero-add n)
scan-add t ss k (suc m) n =
    rw (suc-add m n)
    (ap (better (candidate t (get_or ss k free))) (scan-add t ss (suc k) m n ∙ ap (λ (j : ℕ). better (scan t ss (suc k) m) (scan t ss j n)) (suc-add k m ∙ sym (add-suc k m)))
    ∙ better-assoc (candidate t (get_or ss k free)) (scan t ss (suc k) m) (scan t ss (k + suc m) n))

scan-tail : (t : ℕ) (s : Entry) (ss : List Entry) (k n : ℕ) → scan t (s ∷ ss) (suc k) n ≡ scan t ss k n
unfolding scan
scan-tail t s ss k zero = refl
scan-tail t s ss k (suc n) = ap (better (candidate t (get_or ss k free))) (scan-tail t s ss (suc k) n)

scan-all : (t : ℕ) (ss : List Entry) → winner t ss ≡ scan t ss 0 (length ss)
unfolding winner scan
scan-all t [] = refl
scan-all t (s ∷ ss) = ap (better (candidate t s)) (scan-all t ss ∙ sym (scan-tail t s ss 0 (length ss)))

-- a match of d levels is a scan of the leaves below it; the first leaf is k
match-scan : (t : ℕ) (ss : List Entry) (d p k : ℕ) → p * 2 ^ d ≡ capacity + k → in_time t (winner_at ss d p) ≡ scan t ss k (2 ^ d)
unfolding winner_at scan
match-scan t ss zero p k e =
    let z : p - capacity ≡ k = omega (arith, e) in
    rw z (time-leaf t k (get_or ss k free) ∙ sym (none-better (candidate t (get_or ss k free))))
match-scan t ss (suc d) p k e =
    time-first t (winner_at ss d (2 * p)) (winner_at ss d (2 * p + 1))
    ∙ ap₂ better (match-scan t ss d (2 * p) k left) (match-scan t ss d (2 * p + 1) (k + 2 ^ d) right)
    ∙ sym (scan-add t ss k (2 ^ d) (2 ^ d)) ∙ sym (ap (scan t ss k) (two-pow-succ d))
  where
    doubled : p * 2 ^ suc d ≡ 2 * (p * 2 ^ d)
    doubled = omega (arith, ap (λ (n : ℕ). p * n) (two-pow-succ d), mul-add p (2 ^ d) (2 ^ d))

    left : 2 * p * 2 ^ d ≡ capacity + k
    left = omega (arith, e, doubled, mul_assoc 2 p (2 ^ d))

    right : (2 * p + 1) * 2 ^ d ≡ capacity + (k + 2 ^ d)
    right = omega (arith, left, add-mul (2 * p) 1 (2 ^ d))

pub root-winner : (t : ℕ) (ss : List Entry) → length ss ≡ capacity → winner t ss ≡ in_time t (winner_at ss levels 1)
root-winner t ss l = scan-all t ss ∙ ap (scan t ss 0) l ∙ sym (match-scan t ss levels 1 0 refl)
