-- The four moves of the allowed rate keep it between MCR and PCR, keep the parameters, and put no
-- lower rate above a higher one.
use mathlib.Core.Path.{◌≡◌}
use mathlib.Core.Bool.{Bool, true, false, cond, ◌&&◌, not}
use Prim.Native.Nat.{ℕ, ◌≤◌}
use native.Mathlib.Nat.{le_trans}
use native.Mathlib.Omega.{arith}
use lib.Dec.{leb, ltb, eqb}
use Rattle.rate_params.specs.declared.params.Params.{Params}
use Rattle.rate_params.specs.Params.{peak, least, crm, adtf_time, params_fit}
use Rattle.rate_moves.specs.Moves.{Rate, moved, opened, first_cell, idle, unanswered, rate_by_marks, feedback, mark_level}
use Rattle.rate_moves.specs.Bounds.{Between, RateInBounds}
use Rattle.rate_moves.proofs.Cuts.{cut-le, cut-mono}
use Rattle.rate_params.proofs.Ranges.{fits}
use Rattle.rate_params.proofs.Setup.{initial-rate}

pub cond-all : (P : ℕ → Type 0) (t : Bool) {x y : ℕ} → P x → P y → P (cond t x y)
cond-all P true p q = p
cond-all P false p q = q

cond-mono : (t : Bool) {x x' y y' : ℕ} → x ≤ x' → y ≤ y' → cond t x y ≤ cond t x' y'
cond-mono true p q = p
cond-mono false p q = q

-- another rate between the bounds
still-between : {p : Params} {x : ℕ} → Between p x → (a : ℕ) → least p ≤ a → a ≤ peak p → Between p a
still-between h a l u = record { low = h.low; high = h.high; above = l; below = u }

-- A connection as it is opened.
pub opened-in-bounds : (p : Params) → params_fit p ≡ true → RateInBounds (opened p)
opened-in-bounds p e =
    let f = fits p e in
    let u = initial-rate.between p f.low in
    let high = le_trans u.1 f.high in record { low = u.0; high = high; above = u.0; below = high }

-- First cell.
pub first_cell-in-bounds : (q : Rate) → RateInBounds q → RateInBounds (first_cell q)
unfolding first_cell
first_cell-in-bounds q h = still-between h _ (omega arith) (omega arith)

pub first_cell-mono : (q : Rate) (a : ℕ) → a ≤ q.acr → (first_cell (moved q a)).acr ≤ (first_cell q).acr
unfolding first_cell
first_cell-mono q a h = omega arith

-- Idle.
pub idle-in-bounds : (t : ℕ) (q : Rate) → RateInBounds q → RateInBounds (idle t q)
unfolding idle
idle-in-bounds t q h =
    still-between h _ (cond-all (λ a. least q.params ≤ a) (ltb (adtf_time q.params) t) (omega arith) h.above)
    (cond-all (λ a. a ≤ peak q.params) (ltb (adtf_time q.params) t) (omega arith) h.below)

pub idle-mono : (t : ℕ) (q : Rate) (a : ℕ) → a ≤ q.acr → (idle t (moved q a)).acr ≤ (idle t q).acr
unfolding idle
idle-mono t q a h = cond-mono (ltb (adtf_time q.params) t) (omega arith) h

-- Unanswered.
pub unanswered-in-bounds : (y : ℕ) (q : Rate) → RateInBounds q → RateInBounds (unanswered y q)
unfolding unanswered
unanswered-in-bounds y q h =
    let le = cut-le q.params.c q.acr in
    let t : Bool = leb (crm q.params) y && not (eqb q.params.c 7) in
    still-between h _ (cond-all (λ a. least q.params ≤ a) t (omega arith) h.above)
    (cond-all (λ a. a ≤ peak q.params) t (omega arith) h.below)

pub unanswered-mono : (y : ℕ) (q : Rate) (a : ℕ) → a ≤ q.acr → (unanswered y (moved q a)).acr ≤ (unanswered y q).acr
unfolding unanswered
unanswered-mono y q a h =
    let le = cut-mono q.params.c h in
    cond-mono (leb (crm q.params) y && not (eqb q.params.c 7)) (omega arith) h

-- Feedback: it goes down with the rate, with ER, and with the marks.
rate_by_marks-high : (ci ni : Bool) (q : Rate) → RateInBounds q → rate_by_marks ci ni q ≤ peak q.params
unfolding rate_by_marks
rate_by_marks-high true ni q h = le_trans (cut-le q.params.d q.acr) h.below
rate_by_marks-high false true q h = h.below
rate_by_marks-high false false q h = omega arith

pub feedback-in-bounds : (ci ni : Bool) (er : ℕ) (q : Rate) → RateInBounds q → RateInBounds (feedback ci ni er q)
unfolding feedback
feedback-in-bounds ci ni er q h = still-between h _ (omega arith) (omega (arith, rate_by_marks-high ci ni q h))

rate_by_marks-mono :
    (c₁ n₁ c₂ n₂ : Bool) (q : Rate) (a : ℕ) → a ≤ q.acr → q.acr ≤ peak q.params → mark_level c₁ n₁ ≤ mark_level c₂ n₂
    → rate_by_marks c₂ n₂ (moved q a) ≤ rate_by_marks c₁ n₁ q
unfolding rate_by_marks mark_level
rate_by_marks-mono true n₁ true n₂ q a h u l = cut-mono q.params.d h
rate_by_marks-mono true n₁ false true q a h u l = omega arith
rate_by_marks-mono true n₁ false false q a h u l = omega arith
rate_by_marks-mono false true true n₂ q a h u l = le_trans (cut-le q.params.d a) h
rate_by_marks-mono false false true n₂ q a h u l = omega (arith, cut-le q.params.d a)
rate_by_marks-mono false true false true q a h u l = h
rate_by_marks-mono false true false false q a h u l = omega arith
rate_by_marks-mono false false false true q a h u l = omega arith
rate_by_marks-mono false false false false q a h u l = omega arith

-- the second cell at least as congested as the first, and the rate that it meets not higher
pub feedback-mono :
    (c₁ n₁ c₂ n₂ : Bool) (e₁ e₂ : ℕ) (q : Rate) (a : ℕ) → a ≤ q.acr → q.acr ≤ peak q.params → mark_level c₁ n₁ ≤ mark_level c₂ n₂ → e₂ ≤ e₁
    → (feedback c₂ n₂ e₂ (moved q a)).acr ≤ (feedback c₁ n₁ e₁ q).acr
unfolding feedback
feedback-mono c₁ n₁ c₂ n₂ e₁ e₂ q a h u l e = omega (arith, rate_by_marks-mono c₁ n₁ c₂ n₂ q a h u l)
