-- The moves of a forward cell leave the rate at most the initial rate used.
use Prim.Native.Nat.{ℕ, ◌-◌, ◌≤◌}
use mathlib.Core.Path.{◌≡◌}
use mathlib.Core.Bool.{◌&&◌, not}
use native.Mathlib.Omega.{arith}
use lib.Dec.{leb, ltb, eqb}
use Rattle.rate_params.specs.Params.{initial_used, crm, adtf_time}
use Rattle.rate_moves.specs.declared.moves.Rate.{Rate}
use Rattle.rate_moves.specs.Moves.{first_cell, idle, unanswered}
use Rattle.rate_moves.specs.Bounds.{RateInBounds}
use Rattle.rate_moves.proofs.Cuts.{cut-le}
use Rattle.rate_moves.proofs.FourMoves.{cond-all, idle-in-bounds}
use Rattle.connection.specs.declared.parts.Connection.{Connection}
use Rattle.model.specs.Answers.{Answer}
use Rattle.model.specs.State.{State, taken, find}
use Rattle.model.specs.Invariant.{WellFormed}
use Rattle.model.specs.Call.{Call}
use Rattle.model.specs.Step.{step}
use Rattle.model.proofs.Preserved.{valid-at}
use Rattle.model.proofs.Reached.{reached-well-formed}
use Rattle.promise_lists.specs.Moves.{Moves, stays, first, later, fed}
use Rattle.promise_lists.proofs.Moves.{moves-at}
use Rattle.promise_cells.specs.Changes.{NotFedBack}
use Rattle.promise_cells.specs.BeforeFeedback.{BeforeFeedback}

abbrev pub Unraised : Rate → Type 0
Unraised q = q.acr ≤ initial_used q.params

first-unraised : (q : Rate) → Unraised (first_cell q)
unfolding first_cell
first-unraised q = omega arith

idle-unraised : (t : ℕ) (q : Rate) → Unraised q → Unraised (idle t q)
unfolding idle
idle-unraised t q h = cond-all (λ (a : ℕ). a ≤ initial_used q.params) (ltb (adtf_time q.params) t) (omega arith) h

unanswered-unraised : (y : ℕ) (q : Rate) → RateInBounds q → Unraised q → Unraised (unanswered y q)
unfolding unanswered
unanswered-unraised y q b h =
    cond-all (λ (a : ℕ). a ≤ initial_used q.params) (leb (crm q.params) y && not (eqb q.params.c 7)) (omega (arith, b.low, cut-le q.params.c q.acr)) h

moves-unraised : {v : ℕ} {d : Connection} {c : Call} {a : Answer} {q : Rate} → Moves v d c a q → NotFedBack v c → RateInBounds d.rate → Unraised d.rate → Unraised q
moves-unraised stays other b h = h
moves-unraised {d = d} (first e) other b h = first-unraised d.rate
moves-unraised {d = d} (later {t} {room} {acr} {n} {sent} {forward} e) other b h =
    unanswered-unraised d.unanswered (idle (t - forward) d.rate) (idle-in-bounds (t - forward) d.rate b) (idle-unraised (t - forward) d.rate h)
moves-unraised {d = d} (fed f r k i) other b h = absurd (other f r i k)

-- in any well-formed table
pub call-unraised :
    {s : State} → WellFormed s → (c : Call) (v : ℕ) (d e : Connection) → find v s.entries ≡ taken d → find v (step s c).state.entries ≡ taken e → NotFedBack v c
    → Unraised d.rate → Unraised e.rate
call-unraised {s} w c v d e p q n = moves-unraised (moves-at s w.unique c v d e p q) n (valid-at w v d p).1.rates

pub before-feedback : BeforeFeedback
before-feedback cs = call-unraised (reached-well-formed cs)
