-- A connection in a table that calls made lies in the ranges in which nothing wraps, and its allowed rate is a rate.
use Rattle.std.specs.Prelude.{Some, None}
use Prim.Native.Nat.{ℕ, ◌+◌, ◌^◌, ◌≤◌, max}
use mathlib.Core.Bool.{Bool, true, false, cond, ◌||◌}
use native.Mathlib.Nat.{le_trans}
use native.Mathlib.Omega.{arith}
use lib.Dec.{leb, eqb}
use lib.Pow.{pow_mono}
use Rattle.rate_moves.specs.declared.moves.Rate.{Rate}
use Rattle.rate.specs.Units.{largest_rate, latest_time}
use Rattle.rate_moves.specs.Bounds.{RateInBounds}
use Rattle.rate.specs.Gap.{gap}
use Rattle.rate.proofs.Codes.{rate-le}
use Rattle.rate.proofs.Gaps.{gap-le}
use Rattle.rate_params.proofs.Ranges.{fits, trm-le}
use Rattle.connection.specs.Parts.{Connection, Pace, Unsent, Running, Instant}
use Rattle.connection.specs.Invariant.{PaceFits, ValidAt, NotAfter}
use Rattle.connection.specs.Range.{PaceInRange, InRange, InstantInRange, InstantBelow}
use Rattle.connection.specs.Ready.{any_waits, last_before, ready_from, ready_instant}

pace-in-range : (now n : ℕ) (p : Pace) → now ≤ latest_time → n ≤ 256 → PaceFits now n p → PaceInRange p
pace-in-range now n Unsent l m h = tt
pace-in-range now n (Running sent forward k turned) l m h = (omega arith, omega arith, omega arith)

instant-in-range : (now : ℕ) (i : Instant) → now ≤ latest_time → NotAfter now i → InstantInRange i
instant-in-range now None l h = tt
instant-in-range now (Some i) l h = omega arith

pub in-range : (now : ℕ) (c : Connection) → now ≤ latest_time → ValidAt now c → InRange c
in-range now c l h = record {
  opened = omega (arith, h.0.past);
  trm = omega (arith, h.0.trm_time, trm-le c.rate.params.trm);
  pace = pace-in-range now (2 ^ c.rate.params.n) c.pace l (pow_mono (fits c.rate.params h.0.fits).n_most) h.0.paced;
  made = instant-in-range now c.destination.made.last l h.2.past;
  out_of_rate = instant-in-range now c.out_of_rate l h.3;
}

pub acr-is-rate : (q : Rate) → RateInBounds q → q.acr ≤ largest_rate
acr-is-rate q h = le_trans h.below (rate-le q.params.pcr)

-- its ready instant has room in a word
from-below : (c : Connection) → InRange c → (p : Pace) → PaceInRange p → InstantBelow (ready_from c p)
unfolding ready_from
from-below c r Unsent h = go (any_waits c)
  where
    go : (a : Bool) → InstantBelow (cond a (Some c.opened) None)
    go true = omega (arith, r.opened)
    go false = tt
from-below c r (Running sent forward k turned) h = go (any_waits c || last_before c k) (leb 2 k)
  where
    go : (a b : Bool) → InstantBelow (cond a (Some (sent + gap c.rate.acr)) (cond b (Some (max (sent + gap c.rate.acr) (forward + c.trm))) None))
    go true b = omega (arith, h.0, gap-le c.rate.acr)
    go false true = omega (arith, h.0, h.1, r.trm, gap-le c.rate.acr)
    go false false = tt

pub ready-below : (c : Connection) → InRange c → InstantBelow (ready_instant c)
unfolding ready_instant
ready-below c r = go (eqb c.rate.acr 0)
  where
    go : (a : Bool) → InstantBelow (cond a None (ready_from c c.pace))
    go true = tt
    go false = from-below c r c.pace r.pace
