-- The ready instant of a connection and the kind of its next cell, from what a caller keeps of it, its contract
-- and the rate that abr_acr returns. (Document 01, "Slots"; document 02, L1 and L5.)
use Rattle.std.specs.Prelude.{ℕ, ◌+◌, ◌-◌, max, Bool, cond, ◌&&◌, ◌||◌, not, leb, ltb, eqb, Some, None}
use Rattle.std.proofs.Math.Option.{Option, none, some}
use Rattle.rate.specs.Gap.{gap}
use Rattle.rate_params.specs.declared.params.Params.{Params}
use Rattle.rate_params.specs.Params.{nrm, trm_time}
use Rattle.connection.specs.declared.parts.Pace.{Pace}
use Rattle.connection.specs.declared.parts.Pace.TheVariants.{Unsent, Running}
use Rattle.connection.specs.Parts.{Instant}
use Rattle.exports_rates.specs.Seen.{Seen}

-- a turned or made cell waits; anything does
abbrev pub backward_seen : Seen → Bool
backward_seen k = k.turned || k.made

abbrev pub waits_seen : Seen → Bool
waits_seen k = ltb 0 k.waiting || backward_seen k

-- Before the first cell: its opening time, if anything waits. Afterwards: due, if anything waits or k = Nrm − 1;
-- else, if k ≥ 2, due but not before Trm after the last forward cell. Else never.
abbrev pub ready_from_seen : Params → (acr : ℕ) → Seen → Pace → Instant
ready_from_seen p a k Unsent = cond (waits_seen k) (Some k.opened) None
ready_from_seen p a k (Running sent forward n turned) =
    cond (waits_seen k || eqb n (nrm p - 1)) (Some (sent + gap a)) (cond (leb 2 n) (Some (max (sent + gap a) (forward + trm_time p.trm))) None)

-- at a rate of 0 never (L5)
abbrev pub ready_seen : Params → (acr : ℕ) → Seen → Instant
ready_seen p a k = cond (eqb a 0) None (ready_from_seen p a k k.pace)

-- of a name that may be closed
abbrev pub ready_under : Option Params → (acr : ℕ) → Seen → Instant
ready_under none a k = None
ready_under (some p) a k = ready_seen p a k

-- 1, forward, if none was sent yet, or k = Nrm − 1, or k ≥ 2 and Trm has passed since the last. Else 2, turned or
-- made, if one waits and either none went since the last forward cell or no data waits. Else 3, data.
abbrev pub kind_from_seen : Params → (t : ℕ) → Seen → Pace → ℕ
kind_from_seen p t k Unsent = 1
kind_from_seen p t k (Running sent forward n turned) =
    cond (eqb n (nrm p - 1) || (leb 2 n && leb (forward + trm_time p.trm) t)) 1 (cond (backward_seen k && (not turned || eqb k.waiting 0)) 2 3)

abbrev pub kind_seen : Params → (t : ℕ) → Seen → ℕ
kind_seen p t k = kind_from_seen p t k k.pace
