-- When a connection may send: its ready instant. (Document 01, "Slots".)
use Rattle.std.specs.Prelude.{ℕ, ◌+◌, ◌-◌, max, Bool, true, false, cond, ◌||◌, leb, ltb, eqb, Some, None}
use Rattle.rate_params.specs.Params.{nrm}
use Rattle.rate.specs.Gap.{gap}
use Rattle.connection.specs.Parts.{Connection, Pace, Unsent, Running, Waiting, Destination, waiting, Instant}

unfoldable pub waits : Waiting → Bool
waits None = false
waits (Some p) = true

-- a turned or a made cell waits (document 02, L1)
unfoldable pub backward_waits : Destination → Bool
backward_waits d = waits d.turned || ltb 0 d.made.level

-- data, a turned or a made cell waits
unfoldable pub any_waits : Connection → Bool
any_waits c = ltb 0 (waiting c.queue) || backward_waits c.destination

-- k = Nrm − 1: the next cell is a forward one, whatever waits
unfoldable pub last_before : Connection → ℕ → Bool
last_before c k = eqb k (nrm c.rate.params - 1)

-- Before the first cell: the opening time if anything waits. Afterwards: due, the last send plus
-- the gap, if anything waits or k = Nrm − 1. Else, from k = 2 on: due, but not before Trm after the
-- last forward cell. Else never.
unfoldable pub ready_from : Connection → Pace → Instant
ready_from c Unsent = cond (any_waits c) (Some c.opened) None
ready_from c (Running sent forward k turned) =
    cond (any_waits c || last_before c k) (Some (sent + gap c.rate.acr))
    (cond (leb 2 k) (Some (max (sent + gap c.rate.acr) (forward + c.trm))) None)

-- an allowed rate of 0 is never ready (document 02, L5)
unfoldable pub ready_instant : Connection → Instant
ready_instant c = cond (eqb c.rate.acr 0) None (ready_from c c.pace)
