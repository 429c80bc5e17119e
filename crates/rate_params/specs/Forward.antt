-- When a cell after the first is a forward one. (Document 01, "Slots"; document 02, L11, whose rule 3 is the same.)
use Rattle.std.specs.Prelude.{ℕ, ◌+◌, ◌-◌, Bool, ◌&&◌, ◌||◌, leb, eqb}

-- The last forward cell went at the instant `forward`, and k cells since. A cell at t is a forward one if
-- k = Nrm − 1, or from k = 2 on if Trm has passed since then.
abbrev pub forward_due : (nrm trm k forward t : ℕ) → Bool
forward_due nrm trm k forward t = eqb k (nrm - 1) || (leb 2 k && leb (forward + trm) t)
