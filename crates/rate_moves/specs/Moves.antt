-- The rate record and the four moves of the allowed rate. (Document 01, "Four moves of the
-- allowed rate"; document 02, L14.)
use Rattle.std.specs.Prelude.{ℕ, ◌+◌, ◌-◌, ◌*◌, ◌/◌, ◌^◌, min, max, Bool, true, false, cond, ◌&&◌, not, leb, ltb, eqb}
use Rattle.rate_params.specs.declared.params.Params.{Params}
use Rattle.rate_params.specs.Params.{peak, least, initial_used, crm, adtf_time}
pub use Rattle.rate_moves.specs.declared.moves.Rate.{Rate}

-- the same parameters at another allowed rate: all that a move does
abbrev pub moved : Rate → ℕ → Rate
moved q a = record { acr = a; params = q.params }

-- the record of a connection as it is opened
abbrev pub opened : Params → Rate
opened p = record { acr = initial_used p; params = p }

-- First cell.
unfoldable pub first_cell : Rate → Rate
first_cell q = moved q (min q.acr (initial_used q.params))

-- Idle: before a later forward cell, this long after the last one.
unfoldable pub idle : ℕ → Rate → Rate
idle passed q = moved q (cond (ltb (adtf_time q.params) passed) (min q.acr (initial_used q.params)) q.acr)

-- x less its part 1/2^k, rounded down
unfoldable pub reduced_by : ℕ → ℕ → ℕ
reduced_by k x = x * (2 ^ k - 1) / 2 ^ k

-- Unanswered: with y forward cells unanswered. c = 7 says that CDF is zero.
unfoldable pub unanswered : ℕ → Rate → Rate
unanswered y q =
    moved q
    (cond (leb (crm q.params) y && not (eqb q.params.c 7)) (max (least q.params) (reduced_by q.params.c q.acr)) q.acr)

-- what a backward cell's CI and NI make of the rate, before ER and the minimum
unfoldable pub rate_by_marks : Bool → Bool → Rate → ℕ
rate_by_marks true ni q = reduced_by q.params.d q.acr
rate_by_marks false true q = q.acr
rate_by_marks false false q = min (peak q.params) (q.acr + peak q.params / 2 ^ q.params.r)

-- Feedback: a backward cell's CI, NI and ER, ER as a rate.
unfoldable pub feedback : Bool → Bool → ℕ → Rate → Rate
feedback ci ni er q = moved q (max (least q.params) (min (rate_by_marks ci ni q) er))

-- how congested a backward cell's marks say the path is; CI outweighs NI
unfoldable pub mark_level : Bool → Bool → ℕ
mark_level true ni = 2
mark_level false true = 1
mark_level false false = 0
