-- The largest rate and the latest time. (Document 01, "Units and the 16-bit rate code".)
-- A rate is a number of units of 1/512 cell per second, a time a number of nanoseconds.
use Rattle.std.specs.Prelude.{ℕ}

abbrev pub largest_rate : ℕ
largest_rate = 2_196_875_771_904

-- 2^62
abbrev pub latest_time : ℕ
latest_time = 4_611_686_018_427_387_904
