-- Traces at the edges of the rules and of the refusals, judged by computing. (Document 02, L11.)
use Rattle.std.specs.Prelude.{ℕ, suc, ◌-◌, ◌≡◌, List, [], ◌∷◌, ◌++◌, replicate, Err}
use Rattle.laws.specs.declared.refusals.Refusal.TheVariants.{TraceNumber, TraceEnd, TraceRange}
use Rattle.laws.specs.Refusals.{number}
use Rattle.rate.specs.Units.{largest_rate, latest_time}
use Rattle.trace.specs.Numbers.{written_all}
use Rattle.trace_judge.specs.Rules.{Verdict, Passes, Breaks}
use Rattle.trace_judge.specs.Octets.{judged_octets}

-- numbers in their shortest form; three more for each cell: time, kind, rate
abbrev pub verdict : List ℕ → Verdict
verdict numbers = judged_octets (written_all numbers)

-- 24: the trace is empty, or ends inside a record (n and the Trm number make the first); without a cell it passes
pub record Ends : Type 0 where
  pub is_24 : number TraceEnd ≡ 24
  pub empty : judged_octets [] ≡ Err TraceEnd
  pub n_alone : judged_octets (5 ∷ []) ≡ Err TraceEnd
  pub no_cell : judged_octets (5 ∷ 7 ∷ []) ≡ Passes
  pub no_kind : judged_octets (5 ∷ 7 ∷ 0 ∷ []) ≡ Err TraceEnd
  pub no_rate : judged_octets (5 ∷ 7 ∷ 0 ∷ 1 ∷ []) ≡ Err TraceEnd
  pub one_cell : judged_octets (5 ∷ 7 ∷ 0 ∷ 1 ∷ 1 ∷ []) ≡ Passes
  pub in_number : judged_octets (5 ∷ 7 ∷ 0 ∷ 1 ∷ 129 ∷ []) ≡ Err TraceEnd
  pub before_tenth : judged_octets (5 ∷ replicate 9 255) ≡ Err TraceEnd

-- 23: seen at the last octet, or at the tenth, whatever it says of more; and before 25
pub record Forms : Type 0 where
  pub is_23 : number TraceNumber ≡ 23
  pub long : judged_octets (133 ∷ 0 ∷ []) ≡ Err TraceNumber
  pub long_zero : judged_octets (128 ∷ 0 ∷ []) ≡ Err TraceNumber
  pub tenth_zero : judged_octets (replicate 9 128 ++ (0 ∷ [])) ≡ Err TraceNumber
  pub over : judged_octets (replicate 9 255 ++ (2 ∷ [])) ≡ Err TraceNumber
  pub more : judged_octets (replicate 10 128) ≡ Err TraceNumber
  -- 2^64 − 1 can be read
  pub widest : judged_octets (replicate 9 255 ++ (1 ∷ [])) ≡ Err TraceRange

-- 25: seen at the number's last octet, so before 24
pub record Ranges : Type 0 where
  pub is_25 : number TraceRange ≡ 25
  pub n_low : judged_octets (0 ∷ []) ≡ Err TraceRange
  pub n_high : judged_octets (9 ∷ []) ≡ Err TraceRange
  pub trm_high : judged_octets (8 ∷ 8 ∷ []) ≡ Err TraceRange
  pub first_time : judged_octets (8 ∷ 7 ∷ 1 ∷ []) ≡ Err TraceRange
  pub kind_low : judged_octets (8 ∷ 7 ∷ 0 ∷ 0 ∷ []) ≡ Err TraceRange
  pub kind_high : judged_octets (8 ∷ 7 ∷ 0 ∷ 4 ∷ []) ≡ Err TraceRange
  pub rate_most : verdict (1 ∷ 0 ∷ 0 ∷ 1 ∷ largest_rate ∷ []) ≡ Passes
  pub rate_high : verdict (1 ∷ 0 ∷ 0 ∷ 1 ∷ suc largest_rate ∷ []) ≡ Err TraceRange
  -- the times may come to 2^62
  pub time_most : verdict (5 ∷ 7 ∷ 0 ∷ 1 ∷ 0 ∷ (latest_time - 9) ∷ 3 ∷ 1 ∷ 9 ∷ 3 ∷ largest_rate ∷ []) ≡ Passes
  pub time_high : verdict (5 ∷ 7 ∷ 0 ∷ 1 ∷ 0 ∷ (latest_time - 9) ∷ 3 ∷ 1 ∷ 10 ∷ []) ≡ Err TraceRange

-- a refusal goes before a broken rule, wherever it is seen
pub record Order : Type 0 where
  pub broken_then_cut : judged_octets (5 ∷ 7 ∷ 0 ∷ 3 ∷ 1 ∷ 0 ∷ []) ≡ Err TraceEnd
  pub broken_then_long : judged_octets (5 ∷ 7 ∷ 0 ∷ 3 ∷ 1 ∷ 128 ∷ 0 ∷ []) ≡ Err TraceNumber
  pub broken_then_high : judged_octets (5 ∷ 7 ∷ 0 ∷ 3 ∷ 1 ∷ 0 ∷ 4 ∷ []) ≡ Err TraceRange

-- rules 1 and 2
pub record Sooner : Type 0 where
  pub data_first : verdict (5 ∷ 7 ∷ 0 ∷ 3 ∷ 512_000 ∷ []) ≡ Breaks 1 1
  pub backward_first : verdict (5 ∷ 7 ∷ 0 ∷ 2 ∷ 512_000 ∷ []) ≡ Breaks 1 1
  -- the gap at 512,000, and at 1,536, where it is rounded up
  pub at_gap : verdict (5 ∷ 7 ∷ 0 ∷ 1 ∷ 512_000 ∷ 1_000_000 ∷ 3 ∷ 512_000 ∷ []) ≡ Passes
  pub before_gap : verdict (5 ∷ 7 ∷ 0 ∷ 1 ∷ 512_000 ∷ 999_999 ∷ 3 ∷ 512_000 ∷ []) ≡ Breaks 2 2
  pub at_rounded : verdict (5 ∷ 7 ∷ 0 ∷ 1 ∷ 512_000 ∷ 333_333_334 ∷ 3 ∷ 1536 ∷ []) ≡ Passes
  pub before_rounded : verdict (5 ∷ 7 ∷ 0 ∷ 1 ∷ 512_000 ∷ 333_333_333 ∷ 3 ∷ 1536 ∷ []) ≡ Breaks 2 2
  -- the first cell's rate is not judged; a later one's may not be 0, however late the cell
  pub first_at_zero : verdict (5 ∷ 7 ∷ 0 ∷ 1 ∷ 0 ∷ []) ≡ Passes
  pub later_at_zero : verdict (5 ∷ 7 ∷ 0 ∷ 1 ∷ 0 ∷ latest_time ∷ 3 ∷ 0 ∷ []) ≡ Breaks 2 2
  -- a cell that breaks rules 2 and 3 breaks the lower one; and the first cell that breaks a rule decides
  pub lowest : verdict (5 ∷ 7 ∷ 0 ∷ 1 ∷ 512_000 ∷ 999_999 ∷ 1 ∷ 512_000 ∷ []) ≡ Breaks 2 2
  pub first : verdict (5 ∷ 7 ∷ 0 ∷ 1 ∷ 512_000 ∷ 1_000_000 ∷ 1 ∷ 512_000 ∷ 999_999 ∷ 3 ∷ 512_000 ∷ []) ≡ Breaks 2 3

-- rule 3: k = Nrm − 1, with Nrm 2; and Trm from k = 2 on, with the shortest Trm, 781,250
pub record Due : Type 0 where
  pub second : verdict (1 ∷ 7 ∷ 0 ∷ 1 ∷ 512_000 ∷ 1_000_000 ∷ 3 ∷ 512_000 ∷ 1_000_000 ∷ 1 ∷ 512_000 ∷ []) ≡ Passes
  pub missed : verdict (1 ∷ 7 ∷ 0 ∷ 1 ∷ 512_000 ∷ 1_000_000 ∷ 3 ∷ 512_000 ∷ 1_000_000 ∷ 2 ∷ 512_000 ∷ []) ≡ Breaks 3 3
  pub early : verdict (1 ∷ 7 ∷ 0 ∷ 1 ∷ 512_000 ∷ 1_000_000 ∷ 1 ∷ 512_000 ∷ []) ≡ Breaks 2 3
  pub at_trm : verdict (8 ∷ 0 ∷ 0 ∷ 1 ∷ largest_rate ∷ 1 ∷ 2 ∷ largest_rate ∷ 1 ∷ 3 ∷ largest_rate ∷ 781_248 ∷ 1 ∷ largest_rate ∷ []) ≡ Passes
  pub after_trm : verdict (8 ∷ 0 ∷ 0 ∷ 1 ∷ largest_rate ∷ 1 ∷ 2 ∷ largest_rate ∷ 1 ∷ 3 ∷ largest_rate ∷ 781_248 ∷ 3 ∷ largest_rate ∷ []) ≡ Breaks 4 3
  pub before_trm : verdict (8 ∷ 0 ∷ 0 ∷ 1 ∷ largest_rate ∷ 1 ∷ 2 ∷ largest_rate ∷ 1 ∷ 3 ∷ largest_rate ∷ 781_247 ∷ 1 ∷ largest_rate ∷ []) ≡ Breaks 4 3
  -- with one cell since the last forward one, Trm does not count
  pub one_since : verdict (8 ∷ 0 ∷ 0 ∷ 1 ∷ largest_rate ∷ 1 ∷ 2 ∷ largest_rate ∷ 781_249 ∷ 3 ∷ largest_rate ∷ []) ≡ Passes
