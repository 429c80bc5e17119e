-- Shortest form only. The judge refuses a trace exactly if it is not what a recorder writes of numbers in
-- their ranges. (Document 02, L11.)
use Rattle.std.specs.Prelude.{ℕ, ◌^◌, ◌≤◌, ◌≡◌, ◌≢◌, List, [], ◌∷◌, Err}
use Rattle.laws.specs.declared.refusals.Refusal.{Refusal}
use Rattle.trace.specs.Shortest.{Octets}
use Rattle.trace_judge.specs.declared.cells.Cell.{Cell}
use Rattle.trace_judge.specs.Rules.{Verdict, judged_cells}
use Rattle.trace_judge.specs.Octets.{judged_octets}
use Rattle.trace_judge.specs.RoundTrip.{span}
use Rattle.laws.specs.All.{All}
use Rattle.promise_traces.specs.Written.{trace_octets}

-- the first cell's time
abbrev pub FirstAtZero : List Cell → Type 0
FirstAtZero [] = Unit
FirstAtZero (c ∷ cs) = c.since ≡ 0

-- a kind, and a rate up to the largest
pub record CellInRange (c : Cell) : Type 0 where
  pub kind_low : 1 ≤ c.kind
  pub kind_high : c.kind ≤ 3
  pub rate : c.rate ≤ 2_196_875_771_904

-- n from 1 to 8, a Trm number, and times that come to 2^62 at most
pub record TraceInRange (n trm : ℕ) (cs : List Cell) : Type 0 where
  pub n_low : 1 ≤ n
  pub n_high : n ≤ 8
  pub trm_high : trm ≤ 7
  pub first : FirstAtZero cs
  pub cells : All CellInRange cs
  pub time : span cs ≤ 2 ^ 62

-- octets that a recorder writes, and their verdict, which is that of the cells
pub record WrittenTrace (s : List ℕ) : Type 0 where
  pub n : ℕ
  pub trm : ℕ
  pub cells : List Cell
  pub ranges : TraceInRange n trm cells
  pub octets : s ≡ trace_octets n trm cells
  pub verdict : judged_octets s ≡ judged_cells n trm cells

abbrev pub NotRefused : Verdict → Type 0
NotRefused v = (r : Refusal) → v ≢ Err r

-- both ways
pub record ShortestTraces : Type 0 where
  pub written : (s : List ℕ) → Octets s → NotRefused (judged_octets s) → WrittenTrace s
  pub judged : (n trm : ℕ) (cs : List Cell) → TraceInRange n trm cs → NotRefused (judged_octets (trace_octets n trm cs))
