-- The octets of a trace that a recorder writes, and that the judge reads back what was written. (Document 02, L11.)
use Rattle.std.specs.Prelude.{ℕ, ◌+◌, ◌≤◌, ◌≡◌, Bool, true, false, List, [], ◌∷◌}
use Rattle.rate.specs.Units.{largest_rate}
use Rattle.trace.specs.Numbers.{written_all}
use Rattle.trace_judge.specs.declared.cells.Cell.{Cell}
use Rattle.trace_judge.specs.Rules.{judged_cells}
use Rattle.trace_judge.specs.Octets.{most_since, judged_octets}

-- three numbers for each cell
unfoldable pub cell_numbers : List Cell → List ℕ
cell_numbers [] = []
cell_numbers (c ∷ cs) = c.since ∷ c.kind ∷ c.rate ∷ cell_numbers cs

-- n, the Trm number and the cells, every number in its shortest form
abbrev pub trace_octets : (n trm : ℕ) → List Cell → List ℕ
trace_octets n trm cs = written_all (n ∷ trm ∷ cell_numbers cs)

-- the numbers of the cells are in range, the times before them coming to `sum`
abbrev pub CellsFit : (first : Bool) → (sum : ℕ) → List Cell → Type 0
CellsFit first sum [] = Unit {0}
CellsFit first sum (c ∷ cs) =
    (c.since ≤ most_since first sum) × ((1 ≤ c.kind) × (c.kind ≤ 3)) × (c.rate ≤ largest_rate) × CellsFit false (sum + c.since) cs

-- the octets of such a trace are judged as its cells are
abbrev pub WrittenIsJudged : Type 0
WrittenIsJudged =
    (n trm : ℕ) (cs : List Cell) → 1 ≤ n → n ≤ 8 → trm ≤ 7 → CellsFit true 0 cs → judged_octets (trace_octets n trm cs) ≡ judged_cells n trm cs
