-- The generic cell rate algorithm as virtual scheduling (ITU-T I.371), with an increment for each cell. With one
-- increment for all cells it is GCRA(increment, tolerance). With the gap of the rate in force before each cell
-- it is the dynamic form, DGCRA.
use Rattle.std.specs.Prelude.{ℕ, suc, ◌+◌, ◌≤◌, max, ◌≡◌, cond, List, [], ◌∷◌, ◌++◌, leb}

-- a cell: when it arrives, and what it adds to the theoretical arrival time
pub record Arrival : Type 0 where
  pub time : ℕ
  pub increment : ℕ

-- The theoretical arrival time (TAT) of a cell is its increment after `last`. `last` is the later of arrival and
-- theoretical time of the last conforming cell. A cell conforms if it arrives at most the tolerance before its
-- theoretical time. One that does not conform leaves `last`.
abbrev pub theoretical : (last : ℕ) → Arrival → ℕ
theoretical last x = last + x.increment

-- the latest theoretical time with which it conforms
abbrev pub latest_allowed : (tolerance : ℕ) → Arrival → ℕ
latest_allowed tolerance x = x.time + tolerance

-- how many cells do not
unfoldable pub nonconforming : (tolerance last : ℕ) → List Arrival → ℕ
nonconforming tolerance last [] = 0
nonconforming tolerance last (x ∷ xs) =
    cond (leb (theoretical last x) (latest_allowed tolerance x)) (nonconforming tolerance (max x.time (theoretical last x)) xs) (suc (nonconforming tolerance last xs))

-- the first cell conforms, and has its arrival as its theoretical time
unfoldable pub dropped : (tolerance : ℕ) → List Arrival → ℕ
dropped tolerance [] = 0
dropped tolerance (x ∷ xs) = nonconforming tolerance x.time xs

-- Where it finds nothing to drop, each cell came at most the tolerance before the sum of the
-- increments since any earlier one.
abbrev pub increments : List Arrival → ℕ
increments [] = 0
increments (x ∷ xs) = x.increment + increments xs

abbrev pub PolicerStrict : Type 0
PolicerStrict =
    (tolerance : ℕ) (earlier : List Arrival) (x : Arrival) (between : List Arrival) (y : Arrival) (rest : List Arrival)
    → dropped tolerance (earlier ++ (x ∷ (between ++ (y ∷ rest)))) ≡ 0 → x.time + increments between + y.increment ≤ y.time + tolerance
