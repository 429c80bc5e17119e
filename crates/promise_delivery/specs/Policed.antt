-- A policer finds nothing to drop, from any table that calls made until a connection is closed. By the times
-- that the slots were passed, without tolerance, its cells are gaps at PCR apart, and each comes the gap of
-- its own rate after the one before. On the wire this holds with a tolerance of lag, if each cell is sent up
-- to lag after the time passed.
use Rattle.std.specs.Prelude.{ℕ, suc, ◌+◌, ◌*◌, ◌≤◌, ◌≡◌, List, [], ◌∷◌, ◌++◌, length}
use Rattle.rate.specs.Gap.{gap}
use Rattle.rate_params.specs.Params.{peak}
use Rattle.connection.specs.declared.parts.Connection.{Connection}
use Rattle.model.specs.State.{taken, empty, find}
use Rattle.model.specs.Call.{Call}
use Rattle.model.specs.Run.{final}
use Rattle.promise_traces.specs.InRate.{SentCell, sent_from}
use Rattle.promise_delivery.specs.Gcra.{Arrival, dropped}

-- each cell goes on the wire at its time in the second list: not before the time that its slot was
-- passed, and at most lag after it
abbrev pub OnWire : (lag : ℕ) → List SentCell → List ℕ → Type 0
OnWire lag [] [] = Unit
OnWire lag [] (m ∷ ms) = ⊥
OnWire lag (x ∷ xs) [] = ⊥
OnWire lag (x ∷ xs) (m ∷ ms) = ((x.time ≤ m) × (m ≤ x.time + lag)) × OnWire lag xs ms

abbrev pub arrivals : (increment : SentCell → ℕ) → List SentCell → List ℕ → List Arrival
arrivals f [] ms = []
arrivals f (x ∷ xs) [] = []
arrivals f (x ∷ xs) (m ∷ ms) = record { time = m; increment = f x } ∷ arrivals f xs ms

-- the gap of the rate that was in force before the cell
abbrev pub own_gap : SentCell → ℕ
own_gap x = gap x.rate

-- of cells in a row, g being the gap at the peak
pub record PolicedCells (g : ℕ) (cells : List SentCell) : Type 0 where
  -- By the times passed, the j-th cell after any cell comes at least j gaps at the peak later. Each comes after
  -- the one before by at least the gap of the rate before it.
  pub passed :
      (earlier : List SentCell) (x : SentCell) (between : List SentCell) (y : SentCell) (rest : List SentCell) → cells ≡ earlier ++ (x ∷ (between ++ (y ∷ rest)))
      → x.time + suc (length between) * g ≤ y.time
  pub by_rate : (earlier : List SentCell) (x y : SentCell) (rest : List SentCell) → cells ≡ earlier ++ (x ∷ (y ∷ rest)) → x.time + own_gap y ≤ y.time
  -- on the wire: GCRA(gap at the peak, lag), and DGCRA with the gap of the rate before each cell
  pub at_peak : (lag : ℕ) (ms : List ℕ) → OnWire lag cells ms → dropped lag (arrivals (λ x. g) cells ms) ≡ 0
  pub dynamic : (lag : ℕ) (ms : List ℕ) → OnWire lag cells ms → dropped lag (arrivals own_gap cells ms) ≡ 0

abbrev pub Policed : Type 0
Policed =
    (cs ds : List Call) (v : ℕ) (d : Connection) → find v (final empty cs).entries ≡ taken d
    → PolicedCells (gap (peak d.rate.params)) (sent_from v (final empty cs) ds)
