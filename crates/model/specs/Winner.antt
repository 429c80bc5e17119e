-- The connection that a slot at t goes to: of those ready by then, the one that was ready first; of several, the
-- lowest name. (Document 01, "Slots".)
use Rattle.std.specs.Prelude.{ℕ, ◌≤◌, ◌<◌, ◌≡◌, Bool, cond, ◌&&◌, ◌||◌, List, [], ◌∷◌, leb, ltb, eqb, Some, None}
use Rattle.connection.specs.declared.parts.Connection.{Connection}
use Rattle.connection.specs.Ready.{ready_instant}
use Rattle.connection.specs.Parts.{Instant}
use Rattle.model.specs.State.{Entry, free, taken, find}
use Rattle.model.specs.Invariant.{Each}

-- none is ready, or the connection of a name with its ready instant
pub data Winner : Type 0 where
  none_ready : Winner
  wins : (instant name : ℕ) → Winner

unfoldable pub candidate_from : (t name : ℕ) → Instant → Winner
candidate_from t v None = none_ready
candidate_from t v (Some i) = cond (leb i t) (wins i v) none_ready

unfoldable pub candidate : ℕ → Entry → Winner
candidate t free = none_ready
candidate t (taken c) = candidate_from t c.name (ready_instant c)

-- instant i of name v comes before instant j of name w, or is the same: the earlier one, ties to the lower name
abbrev pub is_ahead : (i v j w : ℕ) → Bool
is_ahead i v j w = ltb i j || (eqb i j && leb v w)

unfoldable pub better : Winner → Winner → Winner
better none_ready w = w
better (wins i v) none_ready = wins i v
better (wins i v) (wins j w) = cond (is_ahead i v j w) (wins i v) (wins j w)

unfoldable pub winner : ℕ → List Entry → Winner
winner t [] = none_ready
winner t (s ∷ ss) = better (candidate t s) (winner t ss)

-- That the scan above picks the right one is a theorem, in these words:
-- instant i of name v comes before instant j of name w, or is the same
pub data Ahead (i v j w : ℕ) : Type 0 where
  sooner : i < j → Ahead i v j w
  tied : i ≡ j → v ≤ w → Ahead i v j w

-- the connection of v is ready at i, not after t, and ahead of all that are ready by t
pub record Chosen (t i v : ℕ) (ss : List Entry) : Type 0 where
  pub holder : Connection
  pub found : find v ss ≡ taken holder
  pub ready_at : ready_instant holder ≡ Some i
  pub due : i ≤ t
  pub first : Each (λ d. (j : ℕ) → ready_instant d ≡ Some j → j ≤ t → Ahead i v j d.name) ss

-- no winner: no connection is ready by t
abbrev pub Best : ℕ → List Entry → Winner → Type 0
Best t ss none_ready = Each (λ d. (j : ℕ) → ready_instant d ≡ Some j → t < j) ss
Best t ss (wins i v) = Chosen t i v ss
