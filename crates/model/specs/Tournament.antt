-- The tournament of the ready instants: a leaf for each entry, neighbours paired at each level, and what a replay
-- of one leaf's matches counts. (Document 02, L4.) Leaf x has the place capacity + x. The places 2p and 2p + 1
-- play the match p. Place 1 has the winner of all.
use Rattle.std.specs.Prelude.{ℕ, zero, suc, ◌+◌, ◌-◌, ◌*◌, ◌/◌, ◌%◌, Bool, cond, not, ◌&&◌, List, eqb, get_or, Some, None}
use Rattle.connection.specs.Ready.{ready_instant}
use Rattle.connection.specs.Parts.{Instant}
use Rattle.model.specs.State.{Entry, free, taken, capacity}
use Rattle.model.specs.Winner.{Winner, none_ready, candidate_from, is_ahead}

-- the levels above the leaves: 2 ^ levels is the capacity
abbrev pub levels : ℕ
levels = 10

-- the winner of a match: none, where no leaf below it is ever ready, or one leaf, with its ready instant and its name
pub data MatchWinner : Type 0 where
  no_winner : MatchWinner
  won_by : (instant name leaf : ℕ) → MatchWinner

-- a leaf that is empty or never ready wins no match
unfoldable pub instant_winner : (name leaf : ℕ) → Instant → MatchWinner
instant_winner v x None = no_winner
instant_winner v x (Some i) = won_by i v x

unfoldable pub leaf_winner : (leaf : ℕ) → Entry → MatchWinner
leaf_winner x free = no_winner
leaf_winner x (taken c) = instant_winner c.name x (ready_instant c)

-- a match: the earlier instant wins, ties to the lower name
unfoldable pub first : MatchWinner → MatchWinner → MatchWinner
first no_winner b = b
first (won_by i v x) no_winner = won_by i v x
first (won_by i v x) (won_by j w y) = cond (is_ahead i v j w) (won_by i v x) (won_by j w y)

-- the winner at a place, so many levels above the leaves
unfoldable pub winner_at : List Entry → (level place : ℕ) → MatchWinner
winner_at ss zero p = leaf_winner (p - capacity) (get_or ss (p - capacity) free)
winner_at ss (suc d) p = first (winner_at ss d (2 * p)) (winner_at ss d (2 * p + 1))

-- that winner as the winner of a slot at t
unfoldable pub in_time : (t : ℕ) → MatchWinner → Winner
in_time t no_winner = none_ready
in_time t (won_by i v x) = candidate_from t v (Some i)

-- its ready instant
unfoldable pub winner_instant : MatchWinner → Instant
winner_instant no_winner = None
winner_instant (won_by i v x) = Some i

-- the other place of a place's match
abbrev pub neighbour : (place : ℕ) → ℕ
neighbour p = p + 1 - 2 * (p % 2)

-- the winner's leaf plus 1; 0 if there is none
unfoldable pub winner_word : MatchWinner → ℕ
winner_word no_winner = 0
winner_word (won_by i v x) = x + 1

-- whether a replay of leaf x ends at a level: the winner, or the lack of one, is as before and is not that leaf
unfoldable pub ends : (leaf : ℕ) (before after : MatchWinner) → Bool
ends x a b = eqb (winner_word a) (winner_word b) && not (eqb (winner_word b) (x + 1))

-- the levels replayed from a place on, with so many left
unfoldable pub replayed_from : (leaf : ℕ) (before after : List Entry) (level place left : ℕ) → ℕ
replayed_from x ss rs d p zero = 0
replayed_from x ss rs d p (suc left) = cond (ends x (winner_at ss d p) (winner_at rs d p)) 1 (suc (replayed_from x ss rs (suc d) (p / 2) left))

-- the comparisons of a call that changes only leaf x: the levels replayed, including the
-- one at which the replay ends
unfoldable pub replayed : (leaf : ℕ) (before after : List Entry) → ℕ
replayed x ss rs = replayed_from x ss rs 1 ((capacity + x) / 2) levels
