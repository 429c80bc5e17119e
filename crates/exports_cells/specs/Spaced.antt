-- Exported calls give at most ten made cells a second on a connection, and at most ten out-of-rate cells.
-- (Document 02, L1 and L5; source rule 11.)
use Rattle.std.specs.Prelude.{ℕ, ◌+◌, ◌≤◌, ◌≡◌, ◌≢◌, List}
use Rattle.model.specs.Call.{Call, closing, making, out_of_rate}
use Rattle.abr.specs.Exports.{Observation, Performs, Transcript, final_words, zeros}
use Rattle.laws.specs.All.{All}

-- After any exported calls one call returns 0. After any further calls that do not close this pair, another
-- returns 0. The two lie 100 ms or more apart.
abbrev pub SeenApart : (vpi vci : ℕ) (one two : Call) (t later : ℕ) → Type 0
SeenApart vpi vci one two t later =
    (cs ds : List Call) (os ps : List Observation) (o p : Observation) → Transcript cs zeros os → Performs one (final_words zeros os) o → Transcript ds o.table ps → Performs two (final_words o.table ps) p
    → All (λ c. c ≢ closing vpi vci) ds → o.returned.refusal ≡ 0 → p.returned.refusal ≡ 0 → t + 100_000_000 ≤ later

pub record ExportsSpaced : Type 0 where
  pub made : (vpi vci t later : ℕ) → SeenApart vpi vci (making vpi vci t) (making vpi vci later) t later
  pub out_of_rate_cells : (vpi vci t room later later_room : ℕ) → SeenApart vpi vci (out_of_rate vpi vci t room) (out_of_rate vpi vci later later_room) t later
