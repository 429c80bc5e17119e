-- How long a transmitter can sleep, for exported calls. It is said of the numbers that abr_next_ready
-- and abr_slot return after them.
use Rattle.std.specs.Prelude.{ℕ, ◌≤◌, ◌<◌, ◌≡◌, ◌≢◌, List}
use Rattle.model.specs.Call.{Call, slot}
use Rattle.table_tournament.specs.Next.{GivesNext}
use Rattle.abr.specs.Exports.{Observation, Performs, Transcript, final_words, zeros}

-- a slot at t returned a cell exactly if t is not before the instant: kind 0 is none
pub record SentFrom (next t : ℕ) (o : Observation) : Type 0 where
  pub idle : t < next → o.returned.kind ≡ 0
  pub sends : next ≤ t → o.returned.kind ≢ 0

-- After any exported calls from the zero table abr_next_ready returned an instant, and the slot that comes next no
-- refusal.
abbrev pub ExportsNextReady : Type 0
ExportsNextReady =
    (cs : List Call) (os : List Observation) → Transcript cs zeros os → (next : ℕ) → GivesNext (final_words zeros os) next
    → (t room : ℕ) (o : Observation) → Performs (slot t room) (final_words zeros os) o → o.returned.refusal ≡ 0 → SentFrom next t o
