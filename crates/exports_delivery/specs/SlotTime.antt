-- The time that abr_slot_time returns, said of the numbers that abr_slot returns after the same exported calls.
use Rattle.std.specs.Prelude.{ℕ, ◌+◌, ◌≤◌, ◌≡◌, List}
use Rattle.model.specs.Call.{Call, slot}
use Rattle.table_tournament.specs.Next.{GivesNext, GivesSlotTime}
use Rattle.abr.specs.Exports.{Observation, Performs, Transcript, final_words, zeros}
use Rattle.exports_delivery.specs.Rounds.{last_seen}

-- A slot at its own time, and one at the time passed. If the first is not refused, the second is not. Both return
-- kind 0, which is no cell, or neither does.
pub record SentAlike (own passed : Observation) : Type 0 where
  pub accepted : own.returned.refusal ≡ 0 → passed.returned.refusal ≡ 0
  pub idle : own.returned.refusal ≡ 0 → own.returned.kind ≡ 0 → passed.returned.kind ≡ 0
  pub idle_own : own.returned.refusal ≡ 0 → passed.returned.kind ≡ 0 → own.returned.kind ≡ 0

-- on these words, with a buffer of 53 octets, `last` being the last accepted time
pub record TimeToPass (l : List ℕ) (last now lag time : ℕ) : Type 0 where
  pub not_after : time ≤ now
  pub within : now ≤ time + lag
  -- what abr_next_ready returns, if that lies between; the slot's own time, if nothing is ready before it
  pub ready : (next : ℕ) → GivesNext l next → last ≤ next → next ≤ now → now ≤ next + lag → time ≡ next
  pub nothing : (next : ℕ) → GivesNext l next → now ≤ next → time ≡ now
  -- the last accepted time, if that is after it; the time that is lag behind, if that is after both
  pub overdue : (next : ℕ) → GivesNext l next → next ≤ last → last ≤ now → now ≤ last + lag → time ≡ last
  pub late : (next : ℕ) → GivesNext l next → next + lag ≤ now → last + lag ≤ now → time + lag ≡ now
  pub alike : (o p : Observation) → Performs (slot now 53) l o → Performs (slot time 53) l p → SentAlike o p
  -- a slot's own time that is refused with 14 comes back as it is
  pub wrong_clock : (o : Observation) → Performs (slot now 53) l o → o.returned.refusal ≡ 14 → time ≡ now

-- After any exported calls from the zero table.
abbrev pub ExportsSlotTime : Type 0
ExportsSlotTime =
    (cs : List Call) (os : List Observation) → Transcript cs zeros os → (now lag time : ℕ) → GivesSlotTime (final_words zeros os) now lag time
    → TimeToPass (final_words zeros os) (last_seen 0 cs os) now lag time
