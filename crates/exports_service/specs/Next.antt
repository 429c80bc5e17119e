-- What abr_next_ready returns is the earliest of the ready instants that a caller computes. None is before it, and
-- where it says never, none is ever ready. ExportsNextReady says that a slot sends from it on. (Document 01,
-- "Slots", says who is ready when.)
use Rattle.std.specs.Prelude.{ℕ, ◌≤◌, ◌≡◌, List, Some, None}
use Rattle.connection.specs.Parts.{Instant}
use Rattle.model.specs.Call.{Call}
use Rattle.model.specs.Queries.{never_word}
use Rattle.table_tournament.specs.Next.{GivesNext}
use Rattle.abr_answers.specs.declared.calls.AbrAllowed.{AbrAllowed}
use Rattle.abr.specs.Exports.{Observation, Transcript, final_words, zeros}
use Rattle.exports_service.specs.Slots.{RatesOf, ready_of}

pub record NextOf (ready : ℕ → Instant) (next : ℕ) : Type 0 where
  pub earliest : (u i : ℕ) → ready u ≡ Some i → next ≤ i
  pub never : next ≡ never_word → (u : ℕ) → ready u ≡ None

-- after any exported calls from the zero table
abbrev pub ExportsNext : Type 0
ExportsNext =
    (cs : List Call) (os : List Observation) → Transcript cs zeros os → (a : ℕ → AbrAllowed) → RatesOf (final_words zeros os) a → (next : ℕ) → GivesNext (final_words zeros os) next
    → NextOf (ready_of cs os a) next
