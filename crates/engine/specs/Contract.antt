-- The contracts of the calls on the words of the lent table: one record for a call that changes it, one for a call that
-- may write a buffer besides, one for a reading. None has a requires: of words that are no well-formed state's it is
-- known that the call ends and stays within its bounds. (Document 01, "What the library commits to", 1.)
use Rattle.std.specs.Prelude.{ℕ, ◌≡◌, List}
use Rattle.connection.specs.Slot.{Buffer, untouched, written}
use Rattle.model.specs.State.{State}
use Rattle.model.specs.Invariant.{WellFormed}
use Rattle.table.specs.Layout.{words}
use Rattle.model.specs.Answers.{Answer}
use Rattle.model.specs.Call.{Outcome}

-- Of the words of a well-formed state, as every state that calls reach is, the call makes the words of the state that f
-- gives, and returns `part` of the state before it and the outcome that f gives.
pub record Meets {R : Type 0} (part : State → Outcome → R) (f : State → Outcome) (before after : List ℕ) (r : R) : Type 0 where
  pub meets : (s : State) → WellFormed s → before ≡ words s → (after ≡ words (f s).state) × (r ≡ part s (f s))

-- what the lent buffer holds after a call
abbrev pub buffer_content : Buffer → List ℕ → List ℕ
buffer_content untouched old = old
buffer_content (written o) old = o

-- the same of a call that may write its buffer
pub record MeetsWriting {R : Type 0} (part : State → Outcome → R) (f : State → Outcome) (before after : List ℕ) (r : R) (old new : List ℕ) : Type 0 where
  pub meets :
      (s : State) → WellFormed s → before ≡ words s
      → (after ≡ words (f s).state) × (r ≡ part s (f s)) × (new ≡ buffer_content (f s).buffer old)

-- a call that leaves the table: what it returns, in the state whose words it reads
pub record MeetsReading (Returned : State → Type 0) (l : List ℕ) : Type 0 where
  pub meets : (s : State) → WellFormed s → l ≡ words s → Returned s

-- most of the engine's calls return the whole answer, and an export what C sees of it
abbrev pub of_answer : {R : Type 0} → (Answer → R) → State → Outcome → R
of_answer part s o = part o.answer

abbrev pub whole_answer : State → Outcome → Answer
whole_answer = of_answer (λ a. a)
