-- What the calls on a table return, for each case of their answers: the documents' number, or 0 if there is no
-- refusal. Beside a refusal there are zeros. (Document 01, "Slots", "Refused because of the input" and
-- "Refused because of the state"; document 02, L6, L9 and L12.)
use Rattle.std.specs.Prelude.{ℕ, pos}
use Rattle.connection.specs.Change.{difference, as_rates}
use Rattle.model.specs.Answers.{Answer, Refused, Accepted, Closed, Idle, Sent, Acr, NotOpen, Rate}
use Rattle.model.specs.Call.{closed_cells}
pub use Rattle.abr_answers.specs.declared.calls.AbrAllowed.{AbrAllowed}
pub use Rattle.abr_answers.specs.declared.calls.AbrAnswer.{AbrAnswer}
pub use Rattle.abr_answers.specs.declared.calls.AbrClosed.{AbrClosed}

-- a call that makes no comparisons
abbrev pub refusal_alone : (refusal : ℕ) → AbrAnswer
refusal_alone n = record { refusal = n; comparisons = 0 }

-- a call that is no slot: its refusal, and the comparisons that it made (document 02, L4)
abbrev pub answer_of : Answer → AbrAnswer
answer_of (Refused n) = refusal_alone n
answer_of (Accepted n) = record { refusal = 0; comparisons = n }
answer_of (Closed n k) = record { refusal = 0; comparisons = n }
answer_of Idle = refusal_alone 0
answer_of (Sent v x k a n) = record { refusal = 0; comparisons = n }

-- a close: the data cells that waited beside them
abbrev pub closed_of : Answer → AbrClosed
closed_of a = record { refusal = (answer_of a).refusal; comparisons = (answer_of a).comparisons; cells = closed_cells a }

-- the allowed rate, and what the last backward cell changed of it
abbrev pub allowed_of : Acr → AbrAllowed
allowed_of NotOpen = record { refusal = 11; reserved = 0; acr = 0; change = pos 0 }
allowed_of (Rate a x) = record { refusal = 0; reserved = 0; acr = a; change = difference x }

-- with rates below 2^42, which leaves every answer of a table that calls made as it is
abbrev pub of_rates : Acr → Acr
of_rates NotOpen = NotOpen
of_rates (Rate a x) = Rate a (as_rates x)
