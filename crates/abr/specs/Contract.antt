-- The contract of an export, on the words of the lent table: the engine's own, with what C sees of the answer.
-- (Document 01, "What the library commits to", 1.)
use Rattle.std.specs.Prelude.{ℕ, ◌≡◌, List}
use Rattle.model.specs.State.{State}
use Rattle.model.specs.Call.{Outcome}
use Rattle.model.specs.Queries.{acr_of, contract_of}
use Rattle.cell.specs.Reading.{reading}
use Rattle.model.specs.Details.{open_answer, receive_answer, slot_answer}
use Rattle.model.specs.Status.{status_of, status_at, member_status_at, totals}
use Rattle.engine.specs.Contract.{Meets, MeetsWriting, MeetsReading, of_answer}
use Rattle.abr_answers.specs.declared.details.AbrOpened.{AbrOpened}
use Rattle.abr_answers.specs.declared.details.AbrReceived.{AbrReceived}
use Rattle.abr_answers.specs.declared.details.AbrSent.{AbrSent}
use Rattle.abr_answers.specs.declared.status.AbrConnection.{AbrConnection}
use Rattle.abr_answers.specs.declared.status.AbrMember.{AbrMember}
use Rattle.abr_answers.specs.declared.status.AbrTotals.{AbrTotals}
use Rattle.abr_answers.specs.Details.{opened_of, received_of, sent_of}
use Rattle.abr_answers.specs.Status.{connection_shown, member_shown, totals_shown}
use Rattle.abr_answers.specs.declared.calls.AbrAllowed.{AbrAllowed}
use Rattle.abr_answers.specs.declared.calls.AbrAnswer.{AbrAnswer}
use Rattle.abr_answers.specs.declared.calls.AbrClosed.{AbrClosed}
use Rattle.abr_answers.specs.Calls.{refusal_alone, answer_of, closed_of, allowed_of}
use Rattle.rate_doubles.specs.declared.export.Exported.{Exported}
use Rattle.abr_answers.specs.Planning.{ExportedAs}

-- a call that returns its refusal and the comparisons it made
abbrev pub ReturnsAnswer : (State → Outcome) → (before after : List ℕ) → AbrAnswer → Type 0
ReturnsAnswer = Meets (of_answer answer_of)

-- a close or the removal of a member, which also returns the data cells that waited (document 02, L12 and L13)
abbrev pub ReturnsClosed : (State → Outcome) → (before after : List ℕ) → AbrClosed → Type 0
ReturnsClosed = Meets (of_answer closed_of)

-- a call that returns its refusal alone: it makes no comparisons
abbrev pub ReturnsRefusal : (State → Outcome) → (before after : List ℕ) (refusal : ℕ) → Type 0
ReturnsRefusal f before after n = Meets (of_answer answer_of) f before after (refusal_alone n)

-- the same of a call that may write its buffer
abbrev pub ReturnsRefusalWriting : (State → Outcome) → (before after : List ℕ) (refusal : ℕ) (old new : List ℕ) → Type 0
ReturnsRefusalWriting f before after n = MeetsWriting (of_answer answer_of) f before after (refusal_alone n)

-- an open, which also returns the leaf that it took
abbrev pub ReturnsOpened : (State → Outcome) → (before after : List ℕ) → AbrOpened → Type 0
ReturnsOpened = Meets (λ s o. opened_of (open_answer s o))

-- a received cell of these octets, which also returns what it is and the rate of its connection
abbrev pub ReturnsReceived : (octets : List ℕ) → (State → Outcome) → (before after : List ℕ) → AbrReceived → Type 0
ReturnsReceived octets = Meets (λ s o. received_of (receive_answer (reading octets) s o))

-- a slot, with its buffer before and after
abbrev pub ReturnsSent : (State → Outcome) → (before after : List ℕ) → AbrSent → (old new : List ℕ) → Type 0
ReturnsSent = MeetsWriting (λ s o. sent_of (slot_answer s o))

-- reading an ACR
abbrev pub ReturnsAllowed : (name : ℕ) (words : List ℕ) → AbrAllowed → Type 0
ReturnsAllowed v l r = MeetsReading (λ s. r ≡ allowed_of (acr_of s v)) l

-- exporting a contract, which writes its refusal (document 02, L8)
abbrev pub ReturnsContract : (name : ℕ) (words : List ℕ) (refusal : ℕ) → Exported → Type 0
ReturnsContract v l n r = MeetsReading (λ s. ExportedAs (contract_of s v) n r) l

-- reading everything of a name, of a leaf, of a member by its number, and of the link
abbrev pub ReturnsStatus : (name : ℕ) (words : List ℕ) → AbrConnection → Type 0
ReturnsStatus v l r = MeetsReading (λ s. r ≡ connection_shown (status_of s v)) l

abbrev pub ReturnsAt : (leaf : ℕ) (words : List ℕ) → AbrConnection → Type 0
ReturnsAt i l r = MeetsReading (λ s. r ≡ connection_shown (status_at s i)) l

abbrev pub ReturnsMember : (number : ℕ) (words : List ℕ) → AbrMember → Type 0
ReturnsMember i l r = MeetsReading (λ s. r ≡ member_shown (member_status_at s i)) l

abbrev pub ReturnsTotals : (words : List ℕ) → AbrTotals → Type 0
ReturnsTotals l r = MeetsReading (λ s. r ≡ totals_shown (totals s)) l
