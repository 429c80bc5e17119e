-- What an open, a received cell and a slot return. Beside a refusal there are zeros, and `reserved` is always 0: no
-- octet of an answer is without a value. (Document 01, "Slots"; document 02, L1, L4, L6 and L13.)
use Rattle.std.specs.Prelude.{ℕ, cond}
use Rattle.cell.specs.Name.{vpi_in, vci_in}
use Rattle.connection.specs.Kind.{kind_number}
use Rattle.model.specs.Answers.{OpenAnswer, OpenRefused, Opened, ReceiveAnswer, ReceiveRefused, Received, SlotAnswer, SlotRefused, IdleSlot, SentCell}
pub use Rattle.abr_answers.specs.declared.details.AbrOpened.{AbrOpened}
pub use Rattle.abr_answers.specs.declared.details.AbrReceived.{AbrReceived}
pub use Rattle.abr_answers.specs.declared.details.AbrSent.{AbrSent}

abbrev pub opened_of : OpenAnswer → AbrOpened
opened_of (OpenRefused n) = record { refusal = n; comparisons = 0; leaf = 0 }
opened_of (Opened n l) = record { refusal = 0; comparisons = n; leaf = l }

-- kinds have the numbers of those that a slot sends
abbrev pub received_of : ReceiveAnswer → AbrReceived
received_of (ReceiveRefused n) = record { refusal = n; comparisons = 0; kind = 0; vpi = 0; vci = 0; leaf = 0; acr = 0 }
received_of (Received n k x l a) = record { refusal = 0; comparisons = n; kind = kind_number k; vpi = vpi_in x; vci = vci_in x; leaf = l; acr = a }

-- kind 0 is none
abbrev pub sent_nothing : (refusal : ℕ) → AbrSent
sent_nothing n = record { refusal = n; comparisons = 0; kind = 0; vpi = 0; vci = 0; leaf = 0; acr = 0; acr_before = 0; made = 0; reserved = 0 }

abbrev pub sent_of : SlotAnswer → AbrSent
sent_of (SlotRefused n) = sent_nothing n
sent_of IdleSlot = sent_nothing 0
sent_of (SentCell x k a n l b m) = record { refusal = 0; comparisons = n; kind = kind_number k; vpi = vpi_in x; vci = vci_in x; leaf = l; acr = a; acr_before = b; made = cond m 1 0; reserved = 0 }
