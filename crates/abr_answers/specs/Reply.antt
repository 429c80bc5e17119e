-- What the documents ask of the answer of any call: its refusal, the comparisons that it made and, of a slot, what it
-- sends. Beside a refusal there are zeros. (Document 01, "Slots"; document 02, L4, L6 and L13.)
use Rattle.std.specs.Prelude.{ℕ}
use Rattle.cell.specs.Name.{vpi_in, vci_in}
use Rattle.connection.specs.Kind.{kind_number}
use Rattle.model.specs.Answers.{Answer, Refused, Accepted, Closed, Idle, Sent}
use Rattle.abr_answers.specs.declared.details.AbrSent.{AbrSent}

pub record Reply : Type 0 where
  pub refusal : ℕ
  pub comparisons : ℕ
  pub kind : ℕ
  pub vpi : ℕ
  pub vci : ℕ
  pub acr : ℕ

-- kind 0 is none
abbrev pub no_cell : (refusal comparisons : ℕ) → Reply
no_cell n k = record { refusal = n; comparisons = k; kind = 0; vpi = 0; vci = 0; acr = 0 }

-- The name that the slot answers. For a data cell of a path it is the member's (document 02, L13). No
-- slot answers Accepted or Closed.
abbrev pub reply_of : Answer → Reply
reply_of (Refused n) = no_cell n 0
reply_of (Accepted n) = no_cell 0 n
reply_of (Closed n k) = no_cell 0 n
reply_of Idle = no_cell 0 0
reply_of (Sent v x k a n) = record { refusal = 0; comparisons = n; kind = kind_number k; vpi = vpi_in x; vci = vci_in x; acr = a }

-- what a slot returned of it
abbrev pub reply_in : AbrSent → Reply
reply_in r = record { refusal = r.refusal; comparisons = r.comparisons; kind = r.kind; vpi = r.vpi; vci = r.vci; acr = r.acr }
