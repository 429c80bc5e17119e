-- A pair of numbers out of their ranges is unknown, or no member of an open path, and never another
-- pair. Every cell that a call writes carries its connection's VPI and VCI; for a path the VCI is
-- 6. (Document 02, L6 and L13.)
use Rattle.std.specs.Prelude.{ℕ, ◌≤◌, ◌<◌, ◌≡◌, true, false, cond, List}
use Rattle.rate_params.specs.declared.params.Params.{Params}
use Rattle.rate.specs.Units.{latest_time}
use Rattle.rate.specs.Code.{codes_clear}
use Rattle.cell.specs.Name.{address_fits, address_name}
use Rattle.cell.specs.Header.{vpi_of, vci_of}
use Rattle.connection_members.specs.Path.{path_vci}
use Rattle.connection.specs.declared.kind.Kind.{Kind}
use Rattle.connection.specs.declared.kind.Kind.TheVariants.{Forward, Turned, Data}
use Rattle.connection.specs.Slot.{Buffer, untouched, written}
use Rattle.model.specs.State.{State, empty, is_free, find}
use Rattle.model.specs.Answers.{NotOpen, NoContract, Answer, Refused, Accepted, Closed, Idle, Sent}
use Rattle.model.specs.Call.{Call, opening, closing, offering, making, out_of_rate, opening_path, adding, offering_member, removing}
use Rattle.model.specs.Aspects.{Lent, for_slot, for_out_of_rate, not_lent, lent_of}
use Rattle.model.specs.Step.{refuse, step}
use Rattle.model.specs.Queries.{acr_of, contract_of}
use Rattle.model.specs.Run.{final}

-- what a call on a member gives where the pair is none: 28 if the VPI has an open path
abbrev pub no_member_refusal : State → (vpi : ℕ) → ℕ
no_member_refusal s vpi = cond (is_free (find (address_name vpi path_vci) s.entries)) 11 28

-- what the calls on a pair do, where no refusal that is earlier in their order comes first: 10 and 19 in an open,
-- 8 in a making, 1 and 8 in an out-of-rate cell
pub record Unknown (s : State) (vpi vci : ℕ) : Type 0 where
  pub opens : (t : ℕ) (p : Params) → 32 ≤ vci → codes_clear p.pcr p.mcr p.icr ≡ true → step s (opening vpi vci t p) ≡ refuse s 7
  pub closes : step s (closing vpi vci) ≡ refuse s 11
  pub offers : (n : ℕ) → step s (offering vpi vci n) ≡ refuse s 11
  pub makes : (t : ℕ) → t ≤ latest_time → step s (making vpi vci t) ≡ refuse s 11
  pub sends_out_of_rate : (t : ℕ) → t ≤ latest_time → step s (out_of_rate vpi vci t 53) ≡ refuse s 11
  -- 10 comes first in adding
  pub adds : 32 ≤ vci → step s (adding vpi vci) ≡ refuse s 11
  -- a member's offer and removal find the path by its VPI: one over 255 has none
  pub offers_member : (n : ℕ) → step s (offering_member vpi vci n) ≡ refuse s (no_member_refusal s vpi)
  pub removes : step s (removing vpi vci) ≡ refuse s (no_member_refusal s vpi)
  pub no_path : 255 < vpi → no_member_refusal s vpi ≡ 11
  pub reads : acr_of s (address_name vpi vci) ≡ NotOpen
  pub exports : contract_of s (address_name vpi vci) ≡ NoContract

-- after any list of calls from the empty table
abbrev pub OutOfRangeUnknown : Type 0
OutOfRangeUnknown = (cs : List Call) (vpi vci : ℕ) → address_fits vpi vci ≡ false → Unknown (final empty cs) vpi vci

-- a path of a VPI out of its range is none: 19 comes first in its open
abbrev pub NoPathOver255 : Type 0
NoPathOver255 =
    (cs : List Call) (vpi t : ℕ) (p : Params) → 255 < vpi → codes_clear p.pcr p.mcr p.icr ≡ true
    → step (final empty cs) (opening_path vpi t p) ≡ refuse (final empty cs) 7

-- a pair within the ranges shares its name with no other pair, in its ranges or out of them
abbrev pub AddressesApart : Type 0
AddressesApart = (a b c d : ℕ) → address_fits a b ≡ true → address_name a b ≡ address_name c d → (a ≡ c) × (b ≡ d)

-- a cell is written, and its VPI and VCI make the name
abbrev pub Carries : ℕ → Buffer → Type 0
Carries v untouched = ⊥
Carries v (written o) = address_name (vpi_of o) (vci_of o) ≡ v

-- by the kind of cell that a slot sends, the connection that it goes to and the name that it
-- answers; for data nothing is written
abbrev pub SentCarries : Kind → (connection name : ℕ) → Buffer → Type 0
SentCarries Forward v x b = (x ≡ v) × Carries v b
SentCarries Turned v x b = (x ≡ v) × Carries v b
SentCarries Data v x b = b ≡ untouched

-- by the call and its answer: a slot's answer has the name, an out-of-rate cell is requested by its
-- pair, and nothing else is written
abbrev pub LentCarries : Lent → Answer → Buffer → Type 0
LentCarries (for_slot t) (Refused n) b = b ≡ untouched
LentCarries (for_slot t) (Accepted n) b = b ≡ untouched
LentCarries (for_slot t) (Closed n k) b = b ≡ untouched
LentCarries (for_slot t) Idle b = b ≡ untouched
LentCarries (for_slot t) (Sent v x k acr n) b = SentCarries k v x b
LentCarries (for_out_of_rate u) (Refused n) b = b ≡ untouched
LentCarries (for_out_of_rate u) (Accepted n) b = Carries u b
LentCarries (for_out_of_rate u) (Closed n k) b = ⊥
LentCarries (for_out_of_rate u) Idle b = ⊥
LentCarries (for_out_of_rate u) (Sent v x k acr n) b = ⊥
LentCarries not_lent a b = b ≡ untouched

abbrev pub CarriesName : Call → Answer → Buffer → Type 0
CarriesName c a b = LentCarries (lent_of c) a b

-- forward, turned and made cells of slots, and those out of rate; after any list of calls from the empty table
abbrev pub CellsCarryNames : Type 0
CellsCarryNames = (cs : List Call) (c : Call) → let o = step (final empty cs) c in CarriesName c o.answer o.buffer
