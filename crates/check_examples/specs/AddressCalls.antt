-- Calls on pairs of VPI and VCI at work, computed from the empty table. (Document 02, L6.)
use Rattle.std.specs.Prelude.{ℕ, ◌≡◌, List, [], ◌∷◌}
use Rattle.cell.specs.Name.{address_name}
use Rattle.cell.specs.Fields.{rm_cell}
use Rattle.connection.specs.declared.kind.Kind.TheVariants.{Forward, Turned}
use Rattle.connection.specs.Slot.{Buffer, written}
use Rattle.model.specs.State.{empty}
use Rattle.model.specs.Call.{Call, opening, closing, receiving, offering, levelling, slot, making, out_of_rate}
use Rattle.model.specs.Answers.{NotOpen}
use Rattle.model.specs.Step.{step}
use Rattle.model.specs.Queries.{acr_of}
use Rattle.model.specs.Run.{final}
use Rattle.check_examples.specs.Unstarred.{refused, accepted, closed_with, sent, next, house}

-- VPI 1 and VCI 32 are open, at level 1; their name is 65,568
abbrev pub opened_addresses : List Call
opened_addresses = opening 1 32 0 house ∷ levelling 1 ∷ []

-- the higher VCI of the lower VPI beside it, opened after it; a cell of data waits on each
abbrev pub tied : List Call
tied = opening 1 32 0 house ∷ opening 0 40 0 house ∷ offering 1 32 1 ∷ offering 0 40 1 ∷ []

-- an RM cell of VPI 255 and VCI 65,535 with these bits and this ER
abbrev pub rm_at : (dir bn ni er : ℕ) → List ℕ
rm_at dir bn ni er = rm_cell 0 (record { vpi = 255; vci = 65535; dir = dir; bn = bn; ci = 0; ni = ni; ra = 0; er = er; ccr = 0; mcr = 0; ql = 0; sn = 0 })

-- its first forward cell: ER and CCR the code of the peak, MCR that of the minimum
abbrev pub forward_of : (rate : ℕ) → List ℕ
forward_of rate = rm_cell 0 (record { vpi = 255; vci = 65535; dir = 0; bn = 0; ci = 0; ni = 0; ra = 0; er = rate; ccr = rate; mcr = 0x4000; ql = 0; sn = 0 })

-- the highest pair, with a forward cell received and a cell made; then its first cell, and the turned one
abbrev pub highest : List Call
highest = opening 255 65535 0 house ∷ levelling 1 ∷ making 255 65535 0 ∷ levelling 0 ∷ receiving (rm_at 0 0 0 0x4A00) ∷ []

abbrev pub turned_next : List Call
turned_next = opening 255 65535 0 house ∷ levelling 1 ∷ making 255 65535 0 ∷ levelling 0 ∷ receiving (rm_at 0 0 0 0x4A00) ∷ slot 0 53 ∷ []

abbrev pub made_next : List Call
made_next = opening 255 65535 0 house ∷ levelling 1 ∷ making 255 65535 0 ∷ levelling 0 ∷ receiving (rm_at 0 0 0 0x4A00) ∷ slot 0 53 ∷ slot 1_000_000 53 ∷ []

-- what the next slot writes
abbrev pub wrote_at : List Call → ℕ → Buffer
wrote_at cs t = (step (final empty cs) (slot t 53)).buffer

pub record AddressCalls : Type 0 where
  -- 10 looks at the VCI alone, and first; then 7 for either number
  pub reserved : next [] (opening 255 31 0 house) ≡ refused 10
  pub reserved_first : next [] (opening 256 31 0 house) ≡ refused 10
  pub vpi_over : next [] (opening 256 32 0 house) ≡ refused 7
  pub vci_over : next [] (opening 0 65536 0 house) ≡ refused 7
  pub lowest : next [] (opening 0 32 0 house) ≡ accepted
  pub greatest : next [] (opening 255 65535 0 house) ≡ accepted
  -- the same VCI under another VPI is another connection
  pub again : next opened_addresses (opening 1 32 0 house) ≡ refused 12
  pub beside : next opened_addresses (opening 2 32 0 house) ≡ accepted
  pub other_vpi : next opened_addresses (closing 2 32) ≡ refused 11
  -- a cell of a VPI on which nothing is open meets 11, since 3 is withdrawn
  pub other_cell : next opened_addresses (receiving (rm_at 0 0 0 0x4A00)) ≡ refused 11
  -- 0 × 65,536 + 65,568 is the number of the open pair, and makes no name of it, in any call that names a pair
  pub folded_open : next opened_addresses (opening 0 65568 0 house) ≡ refused 7
  pub folded_close : next opened_addresses (closing 0 65568) ≡ refused 11
  pub folded_offer : next opened_addresses (offering 0 65568 1) ≡ refused 11
  pub folded_make : next opened_addresses (making 0 65568 0) ≡ refused 11
  pub folded_out_of_rate : next opened_addresses (out_of_rate 0 65568 0 53) ≡ refused 11
  pub folded_acr : acr_of (final empty opened_addresses) (address_name 0 65568) ≡ NotOpen
  -- while the pair itself is taken
  pub closed : next opened_addresses (closing 1 32) ≡ closed_with 0
  pub offered : next opened_addresses (offering 1 32 1) ≡ accepted
  pub made : next opened_addresses (making 1 32 0) ≡ accepted
  pub out_of_rate_plain : next opened_addresses (out_of_rate 1 32 0 53) ≡ accepted
  -- ties go to the lower name, VPI 0 with VCI 40, though its VCI is the higher and its entry the later
  pub lower_name : next tied (slot 0 53) ≡ sent 40 Forward 512_000
  -- the cells of the highest pair: forward, turned and made
  pub forward : (next highest (slot 0 53) ≡ sent 16_777_215 Forward 512_000) × (wrote_at highest 0 ≡ written (forward_of 0x53E8))
  pub turned : (next turned_next (slot 1_000_000 53) ≡ sent 16_777_215 Turned 512_000) × (wrote_at turned_next 1_000_000 ≡ written (rm_at 1 0 0 0x4A00))
  pub made_sent : (next made_next (slot 2_000_000 53) ≡ sent 16_777_215 Turned 512_000) × (wrote_at made_next 2_000_000 ≡ written (rm_at 1 1 1 0x53E8))
