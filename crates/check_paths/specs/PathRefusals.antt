-- The refusals of the calls on paths and members, and their orders, computed from the empty table. (Document 02, L13.)
use Rattle.std.specs.Prelude.{ℕ, ◌+◌, ◌*◌, ◌/◌, ◌%◌, ◌≡◌, List, [], ◌∷◌, ◌++◌, replicate}
use Rattle.rate_params.specs.Params.{house_set}
use Rattle.rate.specs.Units.{latest_time}
use Rattle.cell_crc.specs.Checks.{header_check}
use Rattle.cell.specs.Name.{address_name}
use Rattle.cell.specs.Fields.{rm_cell}
use Rattle.model.specs.State.{empty}
use Rattle.model.specs.Answers.{NotOpen}
use Rattle.model.specs.Call.{Call, opening, closing, receiving, offering, levelling, making, out_of_rate, opening_path, adding, offering_member, removing}
use Rattle.model.specs.Queries.{acr_of}
use Rattle.model.specs.Run.{final}
use Rattle.check_examples.specs.Unstarred.{refused, accepted, closed_with, next, house}

-- the path of VPI 1, opened at 5 ns
abbrev pub opened_path : List Call
opened_path = opening_path 1 5 house ∷ []

-- with the members VCI 40, on which 65,535 cells wait, and VCI 50; and beside them, at level 1, the channel VCI 33
abbrev pub full : List Call
full = opening_path 1 5 house ∷ adding 1 40 ∷ adding 1 50 ∷ offering_member 1 40 65_535 ∷ opening 1 33 5 house ∷ levelling 1 ∷ []

-- a data cell with this EFCI, and a forward RM cell with this CI
abbrev pub data_header : (vpi vci efci : ℕ) → List ℕ
data_header vpi vci efci = (vpi / 16 % 16) ∷ (vpi % 16 * 16 + vci / 4096 % 16) ∷ (vci / 16 % 256) ∷ (vci % 16 * 16 + efci * 4) ∷ []

abbrev pub data_cell : (vpi vci efci : ℕ) → Call
data_cell vpi vci efci = receiving (data_header vpi vci efci ++ (header_check (data_header vpi vci efci) ∷ replicate 48 0))

abbrev pub rm_on_path : (vpi vci dir ci : ℕ) → List ℕ
rm_on_path vpi vci dir ci = rm_cell 0 (record { vpi = vpi; vci = vci; dir = dir; bn = 0; ci = ci; ni = 0; ra = 0; er = 0x4A00; ccr = 0; mcr = 0; ql = 0; sn = 0 })

pub record PathRefusals : Type 0 where
  -- opening a path: 19, 7, 8, 12, 14 (29 and 30: SetupCalls, check_examples); no 10
  pub opens : next [] (opening_path 255 0 house) ≡ accepted
  pub reserved_bit : next [] (opening_path 256 0 (house_set 0xD3E8 0x4000 0x4200)) ≡ refused 19
  pub vpi_over : next [] (opening_path 256 (latest_time + 1) house) ≡ refused 7
  pub late : next opened_path (opening_path 1 (latest_time + 1) house) ≡ refused 8
  pub again : next opened_path (opening_path 1 4 house) ≡ refused 12
  pub earlier : next opened_path (opening_path 2 4 house) ≡ refused 14
  -- a channel is not opened on VCI 6, nor on a member's pair: 27 after 8 and before 14
  pub not_on_six : next [] (opening 1 6 0 house) ≡ refused 10
  pub late_on_member : next full (opening 1 40 (latest_time + 1) house) ≡ refused 8
  pub on_member : next full (opening 1 40 4 house) ≡ refused 27
  pub on_channel : next full (opening 1 33 4 house) ≡ refused 12
  -- adding: 10, 11, 12, 27; a pair out of the ranges is none
  pub low : next [] (adding 256 31) ≡ refused 10
  pub no_path : next opened_path (adding 2 32) ≡ refused 11
  pub channel_without_path : next (opening 2 33 0 house ∷ []) (adding 2 33) ≡ refused 11
  pub added_vpi_over : next opened_path (adding 256 32) ≡ refused 11
  pub added_vci_over : next opened_path (adding 1 65_536) ≡ refused 11
  pub channel : next full (adding 1 33) ≡ refused 12
  pub twice : next full (adding 1 40) ≡ refused 27
  pub added : next full (adding 1 65_535) ≡ accepted
  -- a member's offer: 11, 28, and 15, which looks at that member alone; a VCI out of its range is no member
  pub offer_no_path : next full (offering_member 2 40 1) ≡ refused 11
  pub offer_vpi_over : next full (offering_member 257 40 1) ≡ refused 11
  pub offer_vci_over_no_path : next full (offering_member 2 65_576 1) ≡ refused 11
  pub offer_vci_over : next full (offering_member 1 65_576 1) ≡ refused 28
  pub offer_no_member : next full (offering_member 1 41 65_536) ≡ refused 28
  pub offer_on_six : next full (offering_member 1 6 1) ≡ refused 28
  pub overfull : next full (offering_member 1 40 1) ≡ refused 15
  pub beside : next full (offering_member 1 50 65_535) ≡ accepted
  -- removing: 11, 28
  pub remove_no_path : next full (removing 2 40) ≡ refused 11
  pub remove_vpi_over : next full (removing 257 40) ≡ refused 11
  pub remove_vci_over_no_path : next full (removing 2 65_576) ≡ refused 11
  pub remove_vci_over : next full (removing 1 65_576) ≡ refused 28
  pub remove_no_member : next full (removing 1 33) ≡ refused 28
  pub removed : next full (removing 1 40) ≡ closed_with 65_535
  -- the plain calls meet 11 on a member's pair
  pub plain_offer : next full (offering 1 40 1) ≡ refused 11
  pub plain_close : next full (closing 1 40) ≡ refused 11
  pub plain_make : next full (making 1 40 5) ≡ refused 11
  pub plain_out_of_rate : next full (out_of_rate 1 40 5 53) ≡ refused 11
  pub plain_acr : acr_of (final empty full) (address_name 1 40) ≡ NotOpen
  -- and on a path's own name work, but an offer, which meets 28
  pub own_offer : next full (offering 1 6 65_536) ≡ refused 28
  pub own_make : next full (making 1 6 5) ≡ accepted
  pub own_out_of_rate : next full (out_of_rate 1 6 5 53) ≡ accepted
  pub own_close : next full (closing 1 6) ≡ closed_with 65_535
  -- cells: an RM cell on a member's pair and a data cell on a path's own name are of no open connection
  pub member_rm : next full (receiving (rm_on_path 1 40 0 0)) ≡ refused 11
  pub path_data : next full (data_cell 1 6 1) ≡ refused 11
  pub member_data : next full (data_cell 1 40 1) ≡ accepted
  pub path_rm : next full (receiving (rm_on_path 1 6 0 0)) ≡ accepted
