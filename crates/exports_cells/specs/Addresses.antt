-- What exported calls return for a pair of numbers: open or not, a member or not, in range or not. A caller knows
-- which from the calls before and what they returned.
-- (Document 01, "Refused because of the state"; document 02, L6 and L13.)
use Rattle.std.specs.Prelude.{ℕ, ◌≤◌, ◌<◌, ◌≡◌, Bool, true, false, List}
use Rattle.std.proofs.Math.Option.{none}
use Rattle.rate_params.specs.declared.params.Params.{Params}
use Rattle.rate.specs.Units.{latest_time}
use Rattle.rate.specs.Code.{codes_clear}
use Rattle.rate_params.specs.Params.{params_fit, tbe_fits, frtt_fits}
use Rattle.rate_doubles.specs.declared.export.Exported.{Exported}
use Rattle.cell.specs.declared.fields.Fields.{Fields}
use Rattle.cell.specs.Read.{DataCell, RmCell}
use Rattle.cell.specs.Name.{address_fits, address_name}
use Rattle.cell.specs.Fields.{cell_name}
use Rattle.cell.specs.Reading.{reading}
use Rattle.connection_members.specs.Path.{path_vci}
use Rattle.model.specs.Call.{Call, opening, closing, receiving, offering, making, out_of_rate, opening_path, adding, offering_member, removing}
use Rattle.abr_answers.specs.declared.calls.AbrAllowed.{AbrAllowed}
use Rattle.abr.specs.Contract.{ReturnsAllowed, ReturnsContract}
use Rattle.abr.specs.Exports.{Observation, Performs, Transcript, final_words, zeros}
use Rattle.exports.specs.Exports.{params_observed}
use Rattle.exports.specs.Known.{Opened, KnownMember}

-- no open of the name returned 0, or a close of it since
abbrev pub NotOpened : List Call → List Observation → ℕ → Type 0
NotOpened cs os v = params_observed v none cs os ≡ none

-- an exported call on these words returns this number
abbrev pub Returns : List ℕ → Call → ℕ → Type 0
Returns l c n = (o : Observation) → Performs c l o → o.returned.refusal ≡ n

-- 11, where no refusal with an earlier place in the order comes first: 8 in a making, 1 and 8 in an out-of-rate cell
pub record UnknownAddress (l : List ℕ) (vpi vci : ℕ) : Type 0 where
  pub closes : Returns l (closing vpi vci) 11
  pub offers : (n : ℕ) → Returns l (offering vpi vci n) 11
  pub makes : (t : ℕ) → t ≤ latest_time → Returns l (making vpi vci t) 11
  pub sends_out_of_rate : (t : ℕ) → t ≤ latest_time → Returns l (out_of_rate vpi vci t 53) 11
  pub rm_cells : (octets : List ℕ) (f : Fields) → reading octets ≡ RmCell f → cell_name f ≡ address_name vpi vci → Returns l (receiving octets) 11
  pub acr : (a : AbrAllowed) → ReturnsAllowed (address_name vpi vci) l a → a.refusal ≡ 11
  pub exports : (n : ℕ) (r : Exported) → ReturnsContract (address_name vpi vci) l n r → n ≡ 11

-- the calls whose only refusal is 11 return 0
pub record KnownAddress (l : List ℕ) (vpi vci : ℕ) : Type 0 where
  pub closes : Returns l (closing vpi vci) 0
  pub acr : (a : AbrAllowed) → ReturnsAllowed (address_name vpi vci) l a → a.refusal ≡ 0
  pub exports : (n : ℕ) (r : Exported) → ReturnsContract (address_name vpi vci) l n r → n ≡ 0

-- the calls on members where the VPI has no open path: 10 comes first in adding
pub record NoPath (l : List ℕ) (vpi vci : ℕ) : Type 0 where
  pub adds : 32 ≤ vci → Returns l (adding vpi vci) 11
  pub offers : (n : ℕ) → Returns l (offering_member vpi vci n) 11
  pub removes : Returns l (removing vpi vci) 11

-- after any exported calls cs from the zero table
pub record ExportsAddresses : Type 0 where
  pub unknown : (cs : List Call) (os : List Observation) → Transcript cs zeros os → (vpi vci : ℕ) → NotOpened cs os (address_name vpi vci) → UnknownAddress (final_words zeros os) vpi vci
  pub known : (cs : List Call) (os : List Observation) → Transcript cs zeros os → (vpi vci : ℕ) → Opened cs os (address_name vpi vci) → KnownAddress (final_words zeros os) vpi vci
  -- a pair out of its ranges is not open, and 7 in an open: 10 and 19 come first
  pub out_of_range : (cs : List Call) (os : List Observation) → Transcript cs zeros os → (vpi vci : ℕ) → address_fits vpi vci ≡ false → NotOpened cs os (address_name vpi vci)
  pub opens :
      (cs : List Call) (os : List Observation) → Transcript cs zeros os → (vpi vci t : ℕ) (p : Params) → address_fits vpi vci ≡ false → 32 ≤ vci → codes_clear p.pcr p.mcr p.icr ≡ true
      → Returns (final_words zeros os) (opening vpi vci t p) 7
  pub opens_path :
      (cs : List Call) (os : List Observation) → Transcript cs zeros os → (vpi t : ℕ) (p : Params) → 255 < vpi → codes_clear p.pcr p.mcr p.icr ≡ true
      → Returns (final_words zeros os) (opening_path vpi t p) 7
  -- a member's pair is not open, and 27 in an open, where nothing else is wrong
  pub member : (cs : List Call) (os : List Observation) → Transcript cs zeros os → (vpi vci : ℕ) → KnownMember cs os (address_name vpi vci) → NotOpened cs os (address_name vpi vci)
  pub opens_member :
      (cs : List Call) (os : List Observation) → Transcript cs zeros os → (vpi vci t : ℕ) (p : Params) → KnownMember cs os (address_name vpi vci) → codes_clear p.pcr p.mcr p.icr ≡ true
      → params_fit p ≡ true → tbe_fits p ≡ true → frtt_fits p ≡ true → t ≤ latest_time → Returns (final_words zeros os) (opening vpi vci t p) 27
  -- the calls on members: 11 without an open path; 28 on an open one for a pair that is
  -- no member, in its ranges or not
  pub no_path : (cs : List Call) (os : List Observation) → Transcript cs zeros os → (vpi vci : ℕ) → NotOpened cs os (address_name vpi path_vci) → NoPath (final_words zeros os) vpi vci
  pub offers_other :
      (cs : List Call) (os : List Observation) → Transcript cs zeros os → (vpi vci n : ℕ) → Opened cs os (address_name vpi path_vci) → (KnownMember cs os (address_name vpi vci) → ⊥)
      → Returns (final_words zeros os) (offering_member vpi vci n) 28
  pub removes_other :
      (cs : List Call) (os : List Observation) → Transcript cs zeros os → (vpi vci : ℕ) → Opened cs os (address_name vpi path_vci) → (KnownMember cs os (address_name vpi vci) → ⊥)
      → Returns (final_words zeros os) (removing vpi vci) 28
  -- a path's own name takes neither data cells nor plain offers
  pub own_data :
      (cs : List Call) (os : List Observation) → Transcript cs zeros os → (vpi : ℕ) (octets : List ℕ) (e : Bool) → vpi ≤ 255 → reading octets ≡ DataCell vpi path_vci e
      → Returns (final_words zeros os) (receiving octets) 11
  pub own_offer :
      (cs : List Call) (os : List Observation) → Transcript cs zeros os → (vpi n : ℕ) → vpi ≤ 255 → Opened cs os (address_name vpi path_vci) → Returns (final_words zeros os) (offering vpi path_vci n) 28
  -- a data cell of a pair that is neither open nor a member
  pub data_unknown :
      (cs : List Call) (os : List Observation) → Transcript cs zeros os → (vpi vci : ℕ) (octets : List ℕ) (e : Bool) → reading octets ≡ DataCell vpi vci e → NotOpened cs os (address_name vpi vci)
      → (KnownMember cs os (address_name vpi vci) → ⊥) → Returns (final_words zeros os) (receiving octets) 11
