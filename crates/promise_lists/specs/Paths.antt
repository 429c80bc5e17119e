-- Paths and their members, in every table that calls make. (Document 02, L13.)
use Rattle.std.specs.Prelude.{ℕ, ◌≤◌, ◌≡◌, Bool, true, List}
use Rattle.rate_params.specs.declared.params.Params.{Params}
use Rattle.rate.specs.Units.{latest_time}
use Rattle.rate.specs.Code.{codes_clear}
use Rattle.rate_params.specs.Params.{params_fit, tbe_fits, frtt_fits}
use Rattle.cell.specs.declared.fields.Fields.{Fields}
use Rattle.cell.specs.Read.{DataCell, RmCell}
use Rattle.cell.specs.Name.{address_name}
use Rattle.cell.specs.Fields.{cell_name}
use Rattle.cell.specs.Reading.{reading}
use Rattle.connection_members.specs.Path.{path_vci}
use Rattle.connection_members.specs.Members.{is_member}
use Rattle.connection.specs.declared.parts.Connection.{Connection}
use Rattle.model.specs.State.{State, taken, empty, find}
use Rattle.model.specs.Answers.{NotOpen, NoContract}
use Rattle.model.specs.Invariant.{MembersOf}
use Rattle.model.specs.Call.{Call, opening, closing, receiving, offering, making, out_of_rate}
use Rattle.model.specs.Step.{refuse, step}
use Rattle.model.specs.Queries.{acr_of, contract_of}
use Rattle.model.specs.Run.{final}

-- what the calls for a connection do on a member's pair, which is no connection's, where no refusal that is
-- earlier in their order comes first
pub record MemberOnly (s : State) (vpi vci : ℕ) : Type 0 where
  pub opens :
      (t : ℕ) (p : Params) → codes_clear p.pcr p.mcr p.icr ≡ true → params_fit p ≡ true → tbe_fits p ≡ true → frtt_fits p ≡ true → t ≤ latest_time
      → step s (opening vpi vci t p) ≡ refuse s 27
  pub closes : step s (closing vpi vci) ≡ refuse s 11
  pub offers : (n : ℕ) → step s (offering vpi vci n) ≡ refuse s 11
  pub makes : (t : ℕ) → t ≤ latest_time → step s (making vpi vci t) ≡ refuse s 11
  pub sends_out_of_rate : (t : ℕ) → t ≤ latest_time → step s (out_of_rate vpi vci t 53) ≡ refuse s 11
  pub rm_cells : (o : List ℕ) (f : Fields) → reading o ≡ RmCell f → cell_name f ≡ address_name vpi vci → step s (receiving o) ≡ refuse s 11
  pub reads : acr_of s (address_name vpi vci) ≡ NotOpen
  pub exports : contract_of s (address_name vpi vci) ≡ NoContract

-- a path's own name takes neither data cells nor plain offers
pub record OwnName (s : State) (vpi : ℕ) : Type 0 where
  pub data_cells : (o : List ℕ) (e : Bool) → reading o ≡ DataCell vpi path_vci e → step s (receiving o) ≡ refuse s 11
  pub offers : (n : ℕ) (c : Connection) → find (address_name vpi path_vci) s.entries ≡ taken c → step s (offering vpi path_vci n) ≡ refuse s 28

-- after any list of calls from the empty table
pub record Paths : Type 0 where
  pub table : (cs : List Call) → MembersOf (final empty cs).entries (final empty cs).members
  pub members : (cs : List Call) (vpi vci : ℕ) → is_member (address_name vpi vci) (final empty cs).members ≡ true → MemberOnly (final empty cs) vpi vci
  pub names : (cs : List Call) (vpi : ℕ) → vpi ≤ 255 → OwnName (final empty cs) vpi
