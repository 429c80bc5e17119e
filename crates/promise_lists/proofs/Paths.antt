-- What the calls do on a member's pair and on a path's own name.
use Prim.Native.Nat.{ℕ, ◌≤◌, ◌<◌}
use mathlib.Core.Path.{◌≡◌, ap}
use mathlib.Core.Bool.{Bool, true}
use mathlib.Core.List.{List}
use native.Mathlib.Omega.{arith}
use borrow.Author.Tests.{le-leb}
use Rattle.rate_params.specs.declared.params.Params.{Params}
use Rattle.rate.specs.Units.{latest_time}
use Rattle.rate.specs.Code.{codes_clear}
use Rattle.rate_params.specs.Params.{params_fit, tbe_fits, frtt_fits}
use Rattle.cell.specs.declared.fields.Fields.{Fields}
use Rattle.cell.specs.Read.{DataCell, RmCell}
use Rattle.cell.specs.Name.{vci_in, no_name, address_name}
use Rattle.cell.specs.Fields.{cell_name}
use Rattle.cell.specs.Reading.{reading}
use Rattle.cell.proofs.Names.{Named, address-named}
use Rattle.connection_members.specs.Path.{path_vci, first_vci, is_path}
use Rattle.connection_members.specs.Members.{is_member}
use Rattle.connection_members.specs.Invariant.{ValidMember}
use Rattle.connection_members.proofs.Lists.{all_map, all_named}
use Rattle.connection.specs.declared.parts.Connection.{Connection}
use Rattle.model.specs.State.{State, free, taken, is_free, empty, find}
use Rattle.model.specs.Invariant.{WellFormed}
use Rattle.model.specs.Call.{receiving}
use Rattle.model.specs.Step.{refuse, of_open, open_address, open_step, offer_step, data_cell_step, read_step, receive_step, step}
use Rattle.model.specs.Queries.{entry_acr, acr_of, entry_contract, contract_of}
use Rattle.model.specs.Run.{final}
use Rattle.model.proofs.Effects.{is_free_lem, path-is}
use Rattle.model.proofs.Reached.{reached-well-formed}
use Rattle.promise_lists.specs.Paths.{MemberOnly, OwnName, Paths}
use Rattle.promise_lists.proofs.NotOpen.{close-out, offer-out, make-out, out-of-rate-out}
use Rattle.laws.specs.Require.{require}

-- a member's name has 24 bits, and its VCI is 32 or more
member-named : {s : State} → WellFormed s → (vpi vci : ℕ) → is_member (address_name vpi vci) s.members ≡ true → Named vpi vci (address_name vpi vci)
member-named {s} w vpi vci e =
    address-named vpi vci (all_named (λ x. x < no_name) (address_name vpi vci) s.members (all_map ValidMember (λ m. m.name < no_name) (λ m h. h.coded) s.members w.members.valid.each) e)

pub member-high : {s : State} → WellFormed s → (x : ℕ) → is_member x s.members ≡ true → first_vci ≤ vci_in x
member-high {s} w x e =
    all_named (λ y. first_vci ≤ vci_in y) x s.members (all_map ValidMember (λ m. first_vci ≤ vci_in m.name) (λ m h. h.high) s.members w.members.valid.each) e

module _ (s : State) (vpi vci : ℕ) (f : find (address_name vpi vci) s.entries ≡ free) where
  member-open :
      (t : ℕ) (p : Params) → vpi ≤ 255 → vci ≤ 65535 → first_vci ≤ vci → codes_clear p.pcr p.mcr p.icr ≡ true → params_fit p ≡ true → tbe_fits p ≡ true → frtt_fits p ≡ true → t ≤ latest_time
      → is_member (address_name vpi vci) s.members ≡ true → open_step s vpi vci t p ≡ refuse s 27
  unfolding open_step open_address require is_free
  member-open t p a b low clear fit tbe frtt until e = rw (le-leb first_vci vci low, clear, le-leb vpi 255 a, le-leb vci 65535 b, fit, tbe, frtt, le-leb t latest_time until, f, e)

  member-rm : (o : List ℕ) (g : Fields) → reading o ≡ RmCell g → cell_name g ≡ address_name vpi vci → step s (receiving o) ≡ refuse s 11
  unfolding step receive_step read_step of_open
  member-rm o g r n = rw (r, n, f)

member-only :
    (s : State) → WellFormed s → (vpi vci : ℕ) → find (address_name vpi vci) s.entries ≡ free → is_member (address_name vpi vci) s.members ≡ true → MemberOnly s vpi vci
unfolding step acr_of entry_acr contract_of entry_contract
member-only s w vpi vci f e =
    let n = member-named w vpi vci e in
    record {
      opens = λ t p clear fit tbe frtt until. member-open s vpi vci f t p n.vpi_fits n.vci_fits (omega (arith, member-high w (address_name vpi vci) e, n.vci_back)) clear fit tbe frtt until e;
      closes = close-out s vpi vci f;
      offers = offer-out s vpi vci f;
      makes = make-out s vpi vci f;
      sends_out_of_rate = out-of-rate-out s vpi vci f;
      rm_cells = member-rm s vpi vci f;
      reads = ap entry_acr f;
      exports = ap entry_contract f;
    }

own-data : (s : State) (vpi : ℕ) → is_path (address_name vpi path_vci) ≡ true → (o : List ℕ) (e : Bool) → reading o ≡ DataCell vpi path_vci e → step s (receiving o) ≡ refuse s 11
unfolding step receive_step read_step data_cell_step require
own-data s vpi p o e r = rw (r, p)

own-offer :
    (s : State) (vpi : ℕ) → is_path (address_name vpi path_vci) ≡ true → (n : ℕ) (c : Connection) → find (address_name vpi path_vci) s.entries ≡ taken c
    → offer_step s (address_name vpi path_vci) n ≡ refuse s 28
unfolding offer_step of_open require
own-offer s vpi p n c f = rw (f, p)

own_name : (s : State) (vpi : ℕ) → is_path (address_name vpi path_vci) ≡ true → OwnName s vpi
unfolding step
own_name s vpi p = record { data_cells = λ o e r. own-data s vpi p o e r; offers = λ n c f. own-offer s vpi p n c f }

pub paths : Paths
paths = record {
  table = λ cs. (reached-well-formed cs).members;
  members = λ cs vpi vci e. let w = reached-well-formed cs in member-only (final empty cs) w vpi vci (is_free_lem _ (w.members.no_channel (address_name vpi vci) e)) e;
  names = λ cs vpi h. own_name (final empty cs) vpi (path-is vpi h);
}
