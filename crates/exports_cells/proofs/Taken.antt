-- abr_receive returns 0 exactly for an admitted cell of an open connection.
use Prim.Native.Nat.{ℕ, ◌≤◌}
use mathlib.Core.Path.{◌≡◌, refl, sym, ap, ◌∙◌}
use mathlib.Core.Bool.{Bool, true, false, true≢false}
use mathlib.Core.List.{List}
use native.Mathlib.Omega.{arith}
use borrow.Author.Tests.{eq-eqb, ne_eqb}
use Rattle.cell.specs.Read.{Reading, DataCell, RmCell}
use Rattle.cell.specs.declared.fields.Fields.{Fields}
use Rattle.cell.specs.Name.{vci_in, address_name}
use Rattle.cell.specs.Header.{vpi_of, vci_of, type_of, header_right}
use Rattle.cell.specs.Fields.{fields_of, cell_name, crc_right}
use Rattle.cell.specs.Reading.{reading}
use Rattle.cell.specs.Admitted.{Admissible, data_cell, rm_cell, Admitted}
use Rattle.cell.proofs.Admits.{taken-admitted}
use Rattle.cell.proofs.Readings.{takes-data, takes-rest, takes-fields, refusal-number}
use Rattle.connection_members.specs.Path.{is_path, path_vci, first_vci, path_of}
use Rattle.connection_members.specs.Members.{is_member, owner}
use Rattle.connection.specs.declared.parts.Connection.{Connection}
use Rattle.model.specs.State.{State, Entry, free, taken as held, is_free, empty, find}
use Rattle.model.specs.Invariant.{WellFormed}
use Rattle.model.specs.Call.{Call, receiving, Outcome}
use Rattle.model.specs.Step.{refuse, accept, replay, of_open, data_cell_step, read_step, receive_step, step}
use Rattle.model.specs.Run.{final, is_accepted}
use Rattle.model.proofs.Effects.{Effect, refuses, receives_data, receives_rm, effect}
use Rattle.promise_lists.proofs.Paths.{member-high}
use Rattle.laws.specs.Require.{require}
use Rattle.abr_answers.specs.declared.cells.AbrCell.{AbrCell}
use Rattle.abr_answers.specs.Cells.{cell_of}
use Rattle.abr.specs.Exports.{Observation, Transcript, zeros}
use Rattle.exports.specs.Known.{name_in}
use Rattle.exports_cells.specs.Taken.{ConnectionOpen, channel, member, rm, TakenExactly}
use Rattle.exports.proofs.Transport.{sees, stands, was-accepted, returned-zero}
use Rattle.exports.proofs.Known.{members-known, is_open_lem, known-open}

-- what an admitted cell is read as
data Reads (o : List ℕ) : Type 0 where
  as_data : (e : Bool) → type_of o ≤ 3 → reading o ≡ DataCell (vpi_of o) (vci_of o) e → Reads o
  as_rm : type_of o ≡ 6 → reading o ≡ RmCell (fields_of o) → Reads o

reads : (o : List ℕ) → Admitted o → Reads o
unfolding header_right crc_right
reads o h = of h.kind
  where
    of : Admissible o → Reads o
    of (data_cell t) = as_data _ t (sym (takes-data o h.size (eq-eqb _ _ h.check) t))
    of (rm_cell t w p r) = as_rm t (sym (takes-fields o (eq-eqb _ _ w) p r ∙ takes-rest o h.size (eq-eqb _ _ h.check) t))

-- the connection of a cell, in a state
data OpenIn (s : State) (o : List ℕ) : Type 0 where
  channel_in : type_of o ≤ 3 → is_path (name_in o) ≡ false → is_free (find (name_in o) s.entries) ≡ false → OpenIn s o
  member_in : type_of o ≤ 3 → is_member (name_in o) s.members ≡ true → is_free (find (path_of (name_in o)) s.entries) ≡ false → OpenIn s o
  rm_in : type_of o ≡ 6 → is_free (find (name_in o) s.entries) ≡ false → OpenIn s o

held-open : {x : Entry} {d : Connection} → x ≡ held d → is_free x ≡ false
unfolding is_free
held-open e = ap is_free e

-- an accepted cell
data-open :
    (s : State) (o : List ℕ) (d : Connection) → type_of o ≤ 3 → is_path (name_in o) ≡ false → find (owner (name_in o) s.members) s.entries ≡ held d → OpenIn s o
unfolding owner
data-open s o d t i f = go (is_member (name_in o) s.members) refl f
  where
    go : (b : Bool) → is_member (name_in o) s.members ≡ b → find (owner (name_in o) s.members) s.entries ≡ held d → OpenIn s o
    go true m f = member_in t m (held-open (rw m at f))
    go false m f = channel_in t i (held-open (rw m at f))

same_name : (o : List ℕ) (f : Fields) → fields_of o ≡ f → name_in o ≡ cell_name f
unfolding fields_of
same_name o f e = ap cell_name e

effect-open : {s : State} {o : List ℕ} {p : Outcome} → Effect s (receiving o) p → is_accepted p.answer ≡ true → Admitted o × OpenIn s o
unfolding refuse is_accepted
effect-open (refuses _ n h) a = absurd (true≢false (sym a))
effect-open {s} (receives_data o vpi vci e u d r i z f) a = (admitted, of (reads o admitted))
  where
    admitted : Admitted o
    admitted = taken-admitted o (λ n q. let z : ◌≡◌ {A = ℕ} 0 1 = cc in omega arith)

    of : Reads o → OpenIn s o
    of (as_data b t q) = let x : name_in o ≡ address_name vpi vci = cc in data-open s o d t (rw x i) (rw x (ap (λ (y : ℕ). find y s.entries) z ∙ f))
    of (as_rm t q) = let z : ◌≡◌ {A = ℕ} 0 1 = cc in absurd (omega arith)
effect-open {s} (receives_rm o g d r f) a = (admitted, of (reads o admitted))
  where
    admitted : Admitted o
    admitted = taken-admitted o (λ n q. let z : ◌≡◌ {A = ℕ} 0 1 = cc in omega arith)

    of : Reads o → OpenIn s o
    of (as_data b t q) = let z : ◌≡◌ {A = ℕ} 0 1 = cc in absurd (omega arith)
    of (as_rm t q) = rm_in t (held-open (ap (λ (y : ℕ). find y s.entries) (same_name o g (cc)) ∙ f))

-- a cell that is not refused
pub open-accepted : (s : State) (x : Entry) (f : Connection → Outcome) → is_free x ≡ false → ((d : Connection) → is_accepted (f d).answer ≡ true) → is_accepted (of_open s x f).answer ≡ true
unfolding of_open is_free
open-accepted s free f e h = absurd (true≢false e)
open-accepted s (held d) f e h = h d

data-accepted :
    (s : State) (o : List ℕ) (e : Bool) → reading o ≡ DataCell (vpi_of o) (vci_of o) e → is_path (name_in o) ≡ false → is_free (find (owner (name_in o) s.members) s.entries) ≡ false
    → is_accepted (step s (receiving o)).answer ≡ true
unfolding step receive_step read_step data_cell_step require accept replay is_accepted
data-accepted s o e r i f = rw (r, i) (open-accepted s _ _ f (λ d. refl))

rm-accepted :
    (s : State) (o : List ℕ) → reading o ≡ RmCell (fields_of o) → is_free (find (name_in o) s.entries) ≡ false → is_accepted (step s (receiving o)).answer ≡ true
unfolding step receive_step read_step accept replay is_accepted fields_of
rm-accepted s o r f = rw r (open-accepted s _ _ f (λ d. refl))

-- a member's name is no path's, and an open one is no member's
pub member-channel : {s : State} → WellFormed s → (x : ℕ) → is_member x s.members ≡ true → is_path x ≡ false
unfolding is_path
member-channel w x m = let h : first_vci ≤ vci_in x = member-high w x m in ne_eqb (vci_in x) path_vci (λ e. omega (arith, h, e))

pub open-no-member : {s : State} → WellFormed s → (x : ℕ) → is_free (find x s.entries) ≡ false → is_member x s.members ≡ false
open-no-member {s} w x f = go (is_member x s.members) refl
  where
    go : (b : Bool) → is_member x s.members ≡ b → b ≡ false
    go true m = sym (w.members.no_channel x m) ∙ f
    go false m = refl

open-taken : {s : State} → WellFormed s → (o : List ℕ) → Admitted o → OpenIn s o → is_accepted (step s (receiving o)).answer ≡ true
unfolding owner
open-taken {s} w o a h = of (reads o a) h
  where
    of : Reads o → OpenIn s o → is_accepted (step s (receiving o)).answer ≡ true
    of (as_data e t r) (channel_in u i f) = data-accepted s o e r i (rw (open-no-member w (name_in o) f) f)
    of (as_data e t r) (member_in u m f) = data-accepted s o e r (member-channel w (name_in o) m) (rw m f)
    of (as_data e t r) (rm_in u f) = absurd (omega (arith, t, u))
    of (as_rm t r) (channel_in u i f) = absurd (omega (arith, t, u))
    of (as_rm t r) (member_in u m f) = absurd (omega (arith, t, u))
    of (as_rm t r) (rm_in u f) = rm-accepted s o r f

-- As a caller knows it.
module _ (cs : List Call) (os : List Observation) (t : Transcript cs zeros os) (o : List ℕ) where
  seen : OpenIn (final empty cs) o → ConnectionOpen cs os o
  seen (channel_in k i f) = channel k i (known-open cs os t (name_in o) f)
  seen (member_in k m f) = member k (members-known cs os t (name_in o) ∙ m) (known-open cs os t (path_of (name_in o)) f)
  seen (rm_in k f) = rm k (known-open cs os t (name_in o) f)

  known : ConnectionOpen cs os o → OpenIn (final empty cs) o
  known (channel k i h) = channel_in k i (is_open_lem cs os t (name_in o) h)
  known (member k m h) = member_in k (sym (members-known cs os t (name_in o)) ∙ m) (is_open_lem cs os t (path_of (name_in o)) h)
  known (rm k h) = rm_in k (is_open_lem cs os t (name_in o) h)

-- abr_read
read-zero : (o : List ℕ) → Reads o → (cell_of (reading o)).refusal ≡ 0
read-zero o (as_data e t q) = ap (λ (x : Reading). (cell_of x).refusal) q
read-zero o (as_rm t q) = ap (λ (x : Reading). (cell_of x).refusal) q

pub taken-exactly : TakenExactly
taken-exactly = record {
  taken = λ cs os t octets o p z.
      let y = sees (stands cs os t) p in
      let h = effect-open (effect (final empty cs) y.well_formed.unique (receiving octets)) (was-accepted y z) in
      (h.0, seen cs os t octets h.1);
  takes = λ cs os t octets o p a h. let y = sees (stands cs os t) p in returned-zero y (open-taken y.well_formed octets a (known cs os t octets h));
  read = λ octets r e z. taken-admitted octets (λ n q.
      let y : r.refusal ≡ n = ap (λ (x : AbrCell). x.refusal) (e ∙ ap cell_of q) in
      omega (arith, refusal-number octets n q, y, z));
  reads = λ octets r e a. ap (λ (x : AbrCell). x.refusal) e ∙ read-zero octets (reads octets a);
  members = λ cs os t x m.
      let w = (stands cs os t).well_formed in
      let i : is_member x (final empty cs).members ≡ true = sym (members-known cs os t x) ∙ m in
      (known-open cs os t (path_of x) (w.members.on_open_path x i), λ h. true≢false (sym i ∙ open-no-member w x (is_open_lem cs os t x h)));
}
