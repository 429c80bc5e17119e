-- The connection of a received cell, as a caller knows it and as the definitions have it.
use Prim.Native.Nat.{ℕ}
use mathlib.Core.List.{List}
use lib.Dec.{leb}
use Rattle.laws.specs.Require.{require}
use Rattle.cell.specs.Name.{address_name}
use Rattle.cell.specs.declared.fields.Fields.{Fields}
use Rattle.cell.specs.Header.{type_of}
use Rattle.cell.specs.Fields.{fields_of, cell_name}
use Rattle.cell.specs.Read.{Reading, Refused as Unread, DataCell, RmCell}
use Rattle.cell.specs.Reading.{reading}
use Rattle.connection_members.specs.Path.{path_of}
use Rattle.connection_members.specs.Members.{owner}
use Rattle.connection.specs.declared.parts.Connection.{Connection}
use Rattle.model.specs.State.{State, taken, find}
use Rattle.model.specs.Invariant.{WellFormed}
use Rattle.exports.specs.Known.{name_in}
use Rattle.exports.specs.Returned.{connection_of}
use Rattle.exports.proofs.Returned.{Knows, open-alone}
use mathlib.Core.Path.{◌≡◌, refl, sym, ap, subst, ◌∙◌}
use Rattle.model.specs.Call.{Outcome, receiving}
use Rattle.model.specs.Step.{refuse}
use Rattle.model.specs.Run.{is_accepted}
use Rattle.model.specs.Details.{name_received, connection_received}
use Rattle.model.proofs.Effects.{Effect, refuses, receives_data, receives_rm}
use mathlib.Core.Bool.{Bool, true, false, cond, true≢false}

-- what is read of a cell has its pair
pub data Names (x : ℕ) : Reading → Type 0 where
  nothing_read : (n : ℕ) → Names x (Unread n)
  data_read : (vpi vci : ℕ) (e : Bool) → x ≡ address_name vpi vci → Names x (DataCell vpi vci e)
  rm_read : (f : Fields) → x ≡ cell_name f → Names x (RmCell f)

require-names : {x : ℕ} (n : ℕ) (b : Bool) (r : Reading) → Names x r → Names x (require (Unread n) b r)
unfolding require
require-names n true r h = h
require-names n false r h = nothing_read n

either-names : {x : ℕ} (b : Bool) (q r : Reading) → Names x q → Names x r → Names x (cond b q r)
either-names true q r h i = h
either-names false q r h i = i

pub reading-names : (o : List ℕ) → Names (name_in o) (reading o)
unfolding reading fields_of
reading-names o =
    require-names 1 _ _
    (require-names 2 _ _
    (either-names (leb (type_of o) 3) _ _ (data_read _ _ _ refl)
    (require-names 4 _ _
    (require-names 5 _ _
    (require-names 6 _ _
    (require-names 19 _ _ (rm_read (fields_of o) refl)))))))

pub data-name : {x vpi vci : ℕ} {e : Bool} → Names x (DataCell vpi vci e) → x ≡ address_name vpi vci
data-name (data_read vpi vci e h) = h

pub rm-name : {x : ℕ} {f : Fields} → Names x (RmCell f) → x ≡ cell_name f
rm-name (rm_read f h) = h

pub owner-known : (s : State) (f : ℕ → Bool) → Knows f s → (x : ℕ) → connection_of f x ≡ owner x s.members
unfolding owner
owner-known s f h x = ap (λ (b : Bool). cond b (path_of x) x) (h x)

pub open-owner : {s : State} → WellFormed s → (v : ℕ) (c : Connection) → find v s.entries ≡ taken c → owner v s.members ≡ v
unfolding owner
open-owner {s} w v c e = ap (λ (b : Bool). cond b (path_of v) v) (open-alone s w v c e)

-- of a cell that was accepted
module _ {s : State} (w : WellFormed s) (f : ℕ → Bool) (k : Knows f s) where
  pub received-connection :
      {octets : List ℕ} {p : Outcome} → Effect s (receiving octets) p → is_accepted p.answer ≡ true → connection_of f (name_in octets) ≡ connection_received (reading octets) s
  unfolding refuse is_accepted
  received-connection (refuses c n h) a = absurd (true≢false (sym a))
  received-connection (receives_data o a b e u d r i z h) g =
      owner-known s f k (name_in o) ∙ ap (λ (x : ℕ). owner x s.members) (data-name (subst (Names (name_in o)) r (reading-names o))) ∙ sym (ap (λ (x : Reading). connection_received x s) r)
  received-connection (receives_rm o c d r h) g =
      owner-known s f k (name_in o) ∙ ap (λ (x : ℕ). owner x s.members) (rm-name (subst (Names (name_in o)) r (reading-names o))) ∙ open-owner w (cell_name c) d h
      ∙ sym (ap (λ (x : Reading). connection_received x s) r)

  pub received-name : {octets : List ℕ} {p : Outcome} → Effect s (receiving octets) p → is_accepted p.answer ≡ true → name_received (reading octets) ≡ name_in octets
  unfolding refuse is_accepted
  received-name (refuses c n h) a = absurd (true≢false (sym a))
  received-name (receives_data o a b e u d r i z h) g = ap name_received r ∙ sym (data-name (subst (Names (name_in o)) r (reading-names o)))
  received-name (receives_rm o c d r h) g = ap name_received r ∙ sym (rm-name (subst (Names (name_in o)) r (reading-names o)))
