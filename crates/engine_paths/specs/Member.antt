-- A call on a member: its word among those of a table, and what is made of the path that it is a member of.
-- (Document 02, L13.)
use Rattle.std.specs.Prelude.{ℕ, ◌<◌, ◌≡◌, ◌&&◌, true, false, List, Option, Some, None}
use Rattle.cell.specs.Name.{no_name, address_fits, address_name}
use Rattle.connection_members.specs.Path.{path_vci}
use Rattle.connection_members.specs.Members.{is_member, member_capacity}
use Rattle.connection.specs.declared.parts.Connection.{Connection}
use Rattle.model.specs.State.{State}
use Rattle.model.specs.Invariant.{WellFormed}
use Rattle.model.specs.Call.{Outcome}
use Rattle.model.specs.Step.{of_member}
use Rattle.table.specs.Layout.{words}
use Rattle.table_names.specs.Finding.{Located}
use Rattle.table_members.specs.Place.{MemberAt}

-- a word, of any table: the pair makes a name
abbrev pub AddressInRange : (vpi vci : ℕ) → Option ℕ → Type 0
AddressInRange vpi vci (Some j) = (j < member_capacity) × (address_name vpi vci < no_name)
AddressInRange vpi vci None = Unit

-- of the words of a state: the member's, or that the pair is none
abbrev pub AddressNamed : (vpi vci : ℕ) → State → Option ℕ → Type 0
AddressNamed vpi vci s (Some j) = (address_fits vpi vci ≡ true) × MemberAt s.members (address_name vpi vci) j
AddressNamed vpi vci s None = (address_fits vpi vci && is_member (address_name vpi vci) s.members) ≡ false

pub record FindsAddress (l : List ℕ) (vpi vci : ℕ) (r : Option ℕ) : Type 0 where
  pub inside : AddressInRange vpi vci r
  pub is : (s : State) → WellFormed s → l ≡ words s → AddressNamed vpi vci s r

-- the path stands in entry i, the member's word in j, and the rest is what is made of the path
pub record OnPath (s : State) (vpi vci i j : ℕ) : Type 0 where
  pub located : Located s.entries (address_name vpi path_vci) i
  pub place : MemberAt s.members (address_name vpi vci) j
  pub fits : address_fits vpi vci ≡ true
  pub passes : (f : Connection → Outcome) → of_member s vpi vci f ≡ f located.holder
