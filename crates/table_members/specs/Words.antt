-- What the functions say of the members in the words of a table, and do to them. In any table, what they
-- find is a word of the members'. The rest holds for a table whose words end with those of valid
-- members. (Document 02, L13.)
use Rattle.std.specs.Prelude.{ℕ, ◌+◌, ◌%◌, ◌≤◌, ◌<◌, ◌≡◌, Bool, true, false, List, ◌++◌, ltb, length, get_or, drop, Option as CodeOption, Some, None}
use Rattle.std.proofs.Math.Option.{Option, none, some}
use Rattle.cell.specs.Name.{no_name, vci_in}
use Rattle.connection_members.specs.Path.{first_vci}
use Rattle.connection_members.specs.Members.{Member, member_capacity, is_member, cells_of, with_member, without_member, without_path, with_cells}
use Rattle.connection_members.specs.Turn.{turn, after_serving}
use Rattle.connection_members.specs.Invariant.{ValidMembers}
use Rattle.table.specs.Layout.{members_from, member_words}
use Rattle.table_members.specs.Place.{MemberAt, first_below}

-- the words of a table, which end with those of these members
pub record WithMembers (l h : List ℕ) (ms : List Member) : Type 0 where
  pub is : l ≡ h ++ member_words ms
  pub place : length h ≡ members_from
  pub valid : ValidMembers ms

abbrev pub MemberInRange : CodeOption ℕ → Type 0
MemberInRange (Some i) = i < member_capacity
MemberInRange None = Unit

abbrev pub Named : (x : ℕ) → List Member → CodeOption ℕ → Type 0
Named x ms (Some i) = MemberAt ms x i
Named x ms None = is_member x ms ≡ false

pub record FindsMember (l : List ℕ) (x : ℕ) (r : CodeOption ℕ) : Type 0 where
  pub inside : MemberInRange r
  pub is : (h : List ℕ) (ms : List Member) → WithMembers l h ms → Named x ms r

pub record CellsAt (l : List ℕ) (i r : ℕ) : Type 0 where
  pub few : r ≤ 65535
  pub is : (h : List ℕ) (ms : List Member) (x : ℕ) → WithMembers l h ms → MemberAt ms x i → r ≡ cells_of x ms

pub record HasRoom (l : List ℕ) (r : Bool) : Type 0 where
  pub is : (h : List ℕ) (ms : List Member) → WithMembers l h ms → r ≡ ltb (length ms) member_capacity

pub record SetsCells (i n : ℕ) (before after : List ℕ) : Type 0 where
  pub is : (h : List ℕ) (ms : List Member) (x : ℕ) → WithMembers before h ms → MemberAt ms x i → after ≡ h ++ member_words (with_cells x n ms)

pub record Adds (x : ℕ) (before after : List ℕ) : Type 0 where
  pub is :
      (h : List ℕ) (ms : List Member) → WithMembers before h ms → first_vci ≤ vci_in x → is_member x ms ≡ false → length ms < member_capacity
      → after ≡ h ++ member_words (with_member x ms)

pub record RemovesMember (x : ℕ) (before after : List ℕ) : Type 0 where
  pub is : (h : List ℕ) (ms : List Member) → WithMembers before h ms → is_member x ms ≡ true → after ≡ h ++ member_words (without_member x ms)

pub record RemovesPath (v : ℕ) (before after : List ℕ) : Type 0 where
  pub is : (h : List ℕ) (ms : List Member) → WithMembers before h ms → v < no_name → after ≡ h ++ member_words (without_path v ms)

-- a member with data, if one was found
abbrev pub WaitingInRange : List ℕ → CodeOption ℕ → Type 0
WaitingInRange l (Some i) = (i < member_capacity) × (0 < get_or l (members_from + i) 0 % 65536)
WaitingInRange l None = Unit

-- it is this one
pub record TurnAt (ms : List Member) (o : Option ℕ) (i : ℕ) : Type 0 where
  pub name : ℕ
  pub here : MemberAt ms name i
  pub is : o ≡ some name

abbrev pub TurnFound : List Member → Option ℕ → CodeOption ℕ → Type 0
TurnFound ms o (Some i) = TurnAt ms o i
TurnFound ms o None = o ≡ none

-- from word i on
pub record Next (l : List ℕ) (i top : ℕ) (r : CodeOption ℕ) : Type 0 where
  pub inside : WaitingInRange l r
  pub is : (h : List ℕ) (ms : List Member) → WithMembers l h ms → TurnFound ms (first_below top (drop i ms)) r

pub record Turns (l : List ℕ) (v q : ℕ) (r : CodeOption ℕ) : Type 0 where
  pub inside : WaitingInRange l r
  pub is : (h : List ℕ) (ms : List Member) → WithMembers l h ms → v < no_name → TurnFound ms (turn v q ms) r

-- a name, or 0
abbrev pub name_or_zero : Option ℕ → ℕ
name_or_zero none = 0
name_or_zero (some x) = x

pub record Serves (v q : ℕ) (before after : List ℕ) (r : ℕ) : Type 0 where
  pub is :
      (h : List ℕ) (ms : List Member) → WithMembers before h ms → v < no_name
      → (after ≡ h ++ member_words (after_serving (turn v q ms) ms)) × (r ≡ name_or_zero (turn v q ms))
