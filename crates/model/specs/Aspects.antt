-- What a call is about: each aspect that several definitions look at stands here once.
-- A definition that goes by an aspect needs no line for a new call.
use Rattle.std.specs.Prelude.{ℕ, List}
use Rattle.std.proofs.Math.Option.{Option, none, some}
use Rattle.rate_params.specs.declared.params.Params.{Params}
use Rattle.cell.specs.Name.{address_name}
use Rattle.connection_members.specs.Path.{path_vci, path_of}
use Rattle.model.specs.Call.{Call, opening, closing, receiving, offering, levelling, slot, making, out_of_rate, opening_path, adding, offering_member, removing}

-- it opens a connection, of a channel or of a path, closes one, receives a cell, or is a slot
pub data Sort : Type 0 where
  opener : (name time : ℕ) → Params → Sort
  closer : (name : ℕ) → Sort
  arrival : (octets : List ℕ) → Sort
  slot_at : (time : ℕ) → Sort
  another : Sort

abbrev pub sort_of : Call → Sort
sort_of (opening vpi vci t p) = opener (address_name vpi vci) t p
sort_of (closing vpi vci) = closer (address_name vpi vci)
sort_of (receiving o) = arrival o
sort_of (offering vpi vci n) = another
sort_of (levelling l) = another
sort_of (slot t room) = slot_at t
sort_of (making vpi vci t) = another
sort_of (out_of_rate vpi vci t room) = another
sort_of (opening_path vpi t p) = opener (address_name vpi path_vci) t p
sort_of (adding vpi vci) = another
sort_of (offering_member vpi vci n) = another
sort_of (removing vpi vci) = another

-- the time that it is called with
abbrev pub time_of : Call → Option ℕ
time_of (opening vpi vci t p) = some t
time_of (closing vpi vci) = none
time_of (receiving o) = none
time_of (offering vpi vci n) = none
time_of (levelling l) = none
time_of (slot t room) = some t
time_of (making vpi vci t) = some t
time_of (out_of_rate vpi vci t room) = some t
time_of (opening_path vpi t p) = some t
time_of (adding vpi vci) = none
time_of (offering_member vpi vci n) = none
time_of (removing vpi vci) = none

-- the buffer that it is lent, for the cell of a slot or for an out-of-rate cell of this name
pub data Lent : Type 0 where
  for_slot : (time : ℕ) → Lent
  for_out_of_rate : (name : ℕ) → Lent
  not_lent : Lent

abbrev pub lent_of : Call → Lent
lent_of (opening vpi vci t p) = not_lent
lent_of (closing vpi vci) = not_lent
lent_of (receiving o) = not_lent
lent_of (offering vpi vci n) = not_lent
lent_of (levelling l) = not_lent
lent_of (slot t room) = for_slot t
lent_of (making vpi vci t) = not_lent
lent_of (out_of_rate vpi vci t room) = for_out_of_rate (address_name vpi vci)
lent_of (opening_path vpi t p) = not_lent
lent_of (adding vpi vci) = not_lent
lent_of (offering_member vpi vci n) = not_lent
lent_of (removing vpi vci) = not_lent

-- the cells that it offers, with the connection that they will wait on
pub record OfferedCells : Type 0 where
  pub connection : ℕ
  pub cells : ℕ

abbrev pub offer_of : Call → Option OfferedCells
offer_of (opening vpi vci t p) = none
offer_of (closing vpi vci) = none
offer_of (receiving o) = none
offer_of (offering vpi vci n) = some (record { connection = address_name vpi vci; cells = n })
offer_of (levelling l) = none
offer_of (slot t room) = none
offer_of (making vpi vci t) = none
offer_of (out_of_rate vpi vci t room) = none
offer_of (opening_path vpi t p) = none
offer_of (adding vpi vci) = none
offer_of (offering_member vpi vci n) = some (record { connection = path_of (address_name vpi vci); cells = n })
offer_of (removing vpi vci) = none

-- the members of paths that it is about: all of a path that it closes; one that it adds, offers to or removes;
-- the one that a slot serves
pub data OnMembers : Type 0 where
  of_closed : (path : ℕ) → OnMembers
  of_added : (name : ℕ) → OnMembers
  of_offered : (name cells : ℕ) → OnMembers
  of_removed : (name : ℕ) → OnMembers
  of_slot : OnMembers
  of_none : OnMembers

abbrev pub members_of : Call → OnMembers
members_of (opening vpi vci t p) = of_none
members_of (closing vpi vci) = of_closed (address_name vpi vci)
members_of (receiving o) = of_none
members_of (offering vpi vci n) = of_none
members_of (levelling l) = of_none
members_of (slot t room) = of_slot
members_of (making vpi vci t) = of_none
members_of (out_of_rate vpi vci t room) = of_none
members_of (opening_path vpi t p) = of_none
members_of (adding vpi vci) = of_added (address_name vpi vci)
members_of (offering_member vpi vci n) = of_offered (address_name vpi vci) n
members_of (removing vpi vci) = of_removed (address_name vpi vci)

-- the connection whose waiting data cells it discards, all of them or those of a member
abbrev pub discards_from : OnMembers → Option ℕ
discards_from (of_closed v) = some v
discards_from (of_added x) = none
discards_from (of_offered x n) = none
discards_from (of_removed x) = some (path_of x)
discards_from of_slot = none
discards_from of_none = none

-- the one connection that it names, or that is named in a received cell or by a slot's answer
pub data Subject : Type 0 where
  by_name : (name : ℕ) → Subject
  in_cell : (octets : List ℕ) → Subject
  in_answer : Subject
  no_subject : Subject

abbrev pub subject_of : Call → Subject
subject_of (opening vpi vci t p) = by_name (address_name vpi vci)
subject_of (closing vpi vci) = by_name (address_name vpi vci)
subject_of (receiving o) = in_cell o
subject_of (offering vpi vci n) = by_name (address_name vpi vci)
subject_of (levelling l) = no_subject
subject_of (slot t room) = in_answer
subject_of (making vpi vci t) = by_name (address_name vpi vci)
subject_of (out_of_rate vpi vci t room) = by_name (address_name vpi vci)
subject_of (opening_path vpi t p) = by_name (address_name vpi path_vci)
subject_of (adding vpi vci) = no_subject
subject_of (offering_member vpi vci n) = by_name (path_of (address_name vpi vci))
subject_of (removing vpi vci) = by_name (path_of (address_name vpi vci))

-- the connection that it asks a cell of besides its slots, with the time: a made one that will wait, or one out of rate
pub data Asked : Type 0 where
  asks_made : (name time : ℕ) → Asked
  asks_out_of_rate : (name time : ℕ) → Asked
  asks_none : Asked

abbrev pub asked_of : Call → Asked
asked_of (opening vpi vci t p) = asks_none
asked_of (closing vpi vci) = asks_none
asked_of (receiving o) = asks_none
asked_of (offering vpi vci n) = asks_none
asked_of (levelling l) = asks_none
asked_of (slot t room) = asks_none
asked_of (making vpi vci t) = asks_made (address_name vpi vci) t
asked_of (out_of_rate vpi vci t room) = asks_out_of_rate (address_name vpi vci) t
asked_of (opening_path vpi t p) = asks_none
asked_of (adding vpi vci) = asks_none
asked_of (offering_member vpi vci n) = asks_none
asked_of (removing vpi vci) = asks_none
