-- What a call can do to a table, and what is then known. One walk through the refusals of each call serves
-- every theorem about one table.
use Prim.Native.Nat.{ℕ, ◌<◌, ◌+◌, ◌≤◌}
use mathlib.Core.Path.{◌≡◌, refl, sym, ap, ◌∙◌}
use mathlib.Core.Bool.{Bool, true, false, ◌&&◌, true≢false}
use mathlib.Core.List.{List}
use native.Mathlib.Omega.{arith}
use lib.Dec.{leb, T, lit<, ltb}
use lib.ListN.{length}
use borrow.Author.Tests.{leb-true, ltb-true, eq-eqb, not-true}
use Rattle.rate_params.specs.declared.params.Params.{Params}
use Rattle.rate.specs.Units.{latest_time}
use Rattle.rate_params.specs.Params.{params_fit, tbe_fits, frtt_fits}
use Rattle.cell.specs.declared.fields.Fields.{Fields}
use Rattle.cell.specs.Read.{Reading, Refused as Unread, DataCell, RmCell}
use Rattle.cell.specs.Name.{vci_in, no_name, address_fits, address_name}
use Rattle.cell.specs.Fields.{cell_name}
use Rattle.cell.specs.Reading.{reading}
use Rattle.cell.proofs.Names.{name-lt, Named, address-named}
use Rattle.cell.proofs.Readings.{refusal-number}
use Rattle.connection_members.specs.Path.{is_path, path_vci, first_vci, path_of}
use Rattle.connection_members.specs.Members.{member_capacity, is_member, cells_of, with_member, without_path, owner}
use Rattle.connection_members.proofs.Names.{path-of-address}
use Rattle.connection.specs.declared.parts.Connection.{Connection}
use Rattle.connection.specs.Parts.{fresh, waiting}
use Rattle.connection.specs.Interval.{rested}
use Rattle.connection.specs.Source.{offered}
use Rattle.connection.specs.Destination.{with_made, after_data_cell}
use Rattle.connection.specs.Received.{after_rm_cell}
use Rattle.connection.specs.Kind.{kind_at}
use Rattle.model.specs.State.{State, Entry, free, taken, position, is_free, find, leaf_of, with_entry_of, with_opened, room_left, with_time, with_level, with_members}
use Rattle.model.specs.Invariant.{NamesUnique}
use Rattle.model.specs.Winner.{Winner, none_ready, wins, winner, Chosen, Best}
use Rattle.model.proofs.Winners.{winner-best}
use Rattle.model.specs.Call.{Call, opening, closing, receiving, offering, levelling, slot, making, out_of_rate, opening_path, adding, offering_member, removing, Outcome}
use Rattle.model.specs.Step.{refuse, accept, replay, discard, of_open, open_address, open_step, open_path_step, close_step, offer_step, with_offer, without_one, add_step, of_member, offer_member_step, remove_step, data_cell_step, read_step, receive_step, level_step, send_step, idle_step, serve_entry, serve, slot_step, make_step, send_out_of_rate, out_of_rate_step, step}
use Rattle.laws.specs.Require.{require}
use Rattle.laws.proofs.Tests.{both}

-- an instant that does not lie before the last accepted one
pub record Timely (s : State) (t : ℕ) : Type 0 where
  pub since : s.last ≤ t
  pub until : t ≤ latest_time

-- what an open of a name has passed
pub record OpenPassed (s : State) (u t : ℕ) (p : Params) : Type 0 where
  pub assigned : is_path u ≡ false → first_vci ≤ vci_in u
  pub coded : u < no_name
  pub fits : params_fit p ≡ true
  pub tbe : tbe_fits p ≡ true
  pub frtt : frtt_fits p ≡ true
  pub new : find u s.entries ≡ free
  pub no_member : is_member u s.members ≡ false
  pub room : room_left s ≡ true
  pub timely : Timely s t

-- what the adding of a member has passed
pub record AddPassed (s : State) (b x : ℕ) : Type 0 where
  pub high : first_vci ≤ b
  pub no_channel : find x s.entries ≡ free
  pub no_member : is_member x s.members ≡ false
  pub room : length s.members < member_capacity

pub data Effect (s : State) : Call → Outcome → Type 0 where
  refuses : (c : Call) (n : ℕ) → 0 < n → Effect s c (refuse s n)
  opens :
      (a b t : ℕ) (p : Params) → OpenPassed s (address_name a b) t p
      → Effect s (opening a b t p) (replay (position is_free s.entries) s (with_time t (with_opened (fresh (address_name a b) t p) s)))
  closes :
      (a b : ℕ) (d : Connection) → find (address_name a b) s.entries ≡ taken d
      → Effect s (closing a b) (discard (waiting d.queue) (leaf_of (address_name a b) s) s (with_members (without_path (address_name a b) s.members) (with_entry_of (address_name a b) free s)))
  offers :
      (a b n : ℕ) (d : Connection) → find (address_name a b) s.entries ≡ taken d → is_path (address_name a b) ≡ false → waiting d.queue + n ≤ 65535
      → Effect s (offering a b n) (replay (leaf_of (address_name a b) s) s (with_entry_of (address_name a b) (taken (offered n d)) s))
  receives_data :
      (o : List ℕ) (a b : ℕ) (e : Bool) (u : ℕ) (d : Connection) → reading o ≡ DataCell a b e → is_path (address_name a b) ≡ false
      → owner (address_name a b) s.members ≡ u → find u s.entries ≡ taken d
      → Effect s (receiving o) (replay (leaf_of u s) s (with_entry_of u (taken (after_data_cell e d)) s))
  receives_rm :
      (o : List ℕ) (f : Fields) (d : Connection) → reading o ≡ RmCell f → find (cell_name f) s.entries ≡ taken d
      → Effect s (receiving o) (replay (leaf_of (cell_name f) s) s (with_entry_of (cell_name f) (taken (after_rm_cell s.level o f d)) s))
  sets_level : (l : ℕ) → l ≤ 2 → Effect s (levelling l) (accept 0 (with_level l s))
  idles : (t room : ℕ) → Timely s t → Best t s.entries none_ready → Effect s (slot t room) (idle_step (with_time t s))
  sends :
      (t room i u : ℕ) → Timely s t → (b : Chosen t i u s.entries)
      → Effect s (slot t room) (send_step (with_time t s) t u b.holder (kind_at t b.holder))
  makes :
      (a b t : ℕ) (d : Connection) → find (address_name a b) s.entries ≡ taken d → Timely s t → 0 < s.level → rested t d.destination.made.last ≡ true
      → Effect s (making a b t) (replay (leaf_of (address_name a b) s) s (with_entry_of (address_name a b) (taken (with_made t s.level d)) (with_time t s)))
  sends_out_of_rate :
      (a b t room : ℕ) (d : Connection) → find (address_name a b) s.entries ≡ taken d → Timely s t → rested t d.out_of_rate ≡ true
      → Effect s (out_of_rate a b t room) (send_out_of_rate (with_time t s) t (address_name a b) d)
  opens_path :
      (a t : ℕ) (p : Params) → OpenPassed s (address_name a path_vci) t p
      → Effect s (opening_path a t p) (replay (position is_free s.entries) s (with_time t (with_opened (fresh (address_name a path_vci) t p) s)))
  adds :
      (a b : ℕ) (d : Connection) → find (path_of (address_name a b)) s.entries ≡ taken d → AddPassed s b (address_name a b)
      → Effect s (adding a b) (accept 0 (with_members (with_member (address_name a b) s.members) s))
  offers_member :
      (a b n : ℕ) (d : Connection) → find (path_of (address_name a b)) s.entries ≡ taken d → is_member (address_name a b) s.members ≡ true
      → cells_of (address_name a b) s.members + n ≤ 65535
      → Effect s (offering_member a b n) (replay (leaf_of (path_of (address_name a b)) s) s (with_offer (address_name a b) n d s))
  removes :
      (a b : ℕ) (d : Connection) → find (path_of (address_name a b)) s.entries ≡ taken d → is_member (address_name a b) s.members ≡ true
      → Effect s (removing a b) (discard (cells_of (address_name a b) s.members) (leaf_of (path_of (address_name a b)) s) s (without_one (address_name a b) d s))

module _ {s : State} (c : Call) where
  require-effect : (n : ℕ) → T (ltb 0 n) → (t : Bool) (o : Outcome) → (t ≡ true → Effect s c o) → Effect s c (require (refuse s n) t o)
  unfolding require
  require-effect n p true o h = h refl
  require-effect n p false o h = refuses c n (lit< p)

  of_open-effect :
      (x : Entry) (f : Connection → Outcome) → ((d : Connection) → x ≡ taken d → Effect s c (f d)) → Effect s c (of_open s x f)
  unfolding of_open
  of_open-effect free f h = refuses c 11 (lit< tt)
  of_open-effect (taken d) f h = h d refl

timely : (s : State) (t : ℕ) → leb s.last t ≡ true → leb t latest_time ≡ true → Timely s t
timely s t a b = record { since = leb-true _ _ a; until = leb-true _ _ b }

pub is_free_lem : (x : Entry) → is_free x ≡ true → x ≡ free
unfolding is_free
is_free_lem free e = refl
is_free_lem (taken c) e = cc

-- what every open has passed, if its VCI is assigned
open-address-effect :
    (s : State) (c : Call) (a b t : ℕ) (p : Params) → (a ≤ 255 → is_path (address_name a b) ≡ false → first_vci ≤ b)
    → (OpenPassed s (address_name a b) t p → Effect s c (replay (position is_free s.entries) s (with_time t (with_opened (fresh (address_name a b) t p) s))))
    → Effect s c (open_address s a b t p)
unfolding open_address
open-address-effect s c a b t p assigned f =
    require-effect c 19 tt _ _ λ clear.
    require-effect c 7 tt _ _ λ fit.
    require-effect c 29 tt _ _ λ tbe.
    require-effect c 30 tt _ _ λ frtt.
    require-effect c 8 tt _ _ λ until.
    require-effect c 12 tt _ _ λ new.
    require-effect c 27 tt _ _ λ no_member.
    require-effect c 13 tt _ _ λ room.
    require-effect c 14 tt _ _ λ since.
    f (record {
      assigned = λ i. omega (arith, assigned (ranges fit).0 i, (named fit).vci_back);
      coded = in-range fit;
      fits = (both (address_fits a b) (params_fit p) fit).1;
      tbe = tbe;
      frtt = frtt;
      new = is_free_lem (find (address_name a b) s.entries) new;
      no_member = not-true _ no_member;
      room = room;
      timely = timely s t since until;
    })
  where
    ranges : (address_fits a b && params_fit p) ≡ true → (a ≤ 255) × (b ≤ 65535)
    ranges fit = let z = both (leb a 255) (leb b 65535) (both (address_fits a b) (params_fit p) fit).0 in (leb-true _ _ z.0, leb-true _ _ z.1)

    in-range : (address_fits a b && params_fit p) ≡ true → address_name a b < no_name
    in-range fit = name-lt a b (ranges fit).0 (ranges fit).1

    named : (address_fits a b && params_fit p) ≡ true → Named a b (address_name a b)
    named fit = address-named a b (in-range fit)

open-effect : (s : State) (a b t : ℕ) (p : Params) → Effect s (opening a b t p) (open_step s a b t p)
unfolding open_step
open-effect s a b t p =
    require-effect (opening a b t p) 10 tt _ _ λ low.
    open-address-effect s (opening a b t p) a b t p (λ _ _. leb-true first_vci b low) (opens a b t p)

-- a VPI of eight bits makes a path's name
pub path-is : (a : ℕ) → a ≤ 255 → is_path (address_name a path_vci) ≡ true
unfolding is_path
path-is a h = eq-eqb _ path_vci (address-named a path_vci (name-lt a path_vci h (omega arith))).vci_back

open-path-effect : (s : State) (a t : ℕ) (p : Params) → Effect s (opening_path a t p) (open_path_step s a t p)
unfolding open_path_step
open-path-effect s a t p = open-address-effect s (opening_path a t p) a path_vci t p (λ h i. absurd (true≢false (sym (path-is a h) ∙ i))) (opens_path a t p)

close-effect : (s : State) (a b : ℕ) → Effect s (closing a b) (close_step s (address_name a b))
unfolding close_step
close-effect s a b = of_open-effect (closing a b) (find (address_name a b) s.entries) _ λ d e. closes a b d e

offer-effect : (s : State) (a b n : ℕ) → Effect s (offering a b n) (offer_step s (address_name a b) n)
unfolding offer_step
offer-effect s a b n =
    of_open-effect (offering a b n) (find (address_name a b) s.entries) _ λ d e.
    require-effect (offering a b n) 28 tt _ _ λ channel.
    require-effect (offering a b n) 15 tt _ _ λ fit.
    offers a b n d e (not-true _ channel) (leb-true _ _ fit)

-- the calls on members
add-effect : (s : State) (a b : ℕ) → Effect s (adding a b) (add_step s a b)
unfolding add_step
add-effect s a b =
    require-effect (adding a b) 10 tt _ _ λ low.
    of_open-effect (adding a b) (find (path_of (address_name a b)) s.entries) _ λ d e.
    require-effect (adding a b) 12 tt _ _ λ new.
    require-effect (adding a b) 27 tt _ _ λ no_member.
    require-effect (adding a b) 26 tt _ _ λ room.
    adds a b d e
    (record { high = leb-true _ _ low; no_channel = is_free_lem (find (address_name a b) s.entries) new; no_member = not-true _ no_member; room = ltb-true _ _ room })

-- the pair's path is found under the VPI's own name
of_member-effect :
    {s : State} (c : Call) (a b : ℕ) (f : Connection → Outcome)
    → ((d : Connection) → find (path_of (address_name a b)) s.entries ≡ taken d → is_member (address_name a b) s.members ≡ true → Effect s c (f d))
    → Effect s c (of_member s a b f)
unfolding of_member
of_member-effect {s} c a b f h =
    of_open-effect c (find (address_name a path_vci) s.entries) _ λ d e.
    require-effect c 28 tt _ _ λ member.
    let z = both (address_fits a b) (is_member (address_name a b) s.members) member in
    h d (ap (λ (v : ℕ). find v s.entries) (path-of-address a b z.0) ∙ e) z.1

offer-member-effect : (s : State) (a b n : ℕ) → Effect s (offering_member a b n) (offer_member_step s a b n)
unfolding offer_member_step
offer-member-effect s a b n =
    of_member-effect (offering_member a b n) a b _ λ d e member.
    require-effect (offering_member a b n) 15 tt _ _ λ fit.
    offers_member a b n d e member (leb-true _ _ fit)

remove-effect : (s : State) (a b : ℕ) → Effect s (removing a b) (remove_step s a b)
unfolding remove_step
remove-effect s a b = of_member-effect (removing a b) a b _ λ d e member. removes a b d e member

read-effect : (s : State) (o : List ℕ) (r : Reading) → reading o ≡ r → Effect s (receiving o) (read_step s o r)
unfolding read_step data_cell_step
read-effect s o (Unread n) q = refuses (receiving o) n (refusal-number o n q)
read-effect s o (DataCell a b e) q =
    require-effect (receiving o) 11 tt _ _ λ channel.
    of_open-effect (receiving o) (find (owner (address_name a b) s.members) s.entries) _ λ d h.
    receives_data o a b e _ d q (not-true _ channel) refl h
read-effect s o (RmCell f) q = of_open-effect (receiving o) (find (cell_name f) s.entries) _ λ d h. receives_rm o f d q h

level-effect : (s : State) (l : ℕ) → Effect s (levelling l) (level_step s l)
unfolding level_step
level-effect s l = require-effect (levelling l) 9 tt _ _ λ low. sets_level l (leb-true _ _ low)

serve-effect : (s : State) (t room : ℕ) → Timely s t → (w : Winner) → Best t s.entries w → Effect s (slot t room) (serve (with_time t s) t w)
unfolding serve serve_entry with_time
serve-effect s t room z none_ready b = idles t room z b
serve-effect s t room z (wins i u) b = rw b.found (sends t room i u z b)

slot-effect : (s : State) (t room : ℕ) → NamesUnique s.entries → Effect s (slot t room) (slot_step s t room)
unfolding slot_step
slot-effect s t room a =
    require-effect (slot t room) 1 tt _ _ λ _.
    require-effect (slot t room) 8 tt _ _ λ until.
    require-effect (slot t room) 14 tt _ _ λ since.
    serve-effect s t room (timely s t since until) (winner t s.entries) (winner-best t s.entries a)

make-effect : (s : State) (a b t : ℕ) → Effect s (making a b t) (make_step s (address_name a b) t)
unfolding make_step
make-effect s a b t =
    require-effect (making a b t) 8 tt _ _ λ until.
    of_open-effect (making a b t) (find (address_name a b) s.entries) _ λ d e.
    require-effect (making a b t) 14 tt _ _ λ since.
    require-effect (making a b t) 16 tt _ _ λ high.
    require-effect (making a b t) 17 tt _ _ λ rested.
    makes a b t d e (timely s t since until) (ltb-true _ _ high) rested

out-of-rate-effect : (s : State) (a b t room : ℕ) → Effect s (out_of_rate a b t room) (out_of_rate_step s (address_name a b) t room)
unfolding out_of_rate_step
out-of-rate-effect s a b t room =
    require-effect (out_of_rate a b t room) 1 tt _ _ λ _.
    require-effect (out_of_rate a b t room) 8 tt _ _ λ until.
    of_open-effect (out_of_rate a b t room) (find (address_name a b) s.entries) _ λ d e.
    require-effect (out_of_rate a b t room) 14 tt _ _ λ since.
    require-effect (out_of_rate a b t room) 18 tt _ _ λ rest.
    sends_out_of_rate a b t room d e (timely s t since until) rest

-- every call has one of these effects
pub effect : (s : State) → NamesUnique s.entries → (c : Call) → Effect s c (step s c)
unfolding step receive_step
effect s u (opening a b t p) = open-effect s a b t p
effect s u (closing a b) = close-effect s a b
effect s u (receiving o) = read-effect s o (reading o) refl
effect s u (offering a b n) = offer-effect s a b n
effect s u (levelling l) = level-effect s l
effect s u (slot t room) = slot-effect s t room u
effect s u (making a b t) = make-effect s a b t
effect s u (out_of_rate a b t room) = out-of-rate-effect s a b t room
effect s u (opening_path a t p) = open-path-effect s a t p
effect s u (adding a b) = add-effect s a b
effect s u (offering_member a b n) = offer-member-effect s a b n
effect s u (removing a b) = remove-effect s a b
