-- The connection that a slot went to, as a caller knows it: the pair that the slot returned or, if that is a
-- member, its path. A caller knows its members from the calls that returned no refusal. (Document 02, L13.)
use Rattle.std.specs.Prelude.{ℕ, Bool, false, cond, ◌&&◌, ◌||◌, not, List, [], ◌∷◌, eqb}
use Rattle.std.proofs.Math.Option.{Option, none, some}
use Rattle.cell.specs.Name.{name_from}
use Rattle.connection_members.specs.Path.{path_of}
use Rattle.model.specs.Call.{Call}
use Rattle.model.specs.Aspects.{OnMembers, of_closed, of_added, of_offered, of_removed, of_slot, of_none, members_of}
use Rattle.abr.specs.Exports.{Observation}
use Rattle.abr_answers.specs.Reply.{Reply}

-- whether the name x is a member's after a call that was accepted or not, from which names were before
abbrev pub member_by : OnMembers → (before : ℕ → Bool) → (x : ℕ) → Bool
member_by (of_closed v) f x = f x && not (eqb (path_of x) v)
member_by (of_added y) f x = eqb y x || f x
member_by (of_offered y n) f x = f x
member_by (of_removed y) f x = f x && not (eqb x y)
member_by of_slot f x = f x
member_by of_none f x = f x

abbrev pub member_after : Call → (accepted : Bool) → (before : ℕ → Bool) → (x : ℕ) → Bool
member_after c a f x = cond a (member_by (members_of c) f x) (f x)

abbrev pub no_member : ℕ → Bool
no_member x = false

-- the same from what the call returned: 0 is no refusal
abbrev pub member_seen : Call → Observation → (before : ℕ → Bool) → (ℕ → Bool)
member_seen c o f = member_after c (eqb o.returned.refusal 0) f

-- after all calls of a list
abbrev pub members_seen : (before : ℕ → Bool) → List Call → List Observation → (ℕ → Bool)
members_seen f [] os = f
members_seen f (c ∷ cs) [] = f
members_seen f (c ∷ cs) (o ∷ os) = members_seen (member_seen c o f) cs os

-- the connection that a name's cells belong to, and that of the pair that a slot returned
abbrev pub connection_of : (member : ℕ → Bool) → (name : ℕ) → ℕ
connection_of f x = cond (f x) (path_of x) x

abbrev pub connection_returned : (member : ℕ → Bool) → Reply → ℕ
connection_returned f r = connection_of f (name_from r.vpi r.vci)

-- none of an idle or refused slot, and of a call that is no slot
abbrev pub went_to : (member : ℕ → Bool) → Reply → Option ℕ
went_to f r = cond (eqb r.kind 0) none (some (connection_returned f r))

-- of each call of a list in turn
abbrev pub places_seen : (member : ℕ → Bool) → List Call → List Observation → List (Option ℕ)
places_seen f [] os = []
places_seen f (c ∷ cs) [] = []
places_seen f (c ∷ cs) (o ∷ os) = went_to f o.returned ∷ places_seen (member_seen c o f) cs os
