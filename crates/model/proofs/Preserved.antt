-- The table's functions keep a table well-formed.
use Prim.Native.Nat.{ℕ, ◌≤◌}
use mathlib.Core.Path.{◌≡◌, ◌∙◌}
use mathlib.Core.Logic.{◌≢◌}
use mathlib.Core.List.{List}
use native.Mathlib.Omega.{arith}
use lib.ListN.{length-set, length-replicate}
use Rattle.rate.specs.Units.{latest_time}
use Rattle.connection_members.specs.Members.{Member}
use Rattle.connection.specs.declared.parts.Connection.{Connection}
use Rattle.connection.specs.Invariant.{ValidAt}
use Rattle.connection.proofs.Keeps.{valid-later}
use Rattle.model.specs.State.{State, Entry, free, taken, capacity, empty, position, holds, is_free, find, with_entry_of, with_opened, with_time, with_level, with_members}
use Rattle.model.specs.Invariant.{OnEntry, MembersOf, WellFormed}
use Rattle.model.proofs.Entries.{each_set, entry-map, each_map, each_free, unique-free, each_at, find_absent, unique-set, freed-absent}
use Rattle.model.proofs.Members.{none-members}

-- what a name finds is as it should be
pub valid-at : {s : State} → WellFormed s → (u : ℕ) (d : Connection) → find u s.entries ≡ taken d → ValidAt s.last d
valid-at {s} w u d e = each_at (ValidAt s.last) u s.entries d e w.each

-- an entry and the members change together
pub put-well-formed :
    {s : State} → WellFormed s → (v : ℕ) (x : Entry) → OnEntry (ValidAt s.last) x → OnEntry (λ c. c.name ≡ v) x → (ms : List Member)
    → MembersOf (with_entry_of v x s).entries ms → WellFormed (with_members ms (with_entry_of v x s))
unfolding with_entry_of with_members
put-well-formed {s} w v x p q ms m = record {
  levels = w.levels;
  timely = w.timely;
  size = length-set s.entries (position (holds v) s.entries) x ∙ w.size;
  each = each_set (ValidAt s.last) s.entries w.each (position (holds v) s.entries) x p;
  unique = unique-set s.entries (position (holds v) s.entries) x w.unique
      (entry-map (λ c. c.name ≡ v) _ (λ c e. rw e (freed-absent v s.entries w.unique)) x q);
  members = m;
}

pub with-opened-well-formed :
    {s : State} → WellFormed s → (c : Connection) → ValidAt s.last c → find c.name s.entries ≡ free → MembersOf (with_opened c s).entries s.members
    → WellFormed (with_opened c s)
unfolding with_opened
with-opened-well-formed {s} w c p e m = record {
  levels = w.levels;
  timely = w.timely;
  size = length-set s.entries (position is_free s.entries) (taken c) ∙ w.size;
  each = each_set (ValidAt s.last) s.entries w.each (position is_free s.entries) (taken c) p;
  unique = unique-set s.entries (position is_free s.entries) (taken c) w.unique
      (each_set (λ d. d.name ≢ c.name) s.entries (find_absent c.name s.entries e) (position is_free s.entries) free tt);
  members = m;
}

pub with_time-well-formed : {s : State} → WellFormed s → (t : ℕ) → s.last ≤ t → t ≤ latest_time → WellFormed (with_time t s)
unfolding with_time
with_time-well-formed {s} w t h l = record {
  levels = w.levels;
  timely = l;
  size = w.size;
  each = each_map (ValidAt s.last) (ValidAt t) (valid-later s.last t h) s.entries w.each;
  unique = w.unique;
  members = w.members;
}

pub with_members-well-formed : {s : State} → WellFormed s → (ms : List Member) → MembersOf s.entries ms → WellFormed (with_members ms s)
unfolding with_members
with_members-well-formed w ms m = record { levels = w.levels; timely = w.timely; size = w.size; each = w.each; unique = w.unique; members = m }

pub with_level-well-formed : {s : State} → WellFormed s → (l : ℕ) → l ≤ 2 → WellFormed (with_level l s)
unfolding with_level
with_level-well-formed w l h = record { levels = h; timely = w.timely; size = w.size; each = w.each; unique = w.unique; members = w.members }

pub empty-well-formed : WellFormed empty
unfolding empty
empty-well-formed = record {
  levels = omega arith;
  timely = omega arith;
  size = length-replicate capacity free;
  each = each_free (ValidAt 0) capacity;
  unique = unique-free capacity;
  members = none-members;
}
