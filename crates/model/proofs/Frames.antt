-- What a reading F of the entry of a name becomes when an entry is changed, taken or freed: once for every reading.
use Prim.Native.Nat.{ℕ, ◌<◌}
use mathlib.Core.Path.{◌≡◌, refl, sym, ap, subst, ◌∙◌}
use mathlib.Core.Logic.{◌≢◌}
use mathlib.Core.Bool.{true, cond}
use mathlib.Core.List.{List}
use lib.Dec.{eqb}
use lib.ListN.{length, get_or, set}
use borrow.Author.Tests.{ltb-true, eq-eqb, ne_eqb}
use Rattle.connection.specs.declared.parts.Connection.{Connection}
use Rattle.model.specs.State.{State, Entry, free, taken, position, is_free, holds, find, with_entry_of, with_opened, room_left}
use Rattle.model.specs.Invariant.{OnEntry, Absent, NamesUnique}
use Rattle.model.proofs.Entries.{each_set, entry-map, Case, same, other, case, find-name, find_absent, absent-find, find-other, find-same, taken_in, freed-absent, lowest-free}

pub name_of : (u : ℕ) (s : State) (c : Connection) → find u s.entries ≡ taken c → c.name ≡ u
name_of u s c e = subst (OnEntry (λ d. d.name ≡ u)) e (find-name u s.entries)

-- what has the one name has not the other
named_other : (u v : ℕ) → u ≢ v → (x : Entry) → OnEntry (λ c. c.name ≡ u) x → OnEntry (λ c. c.name ≢ v) x
named_other u v n x h = entry-map (λ c. c.name ≡ u) (λ c. c.name ≢ v) (λ c e z. n (sym e ∙ z)) x h

-- entry i, free or of the same name, is given to d
set-read :
    {A : Type 0} (F : Entry → A) (v : ℕ) (ss : List Entry) (i : ℕ) (d : Connection) → i < length ss → Absent d.name (set ss i free)
    → OnEntry (λ c. c.name ≡ d.name) (get_or ss i free) → F (find v (set ss i (taken d))) ≡ cond (eqb d.name v) (F (taken d)) (F (find v ss))
set-read F v ss i d l a h = go (case d.name v)
  where
    go : Case d.name v → F (find v (set ss i (taken d))) ≡ cond (eqb d.name v) (F (taken d)) (F (find v ss))
    go (same e) = rw (eq-eqb d.name v e, ← e) (ap F (find-same d.name d refl ss i l a))
    go (other e) = rw (ne_eqb d.name v e) (ap F (find-other v ss i (taken d) (named_other d.name v e (get_or ss i free) h) e))

-- a connection put into its own entry and read again
pub put-read :
    {A : Type 0} (F : Entry → A) (v u : ℕ) (s : State) → NamesUnique s.entries → (c d : Connection) → find u s.entries ≡ taken c → d.name ≡ c.name
    → F (find v (with_entry_of u (taken d) s).entries) ≡ cond (eqb u v) (F (taken d)) (F (find v s.entries))
unfolding with_entry_of find
put-read F v u s a c d e p =
    let q = p ∙ name_of u s c e in
    rw (← q)
    (set-read F v s.entries (position (holds d.name) s.entries) d (taken_in s.entries _ c (rw q e)) (freed-absent d.name s.entries a)
    (find-name d.name s.entries))

-- a connection in its own entry, read as before
pub put-kept :
    {A : Type 0} (F : Entry → A) (v u : ℕ) (s : State) → NamesUnique s.entries → (c d : Connection) → find u s.entries ≡ taken c → d.name ≡ c.name
    → F (taken d) ≡ F (taken c) → F (find v (with_entry_of u (taken d) s).entries) ≡ F (find v s.entries)
put-kept F v u s a c d e p q = put-read F v u s a c d e p ∙ go (case u v)
  where
    go : Case u v → cond (eqb u v) (F (taken d)) (F (find v s.entries)) ≡ F (find v s.entries)
    go (same h) = rw (eq-eqb u v h, ← h, e) q
    go (other h) = rw (ne_eqb u v h)

-- a new connection in the lowest free entry
pub with-opened-read :
    {A : Type 0} (F : Entry → A) (v : ℕ) (s : State) (d : Connection) → find d.name s.entries ≡ free → room_left s ≡ true
    → F (find v (with_opened d s).entries) ≡ cond (eqb d.name v) (F (taken d)) (F (find v s.entries))
unfolding with_opened room_left
with-opened-read F v s d e room =
    set-read F v s.entries (position is_free s.entries) d (ltb-true _ _ room)
    (each_set (λ c. c.name ≢ d.name) s.entries (find_absent d.name s.entries e) (position is_free s.entries) free tt)
    (rw (lowest-free s.entries) tt)

-- an entry made free
pub freed-read :
    {A : Type 0} (F : Entry → A) (v u : ℕ) (s : State) → NamesUnique s.entries → F (find v (with_entry_of u free s).entries) ≡ cond (eqb u v) (F free) (F (find v s.entries))
unfolding with_entry_of find
freed-read F v u s a = go (case u v)
  where
    go : Case u v → F (find v (with_entry_of u free s).entries) ≡ cond (eqb u v) (F free) (F (find v s.entries))
    go (same h) = rw (eq-eqb u v h, h) (ap F (absent-find v (with_entry_of v free s).entries (freed-absent v s.entries a)))
    go (other h) = rw (ne_eqb u v h) (ap F (find-other v s.entries (position (holds u) s.entries) free (named_other u v h (find u s.entries) (find-name u s.entries)) tt))
