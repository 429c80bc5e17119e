-- The members in the words of a state: what a search finds there, and what a change of them leaves. (Document 02, L13.)
use Prim.Native.Nat.{ℕ, ◌%◌, ◌<◌}
use mathlib.Core.Path.{◌≡◌, sym, subst, ◌∙◌}
use mathlib.Core.Bool.{Bool, true, false}
use mathlib.Core.List.{List, ◌++◌, append_assoc}
use native.Mathlib.Omega.{arith}
use lib.ListN.{length, length-append}
use borrow.Author.Tests.{eq-eqb, ne_eqb}
use Rattle.laws.specs.Blocks.{flat}
use Rattle.laws.proofs.Blocks.{length-flat}
use Rattle.connection_members.specs.Path.{is_path}
use Rattle.connection_members.specs.Members.{Member, member_capacity, is_member}
use Rattle.connection_members.specs.Invariant.{ValidMembers}
use Rattle.connection.specs.declared.parts.Connection.{Connection}
use Rattle.model.specs.State.{State, free, taken, find, with_members}
use Rattle.model.specs.Invariant.{WellFormed}
use Rattle.table.specs.Layout.{record_of, record_width, member_words, members_from, words}
use Rattle.table.proofs.Records.{record-wide}
use Rattle.table.proofs.Splits.{header, length-header, header-split}
use Rattle.table_store.specs.Updates.{Sized}
use Rattle.std.specs.Prelude.{Option, Some, None}
use Rattle.std.specs.Option.{is_some}
use Rattle.table_names.specs.Finding.{FindsName, Located}
use Rattle.table_names.proofs.Found.{found_at}
use Rattle.engine.proofs.Outcomes.{nothing, something, missing, entry-located}
use Rattle.table_members.specs.Place.{MemberAt}
use Rattle.table_members.specs.Words.{WithMembers, MemberInRange, Named, FindsMember}

-- what stands before the members
abbrev pub front : State → List ℕ
front s = header s ++ flat record_of s.entries

front-split : (s : State) → words s ≡ front s ++ member_words s.members
front-split s = header-split s ∙ sym (append_assoc (header s) (flat record_of s.entries) (member_words s.members))

length_front : (s : State) → Sized s → length (front s) ≡ members_from
length_front s g = omega (arith, length-append (header s) (flat record_of s.entries), length-header s g, length-flat record_of record_width record-wide s.entries, g)

pub with-members : (s : State) → Sized s → ValidMembers s.members → {l : List ℕ} → l ≡ words s → WithMembers l (front s) s.members
with-members s g v e = record { is = e ∙ front-split s; place = length_front s g; valid = v }

-- other members behind the same words
pub members-changed : (s : State) (ms : List Member) {l : List ℕ} → l ≡ front s ++ member_words ms → l ≡ words (with_members ms s)
unfolding with_members
members-changed s ms e = e ∙ sym (front-split (with_members ms s))

-- what the test of a name's VCI says
pub is-path : (v : ℕ) → v % 65536 ≡ 6 → is_path v ≡ true
unfolding is_path
is-path v e = eq-eqb (v % 65536) 6 e

pub no-path : (v : ℕ) → (v % 65536 ≡ 6 → ⊥) → is_path v ≡ false
unfolding is_path
no-path v h = ne_eqb (v % 65536) 6 h

-- What was found.
pub member_below : {l : List ℕ} {x : ℕ} {r : Option ℕ} {i : ℕ} → FindsMember l x r → r ≡ Some i → i < member_capacity
member_below h q = subst MemberInRange q h.inside

module _ (s : State) (w : WellFormed s) {l : List ℕ} (e : l ≡ words s) {x : ℕ} {r : Option ℕ} (h : FindsMember l x r) where
  named : Named x s.members r
  named = h.is (front s) s.members (with-members s w.size w.members.valid e)

  pub no_member : r ≡ None → is_member x s.members ≡ false
  no_member q = subst (Named x s.members) q named

  pub member-at : {i : ℕ} → r ≡ Some i → MemberAt s.members x i
  member-at q = subst (Named x s.members) q named

-- what a search for a name found, by the same name y
module _ (s : State) (w : WellFormed s) {l : List ℕ} (e : l ≡ words s) {x y : ℕ} (q : x ≡ y) {r : Option ℕ} (h : FindsName l x r) where
  pub located_name : {i : ℕ} → r ≡ Some i → Located s.entries y i
  located_name {i} o = subst (λ (n : ℕ). Located s.entries n i) q (entry-located s w e x h o)

  pub missing_name : r ≡ None → find y s.entries ≡ free
  missing_name o = subst (λ (n : ℕ). find n s.entries ≡ free) q (missing s w e x h o)

-- and what the test of a search says of it
module _ (s : State) (w : WellFormed s) {l : List ℕ} (e : l ≡ words s) {x y : ℕ} (q : x ≡ y) {r : Option ℕ} {b : Bool} (t : b ≡ is_some r) where
  pub closed_name : FindsName l x r → b ≡ false → find y s.entries ≡ free
  closed_name h f = subst (λ (n : ℕ). find n s.entries ≡ free) q (missing s w e x h (nothing (sym t ∙ f)))

  pub open_name : FindsName l x r → b ≡ true → (c : Connection) × (find y s.entries ≡ taken c)
  open_name h f =
      let p = entry-located s w e x h (something (sym t ∙ f)).1 in
      subst (λ (n : ℕ). (c : Connection) × (find n s.entries ≡ taken c)) q (p.holder, found_at p)

  pub lone_name : FindsMember l x r → b ≡ false → is_member y s.members ≡ false
  lone_name h f = subst (λ (n : ℕ). is_member n s.members ≡ false) q (no_member s w e h (nothing (sym t ∙ f)))

  pub member_name : FindsMember l x r → b ≡ true → is_member y s.members ≡ true
  member_name h f = subst (λ (n : ℕ). is_member n s.members ≡ true) q (member-at s w e h (something (sym t ∙ f)).1).member
