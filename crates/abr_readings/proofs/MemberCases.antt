-- What the reading of a member by its number finds in the words of a state: one lemma for each way out.
use Rattle.std.proofs.Common.{◌≡◌, ℕ, zero, suc, ◌+◌, ◌-◌, ◌/◌, ◌%◌, ◌<◌, ◌≤◌, ◌≢◌, List, [], ◌∷◌, length, get_or, refl, ◌∙◌, ap₂, le_of_suc-le-suc, not-suc-le-zero, arith}
use Rattle.cell.specs.Name.{no_name}
use Rattle.connection_members.specs.Members.{Member, member_capacity}
use Rattle.connection_members.specs.Invariant.{ValidMember}
use Rattle.model.specs.State.{State}
use Rattle.model.specs.Invariant.{WellFormed}
use Rattle.model.specs.Status.{member_numbered, member_status_at}
use Rattle.model.specs.Answers.{NoMember, AMember}
use Rattle.table.specs.Layout.{words, members_from, member_word, member_words}
use Rattle.table_column.proofs.Descending.{Reach, above, below, reach}
use Rattle.table_members.proofs.Places.{none-there, words-at, words-behind, each_at}
use Rattle.table_members.proofs.Found.{word_in}
use Rattle.engine.specs.Contract.{MeetsReading}
use Rattle.engine.proofs.Members.{front, with-members}

-- ---- the member with a number

numbered-behind : (ms : List Member) (i : ℕ) → length ms ≤ i → NoMember ≡ member_numbered ms i
unfolding member_numbered
numbered-behind [] i h = refl
numbered-behind (m ∷ ms) zero h = absurd (not-suc-le-zero h)
numbered-behind (m ∷ ms) (suc i) h = numbered-behind ms i (le_of_suc-le-suc h)

numbered-at : (ms : List Member) (i : ℕ) → i < length ms → AMember (get_or ms i none-there).name (get_or ms i none-there).cells ≡ member_numbered ms i
unfolding member_numbered
numbered-at [] i h = absurd (not-suc-le-zero h)
numbered-at (m ∷ ms) zero h = refl
numbered-at (m ∷ ms) (suc i) h = numbered-at ms i (le_of_suc-le-suc h)

-- ---- in the words

pub beyond-members : (l : List ℕ) (i : ℕ) → member_capacity ≤ i → MeetsReading (λ s. NoMember ≡ member_status_at s i) l
unfolding member_status_at
beyond-members l i h = record { meets = λ s w e. numbered-behind s.members i (omega (arith, h, w.members.valid.few)) }

-- a member's word is not 0, and says its name and what waits on it
module _ (m : Member) (v : ValidMember m) (n : ℕ) (e : n ≡ member_word m) where
  word-positive : n ≢ 0
  word-positive z = omega (arith, e, z, v.coded)

  word-name : no_name - n / 65536 % no_name ≡ m.name
  word-name = omega (arith, e, v.coded, v.high, v.stocked)

  word_cells : n % 65536 ≡ m.cells
  word_cells = omega (arith, e, v.stocked)

module _ (l : List ℕ) (i : ℕ) (h : i < member_capacity) where
  member-word : (s : State) → WellFormed s → l ≡ words s → get_or l (members_from + i) 0 ≡ get_or (member_words s.members) i 0
  member-word s w e = word_in l (front s) s.members (with-members s w.size w.members.valid e) i h

  valid : (s : State) → WellFormed s → i < length s.members → ValidMember (get_or s.members i none-there)
  valid s w k = each_at ValidMember s.members w.members.valid.each i k

  pub no-member-there : get_or l (members_from + i) 0 ≡ 0 → MeetsReading (λ s. NoMember ≡ member_status_at s i) l
  unfolding member_status_at
  no-member-there z = record { meets = λ s w e. go s w e (reach (length s.members) i) }
    where
      go : (s : State) → WellFormed s → l ≡ words s → Reach (length s.members) i → NoMember ≡ member_numbered s.members i
      go s w e (above k) = numbered-behind s.members i k
      go s w e (below k) = absurd (word-positive (get_or s.members i none-there) (valid s w k) _ (member-word s w e ∙ words-at s.members i k) z)

  pub member-there :
      get_or l (members_from + i) 0 ≢ 0
      → MeetsReading (λ s. AMember (no_name - get_or l (members_from + i) 0 / 65536 % no_name) (get_or l (members_from + i) 0 % 65536) ≡ member_status_at s i) l
  unfolding member_status_at
  member-there z = record { meets = λ s w e. go s w e (reach (length s.members) i) }
    where
      go : (s : State) → WellFormed s → l ≡ words s → Reach (length s.members) i
          → AMember (no_name - get_or l (members_from + i) 0 / 65536 % no_name) (get_or l (members_from + i) 0 % 65536) ≡ member_numbered s.members i
      go s w e (above k) = absurd (z (member-word s w e ∙ words-behind s.members i k))
      go s w e (below k) =
          let m = get_or s.members i none-there in
          let n = member-word s w e ∙ words-at s.members i k in
          ap₂ AMember (word-name m (valid s w k) _ n) (word_cells m (valid s w k) _ n) ∙ numbered-at s.members i k
