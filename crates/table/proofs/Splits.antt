-- The words of a table, split where its bits, its directory, its winners and its records stand.
use Prim.Native.Nat.{ℕ, ◌*◌}
use mathlib.Core.Path.{◌≡◌, refl, ◌∙◌}
use mathlib.Core.List.{List, [], ◌∷◌, ◌++◌, append_assoc}
use native.Mathlib.Omega.{arith}
use lib.ListN.{length, replicate, length-append, length-replicate}
use Rattle.connection_members.specs.Members.{Member}
use Rattle.model.specs.State.{State, Entry, capacity}
use Rattle.table.specs.Layout.{table_words, words, used, directory, sampled, nodes, records, groups, spare, used_from, samples_from, nodes_from, records_from}
use Rattle.table.proofs.Used.{length-used}
use Rattle.table.proofs.Directory.{length-directory, length-sampled}
use Rattle.table.proofs.Nodes.{length-nodes}

-- what stands before the bits
abbrev pub start : (level last : ℕ) → List ℕ
start a b = a ∷ b ∷ replicate spare 0

pub length-start : (a b : ℕ) → length (start a b) ≡ used_from
length-start a b = refl

module _ (a b : ℕ) (us ds ns : List ℕ) (ss : List Entry) (ms : List Member) where
  pub used-split : table_words a b us ds ns ss ms ≡ start a b ++ (us ++ (sampled ds ++ (ns ++ records ss ms)))
  used-split = refl

  -- the directory and its samples, behind the bits
  pub sampled-split : table_words a b us ds ns ss ms ≡ (start a b ++ us) ++ (sampled ds ++ (ns ++ records ss ms))
  sampled-split = simp append_assoc

  -- the winners, behind the directory
  pub nodes-split : table_words a b us ds ns ss ms ≡ (start a b ++ (us ++ sampled ds)) ++ (ns ++ records ss ms)
  nodes-split = simp append_assoc

  -- the records, behind the header
  pub records-split : table_words a b us ds ns ss ms ≡ (start a b ++ (us ++ (sampled ds ++ ns))) ++ records ss ms
  records-split = simp append_assoc

pub length-before-samples : (a b : ℕ) (us : List ℕ) → length us ≡ groups → length (start a b ++ us) ≡ samples_from
length-before-samples a b us u = omega (arith, length-append (start a b) us, u)

pub length-before-nodes : (a b : ℕ) (us ds : List ℕ) → length us ≡ groups → length ds ≡ capacity → length (start a b ++ (us ++ sampled ds)) ≡ nodes_from
length-before-nodes a b us ds u d = omega (arith, length-append (start a b) (us ++ sampled ds), length-append us (sampled ds), length-sampled ds, u, d)

-- what stands before the directory of a state and behind it
abbrev pub before_directory : State → List ℕ
before_directory s = start s.level s.last ++ used s.entries

abbrev pub behind_directory : State → List ℕ
behind_directory s = nodes s.entries ++ records s.entries s.members

pub directory-split : (s : State) → words s ≡ before_directory s ++ (sampled (directory s.entries) ++ behind_directory s)
unfolding words
directory-split s = sampled-split s.level s.last (used s.entries) (directory s.entries) (nodes s.entries) s.entries s.members

pub length-before-directory : (s : State) → length (before_directory s) ≡ samples_from
length-before-directory s = length-before-samples s.level s.last (used s.entries) (length-used s.entries)

-- what stands before its winners
abbrev pub front : State → List ℕ
front s = start s.level s.last ++ (used s.entries ++ sampled (directory s.entries))

pub length_front : (s : State) → length s.entries ≡ capacity → length (front s) ≡ nodes_from
length_front s g = length-before-nodes s.level s.last (used s.entries) (directory s.entries) (length-used s.entries) (length-directory s.entries ∙ g)

pub winners-split : (s : State) → words s ≡ front s ++ (nodes s.entries ++ records s.entries s.members)
unfolding words
winners-split s = nodes-split s.level s.last (used s.entries) (directory s.entries) (nodes s.entries) s.entries s.members

-- and before its records
abbrev pub header : State → List ℕ
header s = start s.level s.last ++ (used s.entries ++ (sampled (directory s.entries) ++ nodes s.entries))

pub length-header : (s : State) → length s.entries ≡ capacity → length (header s) ≡ records_from
length-header s g =
    omega (
      arith,
      length-append (start s.level s.last) (used s.entries ++ (sampled (directory s.entries) ++ nodes s.entries)),
      length-append (used s.entries) (sampled (directory s.entries) ++ nodes s.entries),
      length-append (sampled (directory s.entries)) (nodes s.entries),
      length-used s.entries,
      length-sampled (directory s.entries),
      length-directory s.entries,
      length-nodes s.entries,
      g,
    )

pub header-split : (s : State) → words s ≡ header s ++ records s.entries s.members
unfolding words
header-split s = records-split s.level s.last (used s.entries) (directory s.entries) (nodes s.entries) s.entries s.members
