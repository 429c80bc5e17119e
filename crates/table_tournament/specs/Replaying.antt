-- What a replay of a leaf's matches makes of the winners in a table's words, and what it counts. (Document 02, L4.)
use Rattle.std.specs.Prelude.{ℕ, zero, suc, ◌+◌, ◌*◌, ◌/◌, ◌%◌, ◌^◌, ◌<◌, ◌≡◌, cond, List, ◌++◌, eqb, length, get_or, set}
use Rattle.laws.specs.Blocks.{flat}
use Rattle.cell.specs.Name.{no_name}
use Rattle.connection.specs.Range.{InstantBelow}
use Rattle.connection.specs.Ready.{ready_instant}
use Rattle.model.specs.State.{State, Entry, capacity}
use Rattle.model.specs.Invariant.{Each, NamesUnique, WellFormed}
use Rattle.model.specs.Tournament.{replayed}
use Rattle.table.specs.Layout.{record_of, nodes, words, nodes_from}

-- the words of a table with these winners and records
abbrev pub with_nodes : (front ns : List ℕ) (ss : List Entry) (tail : List ℕ) → List ℕ
with_nodes h ns ss t = h ++ (ns ++ (flat record_of ss ++ t))

-- entries that a tournament orders: no two have one name, and each name and each ready instant fits its word
pub record Playable (ss : List Entry) : Type 0 where
  pub size : length ss ≡ capacity
  pub unique : NamesUnique ss
  pub named : Each (λ c. c.name < no_name) ss
  pub below : Each (λ c. InstantBelow (ready_instant c)) ss

-- If the winners are still those of the entries before leaf x was given this content, they become those of the
-- entries now. The rest of the words stays.
pub record Replays (before after : List ℕ) (x n : ℕ) : Type 0 where
  pub is :
      (h : List ℕ) (ss : List Entry) (now : Entry) (t : List ℕ) → length h ≡ nodes_from → Playable (set ss x now) → before ≡ with_nodes h (nodes ss) (set ss x now) t
      → (after ≡ with_nodes h (nodes (set ss x now)) (set ss x now) t) × (n ≡ replayed x ss (set ss x now))

-- the same of every match of the leaf, without a count
pub record ReplaysAll (before after : List ℕ) (x : ℕ) : Type 0 where
  pub is :
      (h : List ℕ) (ss : List Entry) (now : Entry) (t : List ℕ) → length h ≡ nodes_from → Playable (set ss x now) → before ≡ with_nodes h (nodes ss) (set ss x now) t
      → after ≡ with_nodes h (nodes (set ss x now)) (set ss x now) t

-- of the words of a state: what a replay of a leaf counts that has not changed
pub record CountsWon (l : List ℕ) (x n : ℕ) : Type 0 where
  pub is : (s : State) → WellFormed s → l ≡ words s → n ≡ replayed x s.entries s.entries

-- one more than the places from p upwards that have the number of leaf x in their lower half, of those looked at
unfoldable pub levels_with : (l : List ℕ) (leaf place looked : ℕ) → ℕ
levels_with l x p zero = 1
levels_with l x p (suc k) = cond (eqb (get_or l (nodes_from + 2 * p) 0 % 2 ^ 32) (2 * (x + 1))) (1 + levels_with l x (p / 2) k) 1
