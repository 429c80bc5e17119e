-- The winners in the words of a state, and the keys in its records.
use Prim.Native.Nat.{ℕ, suc, ◌+◌, ◌*◌, ◌<◌}
use mathlib.Core.Path.{◌≡◌, ap, ◌∙◌}
use mathlib.Core.List.{List}
use lib.ListN.{get_or}
use Rattle.model.specs.State.{State, free, capacity}
use Rattle.model.specs.Invariant.{WellFormed}
use Rattle.model.specs.Tournament.{winner_at}
use Rattle.model.proofs.Places.{Stands}
use Rattle.table.specs.Layout.{winner_number, node_winner, nodes, words, nodes_from, record_from, member_words}
use Rattle.table.proofs.Nodes.{length-winners, above-leaves, node_at}
use Rattle.table.proofs.Splits.{front, length_front, winners-split}
use Rattle.table.proofs.Words.{key_number}
use Rattle.table_tournament.specs.declared.winner.KeyedWinner.{KeyedWinner}
use Rattle.table_tournament.specs.KeyedWinner.{keyed_winner, keyed_node}
use Rattle.table_tournament.proofs.Stored.{Sized, node_in, key_in}

sized : (s : State) → WellFormed s → Sized (front s) s.entries
sized s w = record { front = length_front s w.size; entries = w.size }

-- the winner of a match
pub node : (l : List ℕ) (s : State) → WellFormed s → l ≡ words s → {h d p : ℕ} → Stands h (suc d) p → keyed_node l p ≡ keyed_winner (winner_at s.entries (suc d) p)
node l s w q {h} {d} {p} a =
    ap (λ (m : List ℕ). keyed_node m p) (q ∙ winners-split s)
    ∙ node_in (front s) s.entries (member_words s.members) (sized s w) (node_winner s.entries) p (above-leaves a) ∙ ap keyed_winner (node_at s.entries p a)

pub node-word : (l : List ℕ) (s : State) → WellFormed s → l ≡ words s → {h d p : ℕ} → Stands h (suc d) p → get_or l (nodes_from + 2 * p) 0 ≡ winner_number (winner_at s.entries (suc d) p)
node-word l s w q a = ap (λ (k : KeyedWinner). k.word) (node l s w q a)

-- the ready key of a leaf
pub key-word : (l : List ℕ) (s : State) → WellFormed s → l ≡ words s → (x : ℕ) → x < capacity → get_or l (record_from x) 0 ≡ key_number (get_or s.entries x free)
key-word l s w q x b =
    ap (λ (m : List ℕ). get_or m (record_from x) 0) (q ∙ winners-split s)
    ∙ key_in (front s) s.entries (member_words s.members) (sized s w) (nodes s.entries) (length-winners (node_winner s.entries) 0 capacity) x b
