-- What stands in the words of a table with given winners: the winners, and the key and the identity of each entry.
use Prim.Native.Nat.{ℕ, suc, ◌+◌, ◌*◌, ◌<◌}
use mathlib.Core.Path.{◌≡◌, sym, ap, ap₂, ◌∙◌}
use mathlib.Core.List.{List, ◌++◌, append_assoc}
use native.Mathlib.Nat.{zero-add, add-zero}
use native.Mathlib.Omega.{arith}
use lib.ListN.{length, get_or, set, drop, length-append, length-set, get_or-append}
use lib.Seq.{get_or-append-add, get_or-drop}
use Rattle.laws.specs.Blocks.{flat}
use Rattle.laws.proofs.Blocks.{drop-flat}
use Rattle.model.specs.State.{Entry, free, capacity}
use Rattle.model.specs.Tournament.{MatchWinner}
use Rattle.table.specs.Layout.{record_of, record_width, nodes_from, record_from, winner_number, winner_key, winner_words}
use Rattle.table.proofs.Nodes.{length-winners, winner-at, key-at}
use Rattle.table.proofs.Records.{record-wide, get-inside, set-inside}
use Rattle.table.proofs.Words.{key_number, identity_number, key-first, identity-second}
use Rattle.table_tournament.specs.KeyedWinner.{keyed_winner, keyed_node}
use Rattle.table_tournament.specs.Replaying.{with_nodes}
use Rattle.table_tournament.proofs.Keyed.{as_keyed}

-- a front and entries as long as those of a table
pub record Sized (h : List ℕ) (ss : List Entry) : Type 0 where
  pub front : length h ≡ nodes_from
  pub entries : length ss ≡ capacity

-- ---- the winners

module _ (h : List ℕ) (ss : List Entry) (t : List ℕ) (z : Sized h ss) where
  -- as the code reads them
  pub node_in : (w : ℕ → MatchWinner) (p : ℕ) → p < capacity → keyed_node (with_nodes h (winner_words w 0 capacity) ss t) p ≡ keyed_winner (w p)
  node_in w p l = ap₂ as_keyed word beside
    where
      ns : List ℕ
      ns = winner_words w 0 capacity

      word : get_or (with_nodes h ns ss t) (nodes_from + 2 * p) 0 ≡ winner_number (w p)
      word =
          get-inside h (flat record_of ss ++ t) ns (2 * p) (nodes_from + 2 * p) (omega (arith, z.front)) (omega (arith, length-winners w 0 capacity))
          ∙ winner-at w 0 capacity p l ∙ ap (λ (j : ℕ). winner_number (w j)) (zero-add p)

      beside : get_or (with_nodes h ns ss t) (nodes_from + 2 * p + 1) 0 ≡ winner_key (w p)
      beside =
          get-inside h (flat record_of ss ++ t) ns (2 * p + 1) (nodes_from + 2 * p + 1) (omega (arith, z.front)) (omega (arith, length-winners w 0 capacity))
          ∙ key-at w 0 capacity p l ∙ ap (λ (j : ℕ). winner_key (w j)) (zero-add p)

  -- and stores them
  pub set-node : (ns : List ℕ) (p a b : ℕ) → p < capacity → length ns ≡ 2 * capacity
      → set (set (with_nodes h ns ss t) (nodes_from + 2 * p) a) (nodes_from + 2 * p + 1) b ≡ with_nodes h (set (set ns (2 * p) a) (2 * p + 1) b) ss t
  set-node ns p a b l e =
      ap (λ (m : List ℕ). set m (nodes_from + 2 * p + 1) b)
      (set-inside h (flat record_of ss ++ t) ns (2 * p) (nodes_from + 2 * p) a (omega (arith, z.front)) (omega (arith, e)))
      ∙ set-inside h (flat record_of ss ++ t) (set ns (2 * p) a) (2 * p + 1) (nodes_from + 2 * p + 1) b (omega (arith, z.front)) (omega (arith, e, length-set ns (2 * p) a))

  -- ---- the records, behind them

  module _ (ns : List ℕ) (e : length ns ≡ 2 * capacity) (x : ℕ) (l : x < capacity) where
    record-in : (k : ℕ) → k < record_width → get_or (with_nodes h ns ss t) (record_from x + k) 0 ≡ get_or (record_of (get_or ss x free)) k 0
    record-in k m =
        let at : record_from x + k ≡ length (h ++ ns) + (x * record_width + k) = omega (arith, length-append h ns, z.front, e) in
        ap₂ (λ (m : List ℕ) (j : ℕ). get_or m j 0) (sym (append_assoc h ns (flat record_of ss ++ t))) at
        ∙ get_or-append-add (h ++ ns) (flat record_of ss ++ t) (x * record_width + k) 0
        ∙ sym (get_or-drop (x * record_width) (flat record_of ss ++ t) k 0)
        ∙ ap (λ (m : List ℕ). get_or m k 0) (drop-flat record_of record_width record-wide ss t x free (omega (arith, z.entries)))
        ∙ get_or-append (record_of (get_or ss x free)) (flat record_of (drop (suc x) ss) ++ t) 0 k (omega (arith, m, record-wide (get_or ss x free)))

    pub key_in : get_or (with_nodes h ns ss t) (record_from x) 0 ≡ key_number (get_or ss x free)
    key_in = ap (λ (j : ℕ). get_or (with_nodes h ns ss t) j 0) (sym (add-zero (record_from x))) ∙ record-in 0 (omega arith) ∙ key-first (get_or ss x free)

    pub identity-in : get_or (with_nodes h ns ss t) (record_from x + 1) 0 ≡ identity_number (get_or ss x free)
    identity-in = record-in 1 (omega arith) ∙ identity-second (get_or ss x free)
