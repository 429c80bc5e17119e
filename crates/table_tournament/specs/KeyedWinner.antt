-- The winner at a place of the tournament, as the code holds it: its number and its ready key, both 0 for none.
use Rattle.std.specs.Prelude.{ℕ, ◌+◌, ◌-◌, ◌*◌, ◌/◌, ◌%◌, cond, List, ltb, eqb, get_or}
use Rattle.model.specs.State.{capacity}
use Rattle.model.specs.Tournament.{MatchWinner}
use Rattle.table.specs.Layout.{halves, nodes_from, record_from, winner_number, winner_key}
use Rattle.table.specs.Loading.{name_of}
use Rattle.table_tournament.specs.declared.winner.KeyedWinner.{KeyedWinner}

-- the winner of a match as the code holds it
abbrev pub keyed_winner : MatchWinner → KeyedWinner
keyed_winner a = record { word = winner_number a; key = winner_key a }

-- the mark by which a replay tells its own leaf's word from every word of the table, whose lowest bit is 0
abbrev pub word_mark : ℕ
word_mark = 1

-- the winner of a place's match, and that of a leaf, to whose word a mark is added
abbrev pub keyed_node : List ℕ → (place : ℕ) → KeyedWinner
keyed_node l p = record { word = get_or l (nodes_from + 2 * p) 0; key = get_or l (nodes_from + 2 * p + 1) 0 }

abbrev pub leaf_word : List ℕ → (leaf : ℕ) → ℕ
leaf_word l x = halves (name_of (get_or l (record_from x + 1) 0)) (2 * (x + 1))

abbrev pub keyed_leaf : List ℕ → (leaf mark : ℕ) → KeyedWinner
keyed_leaf l x m = cond (eqb (get_or l (record_from x) 0) 0) (record { word = 0; key = 0 }) (record { word = leaf_word l x + m; key = get_or l (record_from x) 0 })

-- the leaf of a winner's word
abbrev pub word_leaf : (word : ℕ) → ℕ
word_leaf w = (w / 2 % capacity + (capacity - 1)) % capacity

-- the winner of a match: the greater key, ties to the lower word, which is that of the lower name
abbrev pub tied_of : KeyedWinner → KeyedWinner → KeyedWinner
tied_of a b = cond (ltb b.word a.word) b a

abbrev pub matched : KeyedWinner → KeyedWinner → KeyedWinner
matched a b = cond (eqb a.key b.key) (tied_of a b) (cond (ltb a.key b.key) b a)
