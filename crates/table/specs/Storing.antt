-- What storing an entry makes of the table's words.
use Rattle.std.specs.Prelude.{ℕ, ◌+◌, ◌/◌, ◌%◌, ◌^◌, ◌<◌, List, get_or, set}
use Rattle.std.specs.Int.Bits.{bit_xor}
use Rattle.laws.specs.Blocks.{put_from, put}
use Rattle.cell.specs.Name.{no_name}
use Rattle.connection.specs.declared.parts.Destination.{Destination}
use Rattle.connection.specs.declared.parts.Connection.{Connection}
use Rattle.connection.specs.Ready.{ready_instant}
use Rattle.connection.specs.Parts.{Instant}
use Rattle.model.specs.State.{Entry}
use Rattle.table.specs.Layout.{key, instant_word, destination_word, queue_word, paced_words, source_words, turned_words, record_of, used_from, record_from}

-- what each part of a record needs to fit in its word
pub record FixedFits (c : Connection) : Type 0 where
  pub named : c.name < no_name
  pub n_below : c.rate.params.n < 2 ^ 8
  pub r_below : c.rate.params.r < 2 ^ 16
  pub d_below : c.rate.params.d < 2 ^ 16
  pub c_below : c.rate.params.c < 2 ^ 16
  pub trm_below : c.rate.params.trm < 2 ^ 16

-- the key of a connection at its entry
abbrev pub keyed : List ℕ → (entry : ℕ) → Connection → List ℕ
keyed l i c = set l (record_from i) (key (ready_instant c))

-- a connection of which only the queue has moved
abbrev pub queue_updated : List ℕ → (entry : ℕ) → Connection → List ℕ
queue_updated l i c = keyed (set l (record_from i + 4) (queue_word c.queue)) i c

-- a connection of which only the queue and the pace have moved
abbrev pub paced_updated : List ℕ → (entry : ℕ) → Connection → List ℕ
paced_updated l i c = keyed (put_from l (record_from i) 4 (paced_words c)) i c

-- a connection whose source has moved
abbrev pub source_updated : List ℕ → (entry : ℕ) → Connection → List ℕ
source_updated l i c = keyed (put_from l (record_from i) 3 (source_words c)) i c

-- a connection whose destination has moved
abbrev pub destination_put : List ℕ → (entry : ℕ) → Destination → List ℕ
destination_put l i d = put_from (set l (record_from i + 2) (destination_word d)) (record_from i) 16 (turned_words d)

abbrev pub destination_updated : List ℕ → (entry : ℕ) → Connection → List ℕ
destination_updated l i c = keyed (destination_put l i c.destination) i c

-- a connection whose saved EFCI is all that has moved
abbrev pub efci_updated : List ℕ → (entry : ℕ) → Destination → List ℕ
efci_updated l i d = set l (record_from i + 2) (destination_word d)

-- a connection where only the last out-of-rate cell has moved
abbrev pub out_of_rate_updated : List ℕ → (entry : ℕ) → Instant → List ℕ
out_of_rate_updated l i o = set l (record_from i + 23) (instant_word o)

-- both sides
abbrev pub updated : List ℕ → (entry : ℕ) → Connection → List ℕ
updated l i c = keyed (destination_put (put_from l (record_from i) 3 (source_words c)) i c.destination) i c

-- entry i enters the bits of the entries in use, or leaves them
abbrev pub entry_flipped : List ℕ → (entry : ℕ) → List ℕ
entry_flipped l i = set l (used_from + i / 64) (bit_xor (get_or l (used_from + i / 64) 0) (2 ^ (i % 64)))

-- entry i is given this content
abbrev pub entry_stored : List ℕ → (entry : ℕ) → Entry → List ℕ
entry_stored l i x = put l (record_from i) (record_of x)
