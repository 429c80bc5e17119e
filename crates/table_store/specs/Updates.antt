-- What storing an entry does to the words of a state, and how many comparisons it makes in the
-- tournament. (Document 02, L4.)
use Rattle.std.specs.Prelude.{ℕ, ◌+◌, ◌≡◌, List, [], ◌∷◌, ◌++◌, length, get_or, set}
use Rattle.connection.specs.declared.parts.Connection.{Connection}
use Rattle.connection.specs.Ready.{ready_instant}
use Rattle.model.specs.State.{State, Entry, free, taken, capacity}
use Rattle.model.specs.Invariant.{NamesUnique}
use Rattle.model.specs.Tournament.{levels, winner_at, winner_word, replayed}
use Rattle.table.specs.Layout.{words, queue_word, paced_words, source_words, fixed_words}
use Rattle.table_tournament.specs.Replaying.{Playable}

-- what storing asks of a state: so the state may stand between two stores of one call, where members and entries
-- do not agree yet (document 02, L13)
abbrev pub Sized : State → Type 0
Sized s = length s.entries ≡ capacity

-- the state with entry i given this content
abbrev pub with_entry : State → (entry : ℕ) → Entry → State
with_entry s i x = record { level = s.level; last = s.last; entries = set s.entries i x; members = s.members }

-- the words are those of the state with entry i given this content, and the matches of its leaf were replayed
abbrev pub EntryBecomes : State → (after : List ℕ) → (entry : ℕ) → Entry → (n : ℕ) → Type 0
EntryBecomes s m i x n = (m ≡ words (with_entry s i x)) × (n ≡ replayed i s.entries (set s.entries i x))

-- which part of a connection may have moved: its queue, its queue and its pace, its source, its destination, or both
-- sides
abbrev pub QueueMoved : (before now : Connection) → Type 0
QueueMoved c d =
    (source_words d ≡ set (source_words c) 1 (queue_word d.queue)) × (d.destination ≡ c.destination) × (d.out_of_rate ≡ c.out_of_rate)

abbrev pub PacedMoved : (before now : Connection) → Type 0
PacedMoved c d =
    (source_words d ≡ c.rate.acr ∷ (paced_words d ++ (c.unanswered ∷ c.change.before ∷ c.change.after ∷ []))) × (d.destination ≡ c.destination) × (d.out_of_rate ≡ c.out_of_rate)

abbrev pub SourceMoved : (before now : Connection) → Type 0
SourceMoved c d = (d.destination ≡ c.destination) × (d.out_of_rate ≡ c.out_of_rate)

abbrev pub DestinationMoved : (before now : Connection) → Type 0
DestinationMoved c d = (source_words d ≡ source_words c) × (d.out_of_rate ≡ c.out_of_rate)

abbrev pub BothMoved : (before now : Connection) → Type 0
BothMoved c d = d.out_of_rate ≡ c.out_of_rate

-- A connection that keeps its entry, its name and what its open fixed, in a state in which this holds.
pub record UpdatesWhen (When : State → Type 0) (Moved : Connection → Connection → Type 0) (l m : List ℕ) (i : ℕ) (d : Connection) (n : ℕ) : Type 0 where
  pub is :
      (s : State) → When s → Sized s → l ≡ words s → (c : Connection) → get_or s.entries i free ≡ taken c → d.name ≡ c.name → fixed_words d ≡ fixed_words c → Moved c d
      → Playable (set s.entries i (taken d)) → EntryBecomes s m i (taken d) n

abbrev pub Updates : (Moved : Connection → Connection → Type 0) (l m : List ℕ) (i : ℕ) (d : Connection) (n : ℕ) → Type 0
Updates = UpdatesWhen (λ _. Unit)

-- entry i is that of the winner of the tournament, so that all matches of its leaf are replayed
pub record Leads (i : ℕ) (s : State) : Type 0 where
  pub unique : NamesUnique s.entries
  pub wins : winner_word (winner_at s.entries levels 1) ≡ i + 1

abbrev pub WinnerUpdates : (Moved : Connection → Connection → Type 0) (l m : List ℕ) (i : ℕ) (d : Connection) → Type 0
WinnerUpdates M l m i d = UpdatesWhen (Leads i) M l m i d levels

-- The same of a queue and a pace, where the code may hold something else in the other parts: e is the connection that
-- the entry gets.
pub record PacedUpdates (l m : List ℕ) (i : ℕ) (d : Connection) : Type 0 where
  pub is :
      (s : State) → Leads i s → Sized s → l ≡ words s → (c e : Connection) → get_or s.entries i free ≡ taken c → e.name ≡ c.name → fixed_words e ≡ fixed_words c → PacedMoved c e
      → paced_words d ≡ paced_words e → ready_instant d ≡ ready_instant e → Playable (set s.entries i (taken e)) → EntryBecomes s m i (taken e) levels

-- a connection that takes a free entry
pub record OpensEntry (l m : List ℕ) (i : ℕ) (c : Connection) (n : ℕ) : Type 0 where
  pub is :
      (s : State) → Sized s → l ≡ words s → get_or s.entries i free ≡ free → Playable (set s.entries i (taken c)) → EntryBecomes s m i (taken c) n

-- a connection that leaves its entry
pub record ClosesEntry (l m : List ℕ) (i v n : ℕ) : Type 0 where
  pub is :
      (s : State) → Sized s → l ≡ words s → (c : Connection) → get_or s.entries i free ≡ taken c → c.name ≡ v → Playable (set s.entries i free)
      → EntryBecomes s m i free n
