-- The words of a state after an entry was stored and the matches of its leaf were replayed. They are those of the
-- state with that entry changed.
use Prim.Native.Nat.{ℕ, ◌+◌, ◌*◌, ◌<◌}
use mathlib.Core.Path.{◌≡◌, sym, ap, ap₂, subst, ◌∙◌}
use mathlib.Core.Bool.{not}
use mathlib.Core.List.{List, ◌++◌}
use lib.ListN.{length, get_or, set, length-set}
use Rattle.laws.specs.Blocks.{put_from}
use Rattle.connection.specs.declared.parts.Connection.{Connection}
use Rattle.connection.specs.Ready.{ready_instant}
use Rattle.connection.specs.Parts.{Instant}
use Rattle.model.specs.State.{State, Entry, free, taken, capacity}
use Rattle.model.specs.Tournament.{levels, replayed}
use Rattle.model.proofs.Replays.{replayed-all}
use Rattle.table.specs.Layout.{key, queue_word, paced_words, source_words, record_from, is_taken, used, directory, sampled, nodes, records, member_words, table_words, words, groups, nodes_from}
use Rattle.table.specs.Storing.{keyed, paced_updated, source_updated, destination_put, destination_updated, updated, entry_flipped, entry_stored}
use Rattle.table.proofs.Used.{length-used, used-same, used-flipped}
use Rattle.table.proofs.Directory.{length-directory, directory-same}
use Rattle.table.proofs.Splits.{start, length-start, nodes-split, sampled-split, length-before-samples, length-before-nodes}
use Rattle.table.proofs.Words.{given-in, queue-in, paced-in, source_in, destination-in, update-in}
use Rattle.table_column.specs.Descending.{at_least}
use Rattle.table_names.specs.Filing.{InDirectory, Files, Unfiles}
use Rattle.table_names.proofs.Directories.{descending-directory, directory-inserted, directory-removed}
use Rattle.table_tournament.specs.Replaying.{with_nodes, Playable, Replays, ReplaysAll}
use Rattle.table_store.specs.Updates.{Sized, EntryBecomes, Leads, UpdatesWhen, PacedUpdates, QueueMoved, SourceMoved, DestinationMoved, BothMoved, OpensEntry, ClosesEntry}

-- Leaf i was replayed in the words of a state whose entry i was given x, whatever stands before the winners.
pub record ReplaysWhen (When : State → Type 0) (l m : List ℕ) (i n : ℕ) : Type 0 where
  pub is :
      (s : State) → When s → (us ds : List ℕ) → length us ≡ groups → length ds ≡ capacity → (x : Entry) → Playable (set s.entries i x)
      → l ≡ table_words s.level s.last us ds (nodes s.entries) (set s.entries i x) s.members
      → (m ≡ table_words s.level s.last us ds (nodes (set s.entries i x)) (set s.entries i x) s.members) × (n ≡ replayed i s.entries (set s.entries i x))

-- where the winners stand in those words
module _ (s : State) (i : ℕ) (us ds : List ℕ) (u : length us ≡ groups) (v : length ds ≡ capacity) (x : Entry) where
  abbrev leading : List ℕ
  leading = start s.level s.last ++ (us ++ sampled ds)

  abbrev given : List Entry
  given = set s.entries i x

  leading-long : length leading ≡ nodes_from
  leading-long = length-before-nodes s.level s.last us ds u v

  split-in : (ns : List ℕ) → table_words s.level s.last us ds ns given s.members ≡ with_nodes leading ns given (member_words s.members)
  split-in ns = nodes-split s.level s.last us ds ns given s.members

pub replays-always : {l m : List ℕ} {i n : ℕ} → Replays l m i n → ReplaysWhen (λ _. Unit) l m i n
replays-always {l} {m} {i} {n} r = record {
  is = λ s _ us ds u v x o e.
      let z = r.is (leading s i us ds u v x) s.entries x (member_words s.members) (leading-long s i us ds u v x) o (e ∙ split-in s i us ds u v x (nodes s.entries)) in
      (z.0 ∙ sym (split-in s i us ds u v x (nodes (given s i us ds u v x))), z.1);
}

-- all matches of the winner's leaf, of which none ends the count
pub replays-winner : {l m : List ℕ} {i : ℕ} → i < capacity → ReplaysAll l m i → ReplaysWhen (Leads i) l m i levels
replays-winner {l} {m} {i} h r = record {
  is = λ s a us ds u v x o e. (
    r.is (leading s i us ds u v x) s.entries x (member_words s.members) (leading-long s i us ds u v x) o (e ∙ split-in s i us ds u v x (nodes s.entries))
        ∙ sym (split-in s i us ds u v x (nodes (given s i us ds u v x))),
    sym (replayed-all i h s.entries a.unique (given s i us ds u v x) a.wins),
  );
}

module _ (s : State) (w : Sized s) (i : ℕ) (h : i < capacity) where
  -- A connection that keeps its entry and its name: the bits and the directory are as before.
  module _ (c d : Connection) (e : get_or s.entries i free ≡ taken c) (p : d.name ≡ c.name) (o : Playable (set s.entries i (taken d))) where
    update-becomes :
        {When : State → Type 0} {l m : List ℕ} {n : ℕ} → l ≡ table_words s.level s.last (used s.entries) (directory s.entries) (nodes s.entries) (set s.entries i (taken d)) s.members
        → When s → ReplaysWhen When l m i n → EntryBecomes s m i (taken d) n
    unfolding words is_taken
    update-becomes q a r =
        let ss : List Entry = s.entries in
        let xs : List Entry = set ss i (taken d) in
        let z = r.is s a (used ss) (directory ss) (length-used ss) (length-directory ss ∙ w) (taken d) o q in (
          z.0 ∙ ap (λ (y : List ℕ). table_words s.level s.last y (directory ss) (nodes xs) xs s.members) (sym (used-same ss i (taken d) (sym (ap is_taken e))))
              ∙ ap (λ (y : List ℕ). table_words s.level s.last (used xs) y (nodes xs) xs s.members) (sym (directory-same ss i c d e p)),
          z.1,
        )

  -- An entry that is taken or freed: its columns, its bit and the directory were stored before the replay.
  module _ (x : Entry) (t : is_taken x ≡ not (is_taken (get_or s.entries i free))) (o : Playable (set s.entries i x)) where
    abbrev xs : List Entry
    xs = set s.entries i x

    flipped-in : entry_flipped (entry_stored (words s) i x) i ≡ table_words s.level s.last (used xs) (directory s.entries) (nodes s.entries) xs s.members
    flipped-in =
        ap (λ (y : List ℕ). entry_flipped y i) (given-in s w i h x)
        ∙ used-flipped s.entries i w h x t (start s.level s.last) (sampled (directory s.entries) ++ (nodes s.entries ++ records xs s.members)) (length-start s.level s.last)

    -- where the directory stands in those words
    abbrev before : List ℕ
    before = start s.level s.last ++ used xs

    abbrev behind : List ℕ
    behind = nodes s.entries ++ records xs s.members

    in_table : {l : List ℕ} → l ≡ entry_flipped (entry_stored (words s) i x) i → InDirectory l before (directory s.entries) behind
    in_table q = (q ∙ flipped-in ∙ sampled-split s.level s.last (used xs) (directory s.entries) (nodes s.entries) xs s.members, length-before-samples s.level s.last (used xs) (length-used xs), length-directory s.entries ∙ w, descending-directory s.entries)

    -- its words are now those of the entries with x
    filed : {l m : List ℕ} {n : ℕ} (ds : List ℕ) → directory xs ≡ ds → l ≡ before ++ (sampled ds ++ behind) → Replays l m i n → EntryBecomes s m i x n
    unfolding words
    filed ds q e r =
        (replays-always r).is s tt (used xs) (directory xs) (length-used xs) (length-directory xs ∙ length-set s.entries i x ∙ w) x o
        (e ∙ sym (sampled-split s.level s.last (used xs) ds (nodes s.entries) xs s.members) ∙ ap (λ (y : List ℕ). table_words s.level s.last (used xs) y (nodes s.entries) xs s.members) (sym q))

  pub store-becomes :
      (c : Connection) → get_or s.entries i free ≡ free → Playable (set s.entries i (taken c)) → {k l m : List ℕ} {n : ℕ} → k ≡ entry_flipped (entry_stored (words s) i (taken c)) i
      → Files ((c.name + 1) * capacity + i) k l → Replays l m i n → EntryBecomes s m i (taken c) n
  unfolding is_taken
  store-becomes c e o q ins r =
      let t : is_taken (taken c) ≡ not (is_taken (get_or s.entries i free)) = sym (ap (λ (y : Entry). not (is_taken y)) e) in
      let inside : i < length s.entries = subst (λ (y : ℕ). i < y) (sym w) h in
      let z = directory-inserted s.entries i c inside e in
      filed (taken c) t o _ z.1 (ins.is (before (taken c) t o) (directory s.entries) (behind (taken c) t o) (in_table (taken c) t o q) (subst (λ (y : ℕ). at_least ((c.name + 1) * capacity + i) (directory s.entries) < y) w z.0)) r

  pub clear-becomes :
      (c : Connection) → get_or s.entries i free ≡ taken c → Playable (set s.entries i free) → {k l m : List ℕ} {n : ℕ} → k ≡ entry_flipped (entry_stored (words s) i free) i
      → Unfiles ((c.name + 1) * capacity + i + 1) k l → Replays l m i n → EntryBecomes s m i free n
  unfolding is_taken
  clear-becomes c e o q rem r =
      let t : is_taken free ≡ not (is_taken (get_or s.entries i free)) = sym (ap (λ (y : Entry). not (is_taken y)) e) in
      let z = directory-removed s.entries i c e in
      filed free t o _ z.1 (rem.is (before free t o) (directory s.entries) (behind free t o) (in_table free t o q) (subst (λ (y : ℕ). at_least ((c.name + 1) * capacity + i + 1) (directory s.entries) < y) w z.0)) r

-- The contracts of the functions that store an entry, from what their stores, the key and the replay have made.
module _ (l m : List ℕ) (i : ℕ) (h : i < capacity) (d : Connection) (n x : ℕ) (key-is : x ≡ key (ready_instant d)) {When : State → Type 0} where
  -- the key stored behind what was put
  rekeyed : (k : List ℕ) → ReplaysWhen When (set k (record_from i) x) m i n → ReplaysWhen When (keyed k i d) m i n
  rekeyed k r = subst (λ (y : ℕ). ReplaysWhen When (set k (record_from i) y) m i n) key-is r

  pub queue-updates : {v : ℕ} → v ≡ queue_word d.queue → ReplaysWhen When (set (set l (record_from i + 4) v) (record_from i) x) m i n → UpdatesWhen When QueueMoved l m i d n
  queue-updates {v} q r = record {
    is = λ s a w e c g p f b o.
        update-becomes s w i h c d g p o
        (ap₂ (λ (z : List ℕ) (u : ℕ). keyed (set z (record_from i + 4) u) i d) e q ∙ queue-in s w i h c d g p f b.0 b.1 b.2) a (rekeyed (set l (record_from i + 4) v) r);
  }

  pub source-updates : {k : List ℕ} → k ≡ put_from l (record_from i) 3 (source_words d) → ReplaysWhen When (set k (record_from i) x) m i n → UpdatesWhen When SourceMoved l m i d n
  source-updates {k} q r = record {
    is = λ s a w e c g p f b o.
        update-becomes s w i h c d g p o (ap (λ (z : List ℕ). keyed z i d) q ∙ ap (λ (z : List ℕ). source_updated z i d) e ∙ source_in s w i h c d g p f b.0 b.1) a (rekeyed k r);
  }

  pub destination-updates : {k : List ℕ} → k ≡ destination_put l i d.destination → ReplaysWhen When (set k (record_from i) x) m i n → UpdatesWhen When DestinationMoved l m i d n
  destination-updates {k} q r = record {
    is = λ s a w e c g p f b o.
        update-becomes s w i h c d g p o (ap (λ (z : List ℕ). keyed z i d) q ∙ ap (λ (z : List ℕ). destination_updated z i d) e ∙ destination-in s w i h c d g p f b.0 b.1) a (rekeyed k r);
  }

  pub both-updates :
      {j k : List ℕ} → j ≡ put_from l (record_from i) 3 (source_words d) → k ≡ destination_put j i d.destination → ReplaysWhen When (set k (record_from i) x) m i n → UpdatesWhen When BothMoved l m i d n
  both-updates {j} {k} t q r = record {
    is = λ s a w e c g p f b o.
        update-becomes s w i h c d g p o
        (ap (λ (z : List ℕ). keyed z i d) (q ∙ ap (λ (z : List ℕ). destination_put z i d.destination) t) ∙ ap (λ (z : List ℕ). updated z i d) e ∙ update-in s w i h c d g p f b) a (rekeyed k r);
  }

pub paced-updates :
    (l m : List ℕ) (i : ℕ) → i < capacity → (d : Connection) (x : ℕ) → x ≡ key (ready_instant d) → {k : List ℕ} → k ≡ put_from l (record_from i) 4 (paced_words d)
    → ReplaysWhen (Leads i) (set k (record_from i) x) m i levels → PacedUpdates l m i d
paced-updates l m i h d x key-is {k} q r = record {
  is = λ s a w e c y g p f b v t o.
      update-becomes s w i h c y g p o
      (ap (λ (z : List ℕ). keyed z i d) q ∙ ap (λ (z : List ℕ). paced_updated z i d) e
      ∙ ap₂ (λ (z : List ℕ) (u : Instant). set (put_from (words s) (record_from i) 4 z) (record_from i) (key u)) v t
      ∙ paced-in s w i h c y g p f b.0 b.1 b.2) a (rekeyed l m i h d levels x key-is k r);
}

pub opens-entry :
    (l k j m : List ℕ) (i : ℕ) → i < capacity → (c : Connection) (n : ℕ) → k ≡ entry_flipped (entry_stored l i (taken c)) i → Files ((c.name + 1) * capacity + i) k j → Replays j m i n
    → OpensEntry l m i c n
opens-entry l k j m i h c n q f r = record {
  is = λ s w e g o. store-becomes s w i h c g o (q ∙ ap (λ (x : List ℕ). entry_flipped (entry_stored x i (taken c)) i) e) f r;
}

pub leaves : (l k j m : List ℕ) (i : ℕ) → i < capacity → (n v : ℕ) → k ≡ entry_flipped (entry_stored l i free) i → Unfiles ((v + 1) * capacity + i + 1) k j → Replays j m i n → ClosesEntry l m i v n
leaves l k j m i h n v q f r = record {
  is = λ s w e c g p o.
      clear-becomes s w i h c g o (q ∙ ap (λ (x : List ℕ). entry_flipped (entry_stored x i free) i) e) (subst (λ (x : ℕ). Unfiles ((x + 1) * capacity + i + 1) k j) (sym p) f) r;
}
