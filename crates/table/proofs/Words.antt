-- The words of a state that calls reach: what a read finds in them, and that a store makes the words of the
-- state with that entry changed.
use Prim.Native.Nat.{ℕ, suc, ◌+◌, ◌-◌, ◌*◌, ◌≤◌, ◌<◌}
use mathlib.Core.Path.{◌≡◌, refl, sym, ap, ap₂, ◌∙◌}
use mathlib.Core.List.{List, [], ◌∷◌, ◌++◌}
use native.Mathlib.Nat.{add-zero}
use native.Mathlib.Omega.{arith}
use lib.ListN.{length, get_or, set, drop, replicate, replicate-append-replicate}
use lib.Seq.{drop_at}
use Rattle.laws.specs.Blocks.{flat, put_from}
use Rattle.laws.proofs.Blocks.{flat-zeros}
use Rattle.rate.specs.Units.{latest_time}
use Rattle.connection.specs.declared.parts.Destination.{Destination}
use Rattle.connection.specs.declared.parts.Connection.{Connection}
use Rattle.connection.specs.declared.parts.Made.{Made}
use Rattle.connection.specs.Ready.{ready_instant}
use Rattle.connection.specs.Invariant.{ValidAt}
use Rattle.connection.specs.Parts.{Instant, Waiting}
use Rattle.connection_members.specs.Members.{member_capacity}
use Rattle.model.specs.State.{State, Entry, free, taken, empty, capacity}
use Rattle.model.specs.Tournament.{instant_winner, leaf_winner}
use Rattle.table.specs.Layout.{key, instant_word, destination_word, identity_word, queue_word, paced_words, source_words, fixed_words, payload_words, waiting_payload, turned_words, record_words, record_of, record_width, record_from, records, is_taken, used, directory, nodes, table_words, packed, member_words, words, last_at, groups, spare, size}
use Rattle.table.specs.Loading.{connection_from, connection_at}
use Rattle.table.specs.Storing.{queue_updated, paced_updated, source_updated, destination_updated, efci_updated, out_of_rate_updated, updated, entry_stored}
use Rattle.table.proofs.Loaded.{words_back, from-drop}
use Rattle.table.proofs.Records.{record-wide, set-inside, get-inside, run_inside, put-inside, before_record, behind_record, length_before, record-given, record-split}
use Rattle.table.proofs.Used.{used-free, used-same}
use Rattle.table.proofs.Directory.{directory-free, directory-same, sampled-zeros}
use Rattle.table.proofs.Nodes.{nodes-free, nodes-same}
use Rattle.table.proofs.Splits.{header, length-header, header-split, records-split}

-- the word of the last accepted time
pub last-at : (s : State) {l : List ℕ} → l ≡ words s → get_or l last_at 0 ≡ s.last
unfolding words
last-at s e = ap (λ (x : List ℕ). get_or x last_at 0) e

-- an entry's lead follows from its name and its ready instant
pub winner-same : (i : ℕ) (c d : Connection) → d.name ≡ c.name → ready_instant d ≡ ready_instant c → leaf_winner i (taken d) ≡ leaf_winner i (taken c)
unfolding leaf_winner
winner-same i c d p r = ap₂ (λ (v : ℕ) (x : Instant). instant_winner v i x) p r

-- the first two words of an entry's record: 0 if it is free
abbrev pub key_number : Entry → ℕ
key_number free = 0
key_number (taken c) = key (ready_instant c)

abbrev pub identity_number : Entry → ℕ
identity_number free = 0
identity_number (taken c) = identity_word c

pub key-first : (x : Entry) → get_or (record_of x) 0 0 ≡ key_number x
key-first free = refl
key-first (taken c) = refl

pub identity-second : (x : Entry) → get_or (record_of x) 1 0 ≡ identity_number x
identity-second free = refl
identity-second (taken c) = refl

-- a record from its parts: its key, what its open fixed, what waits at the destination, its source's words, its
-- destination's, the last out-of-rate cell
abbrev assembled : (k : ℕ) (fixed : List ℕ) (w : ℕ) (source turned : List ℕ) (o : ℕ) → List ℕ
assembled k f w ss ts o = k ∷ get_or f 0 0 ∷ w ∷ (ss ++ (drop 1 f ++ (ts ++ (o ∷ []))))

module _ (s : State) (g : length s.entries ≡ capacity) (i : ℕ) (h : i < capacity) where
  inside : i < length s.entries
  inside = omega (arith, g)

  -- what stands before the record of entry i and behind it
  abbrev before : List ℕ
  before = before_record (header s) s.entries s.members i

  abbrev behind : List ℕ
  behind = behind_record (header s) s.entries s.members i

  at-record : length before ≡ record_from i
  at-record = omega (arith, length_before (header s) s.entries s.members i (omega (arith, g)), length-header s g)

  at : (k : ℕ) → length before + k ≡ record_from i + k
  at k = ap (λ (n : ℕ). n + k) at-record

  at_first : length before + 0 ≡ record_from i
  at_first = add-zero (length before) ∙ at-record

  holds : (x : Entry) → get_or s.entries i free ≡ x → words s ≡ before ++ (record_of x ++ behind)
  holds x e = header-split s ∙ record-split (header s) s.entries s.members i x e inside

  wide : (k : ℕ) (x : Entry) → k < record_width → k < length (record_of x)
  wide k x l = omega (arith, l, record-wide x)

  pub key-at : get_or (words s) (record_from i) 0 ≡ key_number (get_or s.entries i free)
  key-at =
      let x : Entry = get_or s.entries i free in
      ap (λ (y : List ℕ). get_or y (record_from i) 0) (holds x refl) ∙ get-inside before behind (record_of x) 0 (record_from i) at_first (wide 0 x (omega arith)) ∙ key-first x

  pub identity-at : get_or (words s) (record_from i + 1) 0 ≡ identity_number (get_or s.entries i free)
  identity-at =
      let x : Entry = get_or s.entries i free in
      ap (λ (y : List ℕ). get_or y (record_from i + 1) 0) (holds x refl) ∙ get-inside before behind (record_of x) 1 (record_from i + 1) (at 1) (wide 1 x (omega arith))
      ∙ identity-second x

  -- the words from a record on
  pub record-at : (c : Connection) → get_or s.entries i free ≡ taken c → drop (record_from i) (words s) ≡ record_words c ++ behind
  record-at c e = ap (drop (record_from i)) (holds (taken c) e) ∙ drop_at before (record_words c ++ behind) (record_from i) at-record

  -- an entry loaded
  pub load_at : (c : Connection) → get_or s.entries i free ≡ taken c → s.last ≤ latest_time → ValidAt s.last c → connection_at (words s) i ≡ c
  load_at c e t p =
      from-drop (words s) (record_from i)
      ∙ ap (λ (y : List ℕ). connection_from y 0) (record-at c e)
      ∙ words_back s.last c behind t p

  -- the state with entry i given to x
  abbrev with : Entry → State
  with x = record { level = s.level; last = s.last; entries = set s.entries i x; members = s.members }

  -- the words of the state, except that the records are those of these entries
  abbrev records_of : List Entry → List ℕ
  records_of xs = table_words s.level s.last (used s.entries) (directory s.entries) (nodes s.entries) xs s.members

  given : (x : Entry) → before ++ (record_of x ++ behind) ≡ records_of (set s.entries i x)
  given x =
      sym (record-given (header s) s.entries s.members i x inside)
      ∙ sym (records-split s.level s.last (used s.entries) (directory s.entries) (nodes s.entries) (set s.entries i x) s.members)

  -- the whole entry
  pub given-in : (x : Entry) → entry_stored (words s) i x ≡ records_of (set s.entries i x)
  given-in x =
      let y : Entry = get_or s.entries i free in
      ap (λ (l : List ℕ). entry_stored l i x) (holds y refl) ∙ put-inside before behind (record_of y) (record_from i) (record_of x) at-record (record-wide y ∙ sym (record-wide x)) ∙ given x

  -- a connection that keeps its entry, its name and what its open fixed
  module _ (c d : Connection) (e : get_or s.entries i free ≡ taken c) (p : d.name ≡ c.name) (q : fixed_words d ≡ fixed_words c) where
    abbrev ys : List Entry
    ys = set s.entries i (taken d)

    -- The parts of the record that moved are now d's, and those that stayed are c's.
    kept :
        {l : List ℕ} (w : ℕ) (ss ts : List ℕ) (o : ℕ) → l ≡ before ++ (assembled (key (ready_instant d)) (fixed_words c) w ss ts o ++ behind)
        → w ≡ destination_word d.destination → ss ≡ source_words d → ts ≡ turned_words d.destination → o ≡ instant_word d.out_of_rate → l ≡ records_of ys
    kept w ss ts o l a b t z =
        l
        ∙ ap (λ (f : List ℕ). before ++ (assembled (key (ready_instant d)) f w ss ts o ++ behind)) (sym q)
        ∙ ap₂ (λ (x : ℕ) (y : List ℕ). before ++ (assembled (key (ready_instant d)) (fixed_words d) x y ts o ++ behind)) a b
        ∙ ap₂ (λ (x : List ℕ) (y : ℕ). before ++ (assembled (key (ready_instant d)) (fixed_words d) (destination_word d.destination) (source_words d) x y ++ behind)) t z
        ∙ given (taken d)

    -- words from k on put in a record r, and its key
    run-record : (k : ℕ) (vs r : List ℕ) → k + length vs ≤ length r → put_from (before ++ (r ++ behind)) (record_from i) k vs ≡ before ++ (put_from r 0 k vs ++ behind)
    run-record k vs r l = run_inside before behind r k (record_from i) vs at-record l

    key-record : (v : ℕ) (r : List ℕ) → 0 < length r → set (before ++ (r ++ behind)) (record_from i) v ≡ before ++ (set r 0 v ++ behind)
    key-record v r l = set-inside before behind r 0 (record_from i) v at_first l

    -- words from k on put in c's record, and one word
    run-words : (k : ℕ) (vs : List ℕ) → k + length vs ≤ record_width → put_from (words s) (record_from i) k vs ≡ before ++ (put_from (record_words c) 0 k vs ++ behind)
    run-words k vs l = ap (λ (m : List ℕ). put_from m (record_from i) k vs) (holds (taken c) e) ∙ run-record k vs (record_words c) l

    word-record : (k v : ℕ) → k < record_width → set (words s) (record_from i + k) v ≡ before ++ (set (record_words c) k v ++ behind)
    word-record k v l = ap (λ (m : List ℕ). set m (record_from i + k) v) (holds (taken c) e) ∙ set-inside before behind (record_words c) k (record_from i + k) v (at k) l

    -- c's record with these words of the source
    abbrev sourced : (source : List ℕ) → List ℕ
    sourced vs = assembled (key (ready_instant c)) (fixed_words c) (destination_word c.destination) vs (turned_words c.destination) (instant_word c.out_of_rate)

    -- words of the source alone were put, then the key
    sourced-in :
        {l : List ℕ} (vs : List ℕ) → l ≡ before ++ (sourced vs ++ behind) → vs ≡ source_words d → d.destination ≡ c.destination → d.out_of_rate ≡ c.out_of_rate
        → set l (record_from i) (key (ready_instant d)) ≡ records_of ys
    sourced-in vs l f b o =
        kept (destination_word c.destination) vs (turned_words c.destination) (instant_word c.out_of_rate)
        (ap (λ (m : List ℕ). set m (record_from i) (key (ready_instant d))) l ∙ key-record (key (ready_instant d)) (sourced vs) (omega arith))
        (ap destination_word (sym b)) f (ap turned_words (sym b)) (ap instant_word (sym o))

    pub source_in : d.destination ≡ c.destination → d.out_of_rate ≡ c.out_of_rate → source_updated (words s) i d ≡ records_of ys
    source_in = sourced-in (source_words d) (run-words 3 (source_words d) (omega arith)) refl

    -- the queue and the pace alone
    pub paced-in :
        source_words d ≡ c.rate.acr ∷ (paced_words d ++ (c.unanswered ∷ c.change.before ∷ c.change.after ∷ [])) → d.destination ≡ c.destination → d.out_of_rate ≡ c.out_of_rate
        → paced_updated (words s) i d ≡ records_of ys
    paced-in f = sourced-in _ (run-words 4 (paced_words d) (omega arith)) (sym f)

    -- the queue alone
    pub queue-in : source_words d ≡ set (source_words c) 1 (queue_word d.queue) → d.destination ≡ c.destination → d.out_of_rate ≡ c.out_of_rate → queue_updated (words s) i d ≡ records_of ys
    queue-in f = sourced-in _ (word-record 4 (queue_word d.queue) (omega arith)) (sym f)

    -- the words of the destination, in a record whose source is r
    abbrev sides_are : List ℕ → List ℕ
    sides_are vs = assembled (key (ready_instant d)) (fixed_words c) (destination_word d.destination) vs (turned_words d.destination) (instant_word c.out_of_rate)

    destination-at : (x : Connection) → destination_updated (before ++ (sourced (source_words x) ++ behind)) i d
        ≡ before ++ (sides_are (source_words x) ++ behind)
    destination-at x =
        ap (λ (l : List ℕ). set (put_from l (record_from i) 16 (turned_words d.destination)) (record_from i) (key (ready_instant d)))
        (set-inside before behind (sourced (source_words x)) 2 (record_from i + 2) (destination_word d.destination) (at 2) (omega arith))
        ∙ ap (λ (l : List ℕ). set l (record_from i) (key (ready_instant d)))
        (run-record 16 (turned_words d.destination) (set (sourced (source_words x)) 2 (destination_word d.destination)) (omega arith))
        ∙ key-record (key (ready_instant d)) (put_from (set (sourced (source_words x)) 2 (destination_word d.destination)) 0 16 (turned_words d.destination)) (omega arith)

    pub destination-in : source_words d ≡ source_words c → d.out_of_rate ≡ c.out_of_rate → destination_updated (words s) i d ≡ records_of ys
    destination-in f o =
        kept (destination_word d.destination) (source_words c) (turned_words d.destination) (instant_word c.out_of_rate)
        (ap (λ (l : List ℕ). destination_updated l i d) (holds (taken c) e) ∙ destination-at c) refl (sym f) refl (ap instant_word (sym o))

    pub update-in : d.out_of_rate ≡ c.out_of_rate → updated (words s) i d ≡ records_of ys
    update-in o =
        kept (destination_word d.destination) (source_words d) (turned_words d.destination) (instant_word c.out_of_rate)
        (ap (λ (l : List ℕ). destination_updated l i d) (run-words 3 (source_words d) (omega arith)) ∙ destination-at d) refl refl refl (ap instant_word (sym o))

    -- A part of the record that moves no ready instant. The key is already there, no winner changes, and the
    -- words are those of the state with the entry changed.
    silent : {l : List ℕ} → l ≡ records_of ys → ready_instant d ≡ ready_instant c → l ≡ words (with (taken d))
    unfolding words is_taken
    silent l r =
        l
        ∙ ap (λ (y : List ℕ). table_words s.level s.last y (directory s.entries) (nodes s.entries) ys s.members) (sym (used-same s.entries i (taken d) (sym (ap is_taken e))))
        ∙ ap (λ (y : List ℕ). table_words s.level s.last (used ys) y (nodes s.entries) ys s.members) (sym (directory-same s.entries i c d e p))
        ∙ ap (λ (y : List ℕ). table_words s.level s.last (used ys) (directory ys) y ys s.members) (sym (nodes-same s.entries i (taken d) inside (winner-same i c d p r ∙ ap (leaf_winner i) (sym e))))

    key-kept : (f : ℕ → List ℕ) → ready_instant d ≡ ready_instant c → f (key (ready_instant c)) ≡ f (key (ready_instant d))
    key-kept f r = ap (λ (x : Instant). f (key x)) (sym r)

    pub efci-at :
        source_words d ≡ source_words c → d.destination.turned ≡ c.destination.turned → d.destination.made ≡ c.destination.made → d.out_of_rate ≡ c.out_of_rate → ready_instant d ≡ ready_instant c
        → efci_updated (words s) i d.destination ≡ words (with (taken d))
    efci-at f t m o r =
        silent
        (kept (destination_word d.destination) (source_words c) (turned_words c.destination) (instant_word c.out_of_rate)
        (word-record 2 (destination_word d.destination) (omega arith)
        ∙ key-kept (λ k. before ++ (assembled k (fixed_words c) (destination_word d.destination) (source_words c) (turned_words c.destination) (instant_word c.out_of_rate) ++ behind)) r)
        refl (sym f) (ap₂ (λ (x : Waiting) (y : Made). payload_words (waiting_payload x) ++ (instant_word y.last ∷ [])) (sym t) (sym m)) (ap instant_word (sym o)))
        r

    pub out-of-rate-at : source_words d ≡ source_words c → d.destination ≡ c.destination → ready_instant d ≡ ready_instant c → out_of_rate_updated (words s) i d.out_of_rate ≡ words (with (taken d))
    out-of-rate-at f b r =
        silent
        (kept (destination_word c.destination) (source_words c) (turned_words c.destination) (instant_word d.out_of_rate)
        (word-record 23 (instant_word d.out_of_rate) (omega arith)
        ∙ key-kept (λ k. before ++ (assembled k (fixed_words c) (destination_word c.destination) (source_words c) (turned_words c.destination) (instant_word d.out_of_rate) ++ behind)) r)
        (ap destination_word (sym b)) (sym f) (ap turned_words (sym b)) refl)
        r

-- the empty table is all zero
joined : (a b c d : ℕ) → ◌≡◌ {A = List ℕ} (0 ∷ 0 ∷ (replicate spare 0 ++ (replicate a 0 ++ (replicate b 0 ++ (replicate c 0 ++ replicate d 0))))) (replicate (suc (suc (spare + (a + (b + (c + d)))))) 0)
joined a b c d =
    ap (λ (l : List ℕ). 0 ∷ 0 ∷ (replicate spare 0 ++ (replicate a 0 ++ (replicate b 0 ++ l)))) (replicate-append-replicate {A = ℕ} c d 0)
    ∙ ap (λ (l : List ℕ). 0 ∷ 0 ∷ (replicate spare 0 ++ (replicate a 0 ++ l))) (replicate-append-replicate {A = ℕ} b (c + d) 0)
    ∙ ap (λ (l : List ℕ). 0 ∷ 0 ∷ (replicate spare 0 ++ l)) (replicate-append-replicate {A = ℕ} a (b + (c + d)) 0)
    ∙ ap (λ (l : List ℕ). 0 ∷ 0 ∷ l) (replicate-append-replicate {A = ℕ} spare (a + (b + (c + d))) 0)

zeros : (n j : ℕ) → flat record_of (replicate n free) ++ replicate j 0 ≡ replicate (n * record_width + j) 0
zeros n j = ap (λ (l : List ℕ). l ++ replicate j 0) (flat-zeros record_of record_width record-wide free refl n) ∙ replicate-append-replicate {A = ℕ} (n * record_width) j 0

pub empty-words : words empty ≡ replicate size 0
unfolding words empty member_words packed
empty-words =
    let ss : List Entry = replicate capacity free in
    ap (λ (y : List ℕ). table_words 0 0 y (directory ss) (nodes ss) ss []) (used-free capacity)
    ∙ ap (λ (y : List ℕ). table_words 0 0 (replicate groups 0) y (nodes ss) ss []) (directory-free capacity)
    ∙ ap (λ (y : List ℕ). table_words 0 0 (replicate groups 0) (replicate capacity 0) y ss []) (nodes-free capacity)
    ∙ ap₂ (λ (x y : List ℕ). 0 ∷ 0 ∷ (replicate spare 0 ++ (replicate groups 0 ++ (x ++ (replicate (2 * capacity) 0 ++ y))))) (sampled-zeros capacity) (zeros capacity member_capacity)
    ∙ joined groups (groups + (8 * groups + capacity)) (2 * capacity) (capacity * record_width + member_capacity)
