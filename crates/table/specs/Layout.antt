-- The words of a table in the lent memory. A state has one list of words; all zero is the empty table. First comes
-- a header: the level, the last time, the bits of the taken entries, the directory of the names with samples of it,
-- by which a search reads four lines of memory at most, and the winners of the tournament with their keys. Then comes a
-- record for each entry, whose first line of eight words is all that a data cell needs. Then come the members of paths.
use Rattle.std.specs.Prelude.{ℕ, zero, suc, ◌+◌, ◌-◌, ◌*◌, ◌%◌, ◌^◌, Bool, true, false, cond, List, [], ◌∷◌, ◌++◌, leb, ltb, length, get_or, take, drop, replicate, Some, None}
use Rattle.rate_params.specs.declared.params.Params.{Params}
use Rattle.laws.specs.Blocks.{flat}
use Rattle.laws.specs.Rows.{row}
use Rattle.cell_payload.specs.declared.payload.Payload.{Payload}
use Rattle.connection.specs.declared.parts.Pace.{Pace}
use Rattle.connection.specs.declared.parts.Pace.TheVariants.{Unsent, Running}
use Rattle.connection.specs.declared.parts.Queue.{Queue}
use Rattle.connection.specs.declared.parts.Made.{Made}
use Rattle.connection.specs.declared.parts.Destination.{Destination}
use Rattle.connection.specs.declared.parts.Connection.{Connection}
use Rattle.connection.specs.Ready.{ready_instant}
use Rattle.cell.specs.Name.{no_name}
use Rattle.connection.specs.Parts.{Waiting, Instant}
use Rattle.connection_members.specs.Members.{Member, member_capacity}
use Rattle.model.specs.State.{State, Entry, free, taken, capacity}
use Rattle.model.specs.Tournament.{MatchWinner, no_winner, won_by, levels, winner_at}

-- Where they stand. The level and the last accepted time; zeros; the bits of the entries in use, 64 in a word; every
-- 64th word of the directory of names, then every 8th, then the directory; the winners, two words a place.
abbrev pub level_at : ℕ
level_at = 0

abbrev pub last_at : ℕ
last_at = 1

-- the words in which every entry has a bit
abbrev pub groups : ℕ
groups = 16

-- zeros, so that the samples end with a pair of lines: those of 1,024 entries fill it, and some caches fetch pairs
abbrev pub spare : ℕ
spare = (16 - (2 + 2 * groups) % 16) % 16

abbrev pub used_from : ℕ
used_from = 2 + spare

abbrev pub samples_from : ℕ
samples_from = used_from + groups

abbrev pub finer_from : ℕ
finer_from = samples_from + groups

abbrev pub directory_from : ℕ
directory_from = finer_from + 8 * groups

abbrev pub nodes_from : ℕ
nodes_from = directory_from + capacity

-- then a record for each entry
abbrev pub records_from : ℕ
records_from = nodes_from + 2 * capacity

abbrev pub record_width : ℕ
record_width = 24

abbrev pub record_from : (entry : ℕ) → ℕ
record_from i = records_from + i * record_width

-- behind the records the members of paths
abbrev pub members_from : ℕ
members_from = records_from + capacity * record_width

abbrev pub size : ℕ
size = members_from + member_capacity

-- two numbers in one word, of 32 bits each
abbrev pub halves : (high low : ℕ) → ℕ
halves h l = h * 2 ^ 32 + l

-- a pace in three words: its instants, and in one word k with a tag: 0 if no cell was sent, 1 if no turned or made
-- cell went since the last forward cell, else 2
abbrev pub pace_tag : Pace → ℕ
pace_tag Unsent = 0
pace_tag (Running sent forward k turned) = cond turned 2 1

abbrev pub pace_sent : Pace → ℕ
pace_sent Unsent = 0
pace_sent (Running sent forward k turned) = sent

abbrev pub pace_forward : Pace → ℕ
pace_forward Unsent = 0
pace_forward (Running sent forward k turned) = forward

abbrev pub pace_k : Pace → ℕ
pace_k Unsent = 0
pace_k (Running sent forward k turned) = k

abbrev pub pace_word : Pace → ℕ
pace_word p = halves (pace_tag p) (pace_k p)

-- the saved EFCI and whether a turned cell waits, in one word; the waiting payload, zero if there is none
abbrev pub wait_tag : Waiting → ℕ
wait_tag None = 0
wait_tag (Some p) = 2

abbrev pub destination_tag : Destination → ℕ
destination_tag b = wait_tag b.turned + cond b.efci 1 0

-- with the level at which the made cell that waits was made
abbrev pub destination_word : Destination → ℕ
destination_word b = halves b.made.level (destination_tag b)

abbrev pub no_payload : Payload
no_payload = record { a = 0; b = 0; c = 0; d = 0; e = 0; f = 0 }

abbrev pub waiting_payload : Waiting → Payload
waiting_payload None = no_payload
waiting_payload (Some p) = p

abbrev pub payload_words : Payload → List ℕ
payload_words p = p.a ∷ p.b ∷ p.c ∷ p.d ∷ p.e ∷ p.f ∷ []

-- the data that waits, and the VCI served last, in one word (document 02, L13)
abbrev pub queue_word : Queue → ℕ
queue_word l = halves l.served l.cells

-- the last making, or the last out-of-rate cell: 0 if there was none, else its instant plus 1
abbrev pub instant_word : Instant → ℕ
instant_word None = 0
instant_word (Some i) = i + 1

-- The words of a connection's record. The first line has what a data cell needs: the ready key; Trm, n and the
-- name; what waits at the destination; the allowed rate, the queue and the pace.
abbrev pub identity_word : Connection → ℕ
identity_word c = c.trm * 2 ^ 32 + (c.rate.params.n * 2 ^ 24 + c.name)

abbrev pub paced_words : Connection → List ℕ
paced_words c = queue_word c.queue ∷ pace_sent c.pace ∷ pace_forward c.pace ∷ pace_word c.pace ∷ []

-- what moves at its source, with the words of its change last
abbrev pub source_words : Connection → List ℕ
source_words c = c.rate.acr ∷ (paced_words c ++ (c.unanswered ∷ c.change.before ∷ c.change.after ∷ []))

-- what its open fixed: the second line has the rest of it
abbrev pub factors_word : Params → ℕ
factors_word p = p.trm * 2 ^ 48 + (p.c * 2 ^ 32 + (p.d * 2 ^ 16 + p.r))

abbrev pub params_words : Params → List ℕ
params_words p = halves p.mcr p.pcr ∷ halves p.adtf p.icr ∷ halves p.frtt p.tbe ∷ factors_word p ∷ []

abbrev pub opened_words : Connection → List ℕ
opened_words c = c.opened ∷ params_words c.rate.params

abbrev pub fixed_words : Connection → List ℕ
fixed_words c = identity_word c ∷ opened_words c

-- the third line: the waiting payload, the last making and the last out-of-rate cell
abbrev pub turned_words : Destination → List ℕ
turned_words d = payload_words (waiting_payload d.turned) ++ (instant_word d.made.last ∷ [])

-- all but the key
abbrev pub rest_words : Connection → List ℕ
rest_words c =
    identity_word c ∷ destination_word c.destination
    ∷ (source_words c ++ (opened_words c ++ (turned_words c.destination ++ (instant_word c.out_of_rate ∷ []))))

-- a ready instant in one word: 0 if never, else the greater the earlier
abbrev pub key : Instant → ℕ
key None = 0
key (Some i) = 2 ^ 64 - 1 - i

abbrev pub record_words : Connection → List ℕ
record_words c = key (ready_instant c) ∷ rest_words c

-- a free entry has 0 everywhere
abbrev pub record_of : Entry → List ℕ
record_of free = replicate record_width 0
record_of (taken c) = record_words c

-- A member in one word, which is greater for a lower name. Members rise by name, so their words fall. The words of
-- no member are 0 and come last.
abbrev pub member_word : Member → ℕ
member_word m = (no_name - m.name) * 65536 + m.cells

unfoldable pub packed : List Member → List ℕ
packed [] = []
packed (m ∷ ms) = member_word m ∷ packed ms

unfoldable pub member_words : List Member → List ℕ
member_words ms = packed ms ++ replicate (member_capacity - length ms) 0

-- the records, and behind them the members
abbrev pub records : List Entry → List Member → List ℕ
records ss ms = flat record_of ss ++ member_words ms

-- the entries at which a test passes, one bit each, that of entry 0 lowest
unfoldable pub bitmap : (Entry → Bool) → List Entry → ℕ
bitmap f [] = 0
bitmap f (s ∷ ss) = bitmap f ss * 2 + cond (f s) 1 0

unfoldable pub is_taken : Entry → Bool
is_taken free = false
is_taken (taken c) = true

-- the bits of the taken entries, 64 in a word
unfoldable pub group : (number : ℕ) → List Entry → List Entry
group g ss = take 64 (drop (g * 64) ss)

abbrev pub used : List Entry → List ℕ
used ss = row (λ g. bitmap is_taken (group g ss)) 0 groups

-- The directory has a word for each entry in use, with its name and its number, in descending order. The words of
-- the others are 0 and come last.
unfoldable pub directory_word : (entry : ℕ) → Entry → ℕ
directory_word i free = 0
directory_word i (taken c) = (c.name + 1) * capacity + i

unfoldable pub directory_words : (entry : ℕ) → List Entry → List ℕ
directory_words i [] = []
directory_words i (s ∷ ss) = directory_word i s ∷ directory_words (suc i) ss

unfoldable pub insert_descending : ℕ → List ℕ → List ℕ
insert_descending x [] = x ∷ []
insert_descending x (y ∷ ys) = cond (ltb x y) (y ∷ insert_descending x ys) (x ∷ y ∷ ys)

unfoldable pub sort_descending : List ℕ → List ℕ
sort_descending [] = []
sort_descending (x ∷ xs) = insert_descending x (sort_descending xs)

abbrev pub directory : List Entry → List ℕ
directory ss = sort_descending (directory_words 0 ss)

-- Sample j is the last word of run j of k words, and that of the last run is 0: so the number of samples not below a
-- word tells which run it belongs to.
abbrev pub sample_word : (k : ℕ) → List ℕ → (number : ℕ) → ℕ
sample_word k ds j = cond (ltb (j * k + k) capacity) (get_or ds (j * k + (k - 1)) 0) 0

abbrev pub samples : (k n : ℕ) → List ℕ → List ℕ
samples k n ds = row (sample_word k ds) 0 n

-- a directory behind its samples
abbrev pub sampled : List ℕ → List ℕ
sampled ds = samples 64 groups ds ++ (samples 8 (8 * groups) ds ++ ds)

-- The winners: place p has that of its match in two words, its number and its key. A place is n levels above the
-- leaves if it reaches them after it doubles n times.
unfoldable pub height : (most place : ℕ) → ℕ
height zero p = 0
height (suc n) p = cond (leb capacity p) 0 (suc (height n (2 * p)))

unfoldable pub node_winner : List Entry → (place : ℕ) → MatchWinner
node_winner ss zero = no_winner
node_winner ss (suc p) = winner_at ss (height levels (suc p)) (suc p)

-- the winner's name, then its leaf plus 1, with a lowest bit of 0: of two connections the lower name has the lower
-- number; 0 if there is none
unfoldable pub winner_number : MatchWinner → ℕ
winner_number no_winner = 0
winner_number (won_by i v x) = halves v (2 * (x + 1))

unfoldable pub winner_key : MatchWinner → ℕ
winner_key no_winner = 0
winner_key (won_by i v x) = key (Some i)

-- two words for each place from p on
unfoldable pub winner_words : (ℕ → MatchWinner) → (p n : ℕ) → List ℕ
winner_words w p zero = []
winner_words w p (suc n) = winner_number (w p) ∷ winner_key (w p) ∷ winner_words w (suc p) n

abbrev pub nodes : List Entry → List ℕ
nodes ss = winner_words (node_winner ss) 0 capacity

-- the words with these bits of the entries in use, this directory and these winners, and the records
-- of these entries and members
abbrev pub table_words : (level last : ℕ) (us ds ns : List ℕ) → List Entry → List Member → List ℕ
table_words a b us ds ns ss ms = a ∷ b ∷ (replicate spare 0 ++ (us ++ (sampled ds ++ (ns ++ records ss ms))))

unfoldable pub words : State → List ℕ
words s = table_words s.level s.last (used s.entries) (directory s.entries) (nodes s.entries) s.entries s.members
