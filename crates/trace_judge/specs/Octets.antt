-- The octets of a trace, and the judge's answer. (Document 02, L11.)
-- Numbers are read one after the other and each is tested before the next is read, so that the earliest octet decides.
use Rattle.std.specs.Prelude.{ℕ, zero, suc, ◌+◌, ◌-◌, Bool, true, false, cond, List, [], ◌∷◌, ltb, length, Result, Ok, Err}
use Rattle.laws.specs.declared.refusals.Refusal.{Refusal}
use Rattle.laws.specs.declared.refusals.Refusal.TheVariants.{TraceRange}
use Rattle.rate.specs.Units.{largest_rate, latest_time}
use Rattle.rate_params.specs.Params.{within}
use Rattle.trace.specs.Numbers.{Number, number_at}
use Rattle.trace_judge.specs.Rules.{Cell, Verdict, judged_cells}

-- a cell and the offset after its record, or why there is none
abbrev pub Record : Type 0
Record = Result (Cell × ℕ) Refusal

-- a number out of its range: TraceRange; TraceNumber goes before it, since such a number is in no range
unfoldable pub ranged : (low high : ℕ) → Number → Number
ranged low high (Err r) = Err r
ranged low high (Ok (v, k)) = cond (within low high v) (Ok (v, k)) (Err TraceRange)

abbrev pub number_within : List ℕ → (offset low high : ℕ) → Number
number_within s k low high = ranged low high (number_at s k)

-- A cell's record, from its last number to its first: the rate,
unfoldable pub rate_read : (since kind : ℕ) → Number → Record
rate_read since kind (Err r) = Err r
rate_read since kind (Ok (rate, k)) = Ok (record { since = since; kind = kind; rate = rate }, k)

abbrev pub with_kind : List ℕ → (since kind offset : ℕ) → Record
with_kind s since kind k = rate_read since kind (number_within s k 0 largest_rate)

-- the kind,
unfoldable pub kind_read : List ℕ → (since : ℕ) → Number → Record
kind_read s since (Err r) = Err r
kind_read s since (Ok (kind, k)) = with_kind s since kind k

abbrev pub with_since : List ℕ → (since offset : ℕ) → Record
with_since s since k = kind_read s since (number_within s k 1 3)

-- and the time since the cell before, which is at most `most`
unfoldable pub since_read : List ℕ → Number → Record
since_read s (Err r) = Err r
since_read s (Ok (since, k)) = with_since s since k

abbrev pub record_at : List ℕ → (offset most : ℕ) → Record
record_at s k most = since_read s (number_within s k 0 most)

-- the first cell's time is 0; a later one's is what the sum of those before leaves of the latest time
unfoldable pub most_since : (first : Bool) → (sum : ℕ) → ℕ
most_since true sum = 0
most_since false sum = latest_time - sum

-- the cells of a trace, or a refusal
abbrev pub Parsed : Type 0
Parsed = Result (List Cell) Refusal

unfoldable pub prepended : Cell → Parsed → Parsed
prepended c (Err r) = Err r
prepended c (Ok cs) = Ok (c ∷ cs)

unfoldable pub record_then : Record → (Cell → ℕ → Parsed) → Parsed
record_then (Err r) f = Err r
record_then (Ok (c, k)) f = prepended c (f c k)

-- the cells from an offset on, in at most n records: as many as there are octets are enough,
-- since a record has at least three
unfoldable pub cells_parsed : (n : ℕ) → List ℕ → (offset : ℕ) → (first : Bool) → (sum : ℕ) → Parsed
cells_parsed zero s k first sum = Ok []
cells_parsed (suc n) s k first sum =
    cond (ltb k (length s))
    (record_then (record_at s k (most_since first sum)) (λ c j. cells_parsed n s j false (sum + c.since)))
    (Ok [])

-- a refusal goes before any broken rule
unfoldable pub verdict_of : (n trm : ℕ) → Parsed → Verdict
verdict_of n trm (Err r) = Err r
verdict_of n trm (Ok cs) = judged_cells n trm cs

-- The trace: n, the Trm number, and the cells.
unfoldable pub trm_read : List ℕ → (n : ℕ) → Number → Verdict
trm_read s n (Err r) = Err r
trm_read s n (Ok (trm, k)) = verdict_of n trm (cells_parsed (length s) s k true 0)

abbrev pub with_n : List ℕ → (n offset : ℕ) → Verdict
with_n s n k = trm_read s n (number_within s k 0 7)

unfoldable pub n_read : List ℕ → Number → Verdict
n_read s (Err r) = Err r
n_read s (Ok (n, k)) = with_n s n k

-- the judge's answer to the octets of a trace
abbrev pub judged_octets : List ℕ → Verdict
judged_octets s = n_read s (number_within s 0 1 8)
