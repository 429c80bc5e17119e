-- The judge refuses with 23, 24 or 25 and with no other number.
use mathlib.Core.Path.{subst}
use mathlib.Core.Bool.{Bool, true, false, cond}
use mathlib.Core.List.{List, [], ◌∷◌}
use Prim.Native.Nat.{ℕ, zero, suc, ◌+◌, ◌^◌}
use lib.Dec.{ltb}
use lib.ListN.{length}
use Rattle.std.specs.Prelude.{Option, Some, None, Ok, Err}
use Rattle.laws.specs.Refusals.{number}
use Rattle.rate_params.specs.Params.{trm_time}
use Rattle.trace.specs.Numbers.{Number}
use Rattle.trace_judge.specs.Rules.{Cell, Sent, Rule, Verdict, broken_or, nothing_sent, with_sent, broken_rule, judged_from}
use Rattle.trace_judge.specs.Octets.{Record, number_within, record_at, most_since, Parsed, prepended, record_then, cells_parsed, verdict_of, trm_read, n_read}
use Rattle.trace_judge.specs.Promises.{JudgeRefusal, RefusalNumbers}
use Rattle.trace_judge.proofs.Progress.{NumberFits, within-fits, RecordFits, record-fits}

abbrev NumberedParse : Parsed → Type 0
NumberedParse (Err r) = JudgeRefusal (number r)
NumberedParse (Ok cs) = Unit {0}

abbrev NumberedVerdict : Verdict → Type 0
NumberedVerdict (Err r) = JudgeRefusal (number r)
NumberedVerdict (Ok b) = Unit {0}

prepended-numbered : (c : Cell) (p : Parsed) → NumberedParse p → NumberedParse (prepended c p)
unfolding prepended
prepended-numbered c (Err r) h = h
prepended-numbered c (Ok cs) h = tt

then-numbered : (k most : ℕ) (x : Record) (f : Cell → ℕ → Parsed) → RecordFits k most x → ((c : Cell) (j : ℕ) → NumberedParse (f c j)) → NumberedParse (record_then x f)
unfolding record_then
then-numbered k most (Err r) f h g = h
then-numbered k most (Ok (c, j)) f h g = prepended-numbered c (f c j) (g c j)

cond-numbered : (b : Bool) (p q : Parsed) → NumberedParse p → NumberedParse q → NumberedParse (cond b p q)
cond-numbered true p q h g = h
cond-numbered false p q h g = g

cells-numbered : (n : ℕ) (s : List ℕ) (k : ℕ) (first : Bool) (sum : ℕ) → NumberedParse (cells_parsed n s k first sum)
unfolding cells_parsed
cells-numbered zero s k first sum = tt
cells-numbered (suc n) s k first sum =
    let f : Cell → ℕ → Parsed = λ c j. cells_parsed n s j false (sum + c.since) in
    cond-numbered (ltb k (length s)) (record_then (record_at s k (most_since first sum)) f) (Ok [])
    (then-numbered k (most_since first sum) (record_at s k (most_since first sum)) f (record-fits s k (most_since first sum)) (λ c j. cells-numbered n s j false (sum + c.since))) tt

-- the rules refuse nothing
rules-numbered : (nrm trm : ℕ) (h : Sent) (cs : List Cell) → NumberedVerdict (judged_from nrm trm h cs)
unfolding judged_from
rules-numbered nrm trm h [] = tt
rules-numbered nrm trm h (c ∷ cs) = go (broken_rule nrm trm h c) (judged_from nrm trm (with_sent h c) cs) (rules-numbered nrm trm (with_sent h c) cs)
  where
    go : (b : Option Rule) (v : Verdict) → NumberedVerdict v → NumberedVerdict (broken_or (h.cells + 1) b v)
    go None v g = g
    go (Some r) v g = tt

verdict-numbered : (n trm : ℕ) (p : Parsed) → NumberedParse p → NumberedVerdict (verdict_of n trm p)
unfolding verdict_of
verdict-numbered n trm (Err r) h = h
verdict-numbered n trm (Ok cs) h = rules-numbered (2 ^ n) (trm_time trm) nothing_sent cs

trm-numbered : (s : List ℕ) (n k : ℕ) (x : Number) → NumberFits k 0 7 x → NumberedVerdict (trm_read s n x)
unfolding trm_read
trm-numbered s n k (Err r) h = h
trm-numbered s n k (Ok (trm, j)) h = verdict-numbered n trm (cells_parsed (length s) s j true 0) (cells-numbered (length s) s j true 0)

n-numbered : (s : List ℕ) (x : Number) → NumberFits 0 1 8 x → NumberedVerdict (n_read s x)
unfolding n_read
n-numbered s (Err r) h = h
n-numbered s (Ok (n, k)) h = trm-numbered s n k (number_within s k 0 7) (within-fits s k 0 7)

pub refusal-numbers : RefusalNumbers
refusal-numbers s n e = subst NumberedVerdict e (n-numbered s (number_within s 0 1 8) (within-fits s 0 1 8))
