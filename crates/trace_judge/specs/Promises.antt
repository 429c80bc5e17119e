-- What is promised of the judge beside its answer. (Document 02, L11.)
use Rattle.std.specs.Prelude.{ℕ, ◌≤◌, ◌≡◌, ◌≢◌, List, ◌++◌, Err}
use Rattle.laws.specs.declared.refusals.Refusal.{Refusal}
use Rattle.laws.specs.declared.refusals.Refusal.TheVariants.{TraceEnd}
use Rattle.laws.specs.Refusals.{number}
use Rattle.trace_judge.specs.Octets.{judged_octets}

-- the earliest octet decides: a refusal other than 24, which is seen at the end, stands whatever octets follow
abbrev pub EarliestDecides : Type 0
EarliestDecides = (s more : List ℕ) (r : Refusal) → judged_octets s ≡ Err r → r ≢ TraceEnd → judged_octets (s ++ more) ≡ Err r

-- its refusals are 23, 24 and 25, so that 0 is none of them
abbrev pub JudgeRefusal : (refusal : ℕ) → Type 0
JudgeRefusal n = (23 ≤ n) × (n ≤ 25)

abbrev pub RefusalNumbers : Type 0
RefusalNumbers = (s : List ℕ) (r : Refusal) → judged_octets s ≡ Err r → JudgeRefusal (number r)
