-- What was read stays in its range and moves on: the offset rises with each number and each record. What was not
-- read is refused with 23, 24 or 25.
use mathlib.Core.Path.{◌≡◌, refl, sym, subst, ◌∙◌}
use mathlib.Core.Bool.{Bool, true, false, cond, ◌&&◌}
use mathlib.Core.List.{List}
use Prim.Native.Nat.{ℕ, zero, suc, ◌+◌, ◌-◌, ◌*◌, ◌≤◌, ◌<◌}
use native.Mathlib.Omega.{arith}
use lib.Dec.{ltb, leb, eqb}
use lib.ListN.{length, get_or}
use borrow.Author.Tests.{leb-true}
use Rattle.std.specs.Prelude.{Ok, Err}
use Rattle.laws.specs.declared.refusals.Refusal.TheVariants.{TraceRange}
use Rattle.laws.specs.Refusals.{number}
use Rattle.rate.specs.Units.{largest_rate}
use Rattle.rate_params.specs.Params.{within}
use Rattle.trace.specs.Numbers.{Number, not_shortest, group_read, read_on, number_at}
use Rattle.trace.proofs.Groups.{value, no_number, no_end}
use Rattle.trace_judge.specs.Octets.{Record, ranged, number_within, rate_read, kind_read, since_read, record_at}
use Rattle.trace_judge.specs.Promises.{JudgeRefusal}

-- out of its range
abbrev pub no_range : Number
no_range = Err TraceRange

-- a number ends after the offset k, or is refused
abbrev After : (k : ℕ) → Number → Type 0
After k (Ok (v, j)) = k < j
After k (Err r) = JudgeRefusal (number r)

after-cond : (k : ℕ) (b : Bool) (x y : Number) → After k x → After k y → After k (cond b x y)
after-cond k true x y p q = p
after-cond k false x y p q = q

after_less : (k : ℕ) (x : Number) → After (k + 1) x → After k x
after_less k (Ok (v, j)) h = omega arith
after_less k (Err r) h = h

next : (k : ℕ) → k < k + 1
next k = omega arith

form : JudgeRefusal 23
form = (omega arith, omega arith)

end : JudgeRefusal 24
end = (omega arith, omega arith)

range : JudgeRefusal 25
range = (omega arith, omega arith)

read-after : (n : ℕ) (s : List ℕ) (k v p : ℕ) → After k (read_on n s k v p)
unfolding read_on
read-after zero s k v p =
    after-cond k (ltb k (length s)) (cond (eqb (get_or s k 0) 1) (value (v + p) (k + 1)) no_number) no_end
    (after-cond k (eqb (get_or s k 0) 1) (value (v + p) (k + 1)) no_number (next k) form) end
read-after (suc n) s k v p =
    let b = get_or s k 0 in
    let more = read_on n s (k + 1) (v + (b - 128) * p) (p * 128) in
    let last = cond (not_shortest b p) no_number (value (v + b * p) (k + 1)) in
    after-cond k (ltb k (length s)) (group_read b k v p more) no_end
    (after-cond k (ltb b 128) last more
    (after-cond k (not_shortest b p) no_number (value (v + b * p) (k + 1)) form (next k))
    (after_less k more (read-after n s (k + 1) (v + (b - 128) * p) (p * 128)))) end

-- and lies in its range
abbrev pub NumberFits : (k low high : ℕ) → Number → Type 0
NumberFits k low high (Ok (v, j)) = (low ≤ v) × (v ≤ high) × (k < j)
NumberFits k low high (Err r) = JudgeRefusal (number r)

ranged-fits : (k low high : ℕ) (x : Number) → After k x → NumberFits k low high (ranged low high x)
unfolding ranged within
ranged-fits k low high (Err r) h = h
ranged-fits k low high (Ok (v, j)) h = go (leb low v) (leb v high) refl refl
  where
    go : (a b : Bool) → leb low v ≡ a → leb v high ≡ b → NumberFits k low high (cond (a && b) (Ok (v, j)) no_range)
    go true true e f = (leb-true low v e, leb-true v high f, h)
    go true false e f = range
    go false b e f = range

pub within-fits : (s : List ℕ) (k low high : ℕ) → NumberFits k low high (number_within s k low high)
within-fits s k low high = ranged-fits k low high (number_at s k) (read-after 9 s k 0 1)

pub value-fits : (s : List ℕ) (k low high : ℕ) {x : Number} {v j : ℕ} → x ≡ number_within s k low high → x ≡ Ok (v, j) → (low ≤ v) × (v ≤ high) × (k < j)
value-fits s k low high e f = subst (NumberFits k low high) (sym e ∙ f) (within-fits s k low high)

-- a record: its time is at most what it may be, and it ends after its offset
abbrev pub RecordFits : (k most : ℕ) → Record → Type 0
RecordFits k most (Ok (c, j)) = (c.since ≤ most) × (k < j)
RecordFits k most (Err r) = JudgeRefusal (number r)

rate-fits : (k most since kind j : ℕ) → since ≤ most → k < j → (x : Number) → NumberFits j 0 largest_rate x → RecordFits k most (rate_read since kind x)
unfolding rate_read
rate-fits k most since kind j h l (Err r) f = f
rate-fits k most since kind j h l (Ok (v, i)) f = (h, omega (arith, f.2))

kind_fits : (s : List ℕ) (k most since j : ℕ) → since ≤ most → k < j → (x : Number) → NumberFits j 1 3 x → RecordFits k most (kind_read s since x)
unfolding kind_read
kind_fits s k most since j h l (Err r) f = f
kind_fits s k most since j h l (Ok (v, i)) f = rate-fits k most since v i h (omega (arith, f.2)) (number_within s i 0 largest_rate) (within-fits s i 0 largest_rate)

since-fits : (s : List ℕ) (k most : ℕ) (x : Number) → NumberFits k 0 most x → RecordFits k most (since_read s x)
unfolding since_read
since-fits s k most (Err r) f = f
since-fits s k most (Ok (v, j)) f = kind_fits s k most v j f.1 f.2 (number_within s j 1 3) (within-fits s j 1 3)

pub record-fits : (s : List ℕ) (k most : ℕ) → RecordFits k most (record_at s k most)
record-fits s k most = since-fits s k most (number_within s k 0 most) (within-fits s k 0 most)
