-- The earliest octet decides: what was read, or refused otherwise than for the end, is so whatever follows.
use mathlib.Core.Path.{◌≡◌, refl, sym, ap, ◌∙◌}
use mathlib.Core.Logic.{◌≢◌}
use mathlib.Core.Bool.{Bool, true, false, cond}
use mathlib.Core.List.{List, [], ◌∷◌, ◌++◌}
use Prim.Native.Nat.{ℕ, zero, suc, ◌+◌, ◌-◌, ◌*◌, ◌≤◌, ◌<◌}
use native.Mathlib.Nat.{not-suc-le-zero, le_of_suc-le-suc}
use native.Mathlib.Omega.{arith}
use lib.Dec.{ltb, eqb}
use lib.ListN.{length, get_or, length-append, get_or-append}
use borrow.Author.Tests.{lt-ltb, ltb-true}
use Rattle.std.specs.Prelude.{Option, Some, None, Ok, Err}
use Rattle.laws.specs.declared.refusals.Refusal.{Refusal}
use Rattle.laws.specs.declared.refusals.Refusal.TheVariants.{TraceEnd}
use Rattle.rate.specs.Units.{largest_rate}
use Rattle.trace.specs.Numbers.{Number, not_shortest, group_read, read_on, number_at}
use Rattle.trace_judge.specs.Rules.{Cell, Sent, Rule, Broken, Verdict, rule_number, broken_or, nothing_sent, with_sent, broken_rule, judged_from}
use Rattle.trace_judge.specs.Octets.{Record, ranged, number_within, rate_read, kind_read, since_read, record_at, most_since, Parsed, prepended, record_then, cells_parsed, verdict_of, trm_read, n_read}
use Rattle.trace.proofs.Groups.{value, no_number, no_end}
use Rattle.trace_judge.specs.Promises.{EarliestDecides}

-- read, or refused but not for the end
abbrev Settled : Number → Type 0
Settled (Ok (v, k)) = Unit {0}
Settled (Err n) = n ≢ TraceEnd

abbrev SettledRecord : Record → Type 0
SettledRecord (Ok (c, k)) = Unit {0}
SettledRecord (Err n) = n ≢ TraceEnd

cond-settled : (b : Bool) (x y z : Number) → (Settled y → z ≡ y) → Settled (cond b x y) → cond b x z ≡ cond b x y
cond-settled true x y z f h = refl
cond-settled false x y z f h = f h

ranged-settled : (low high : ℕ) (x : Number) → Settled (ranged low high x) → Settled x
unfolding ranged
ranged-settled low high (Ok (v, k)) h = tt
ranged-settled low high (Err n) h = h

abbrev cells_of : List Cell → Parsed
cells_of cs = Ok cs

abbrev no_cells : Refusal → Parsed
no_cells r = Err r

abbrev judged_as : Refusal → Verdict
judged_as r = Err r

listed≢refusing : (cs : List Cell) (n : Refusal) → cells_of cs ≢ Err n
listed≢refusing cs n e = cc

refusing-same : (m n : Refusal) → no_cells m ≡ Err n → m ≡ n
refusing-same m n e = cc

prepended-refusing : (c : Cell) (q : Parsed) (n : Refusal) → prepended c q ≡ Err n → q ≡ Err n
unfolding prepended
prepended-refusing c (Err m) n e = e
prepended-refusing c (Ok cs) n e = absurd (listed≢refusing (c ∷ cs) n e)

refused-same : (m n : Refusal) → judged_as m ≡ Err n → m ≡ n
refused-same m n e = cc

unrefused : (b : Option Broken) (n : Refusal) → judged_as n ≢ Ok b
unrefused b n e = cc

-- the rules refuse nothing
judged≢refused : (nrm trm : ℕ) (h : Sent) (cs : List Cell) (n : Refusal) → judged_from nrm trm h cs ≢ Err n
unfolding judged_from
judged≢refused nrm trm h [] n e = unrefused None n (sym e)
judged≢refused nrm trm h (c ∷ cs) n e = go (broken_rule nrm trm h c) (judged≢refused nrm trm (with_sent h c) cs n) e
  where
    go : (b : Option Rule) → judged_from nrm trm (with_sent h c) cs ≢ Err n → broken_or (h.cells + 1) b (judged_from nrm trm (with_sent h c) cs) ≢ Err n
    go None f e = f e
    go (Some r) f e = unrefused (Some (record { cell = h.cells + 1; rule = rule_number r })) n (sym e)

verdict-refused : (n trm : ℕ) (q : Parsed) (r : Refusal) → verdict_of n trm q ≡ Err r → q ≡ Err r
unfolding verdict_of
verdict-refused n trm (Err m) r e = ap no_cells (refused-same m r e)
verdict-refused n trm (Ok cs) r e = absurd (judged≢refused _ _ nothing_sent cs r e)

module _ (s r : List ℕ) where
  longer : (k : ℕ) → k < length s → ltb k (length (s ++ r)) ≡ true
  longer k h = lt-ltb k (length (s ++ r)) (let e = length-append s r in omega arith)

  here : (k : ℕ) → k < length s → get_or (s ++ r) k 0 ≡ get_or s k 0
  here k h = get_or-append s r 0 k h

  -- a number
  read-settled : (n k v p : ℕ) → Settled (read_on n s k v p) → read_on n (s ++ r) k v p ≡ read_on n s k v p
  unfolding read_on
  read-settled zero k v p h = go (ltb k (length s)) refl h
    where
      go : (b : Bool) → ltb k (length s) ≡ b → Settled (cond b (cond (eqb (get_or s k 0) 1) (value (v + p) (k + 1)) no_number) no_end)
          → cond (ltb k (length (s ++ r))) (cond (eqb (get_or (s ++ r) k 0) 1) (value (v + p) (k + 1)) no_number) no_end
          ≡ cond (ltb k (length s)) (cond (eqb (get_or s k 0) 1) (value (v + p) (k + 1)) no_number) no_end
      go true e q = rw (longer k (ltb-true k (length s) e), here k (ltb-true k (length s) e), e)
      go false e q = absurd (q refl)
  read-settled (suc n) k v p h = go (ltb k (length s)) refl h (read-settled n (k + 1) (v + (get_or s k 0 - 128) * p) (p * 128))
    where
      -- the rest of the number in a trace, after the octet b
      rest : List ℕ → ℕ → Number
      rest l b = read_on n l (k + 1) (v + (b - 128) * p) (p * 128)

      go : (x : Bool) → ltb k (length s) ≡ x → Settled (cond x (group_read (get_or s k 0) k v p (rest s (get_or s k 0))) no_end)
          → (Settled (rest s (get_or s k 0)) → rest (s ++ r) (get_or s k 0) ≡ rest s (get_or s k 0))
          → cond (ltb k (length (s ++ r))) (group_read (get_or (s ++ r) k 0) k v p (rest (s ++ r) (get_or (s ++ r) k 0))) no_end
          ≡ cond (ltb k (length s)) (group_read (get_or s k 0) k v p (rest s (get_or s k 0))) no_end
      go true e q ih =
          ap (λ (x : Bool). cond x (group_read (get_or (s ++ r) k 0) k v p (rest (s ++ r) (get_or (s ++ r) k 0))) no_end) (longer k (ltb-true k (length s) e))
          ∙ ap (λ (x : ℕ). group_read x k v p (rest (s ++ r) x)) (here k (ltb-true k (length s) e))
          ∙ cond-settled (ltb (get_or s k 0) 128) (cond (not_shortest (get_or s k 0) p) no_number (value (v + get_or s k 0 * p) (k + 1)))
          (rest s (get_or s k 0)) (rest (s ++ r) (get_or s k 0)) ih q
          ∙ sym (ap (λ (x : Bool). cond x (group_read (get_or s k 0) k v p (rest s (get_or s k 0))) no_end) e)
      go false e q ih = absurd (q refl)

  within-settled : (k low high : ℕ) → Settled (number_within s k low high) → number_within (s ++ r) k low high ≡ number_within s k low high
  within-settled k low high h = ap (ranged low high) (read-settled 9 k 0 1 (ranged-settled low high (number_at s k) h))

  -- a record
  rate-settled : (since kind : ℕ) (x y : Number) → (Settled x → y ≡ x) → SettledRecord (rate_read since kind x) → rate_read since kind y ≡ rate_read since kind x
  unfolding rate_read
  rate-settled since kind (Ok (v, k)) y f h = ap (rate_read since kind) (f tt)
  rate-settled since kind (Err n) y f h = ap (rate_read since kind) (f h)

  kind-settled : (since : ℕ) (x y : Number) → (Settled x → y ≡ x) → SettledRecord (kind_read s since x) → kind_read (s ++ r) since y ≡ kind_read s since x
  unfolding kind_read
  kind-settled since (Ok (v, k)) y f h =
      ap (kind_read (s ++ r) since) (f tt)
      ∙ rate-settled since v (number_within s k 0 largest_rate) (number_within (s ++ r) k 0 largest_rate) (within-settled k 0 largest_rate) h
  kind-settled since (Err n) y f h = ap (kind_read (s ++ r) since) (f h)

  since-settled : (x y : Number) → (Settled x → y ≡ x) → SettledRecord (since_read s x) → since_read (s ++ r) y ≡ since_read s x
  unfolding since_read
  since-settled (Ok (v, k)) y f h =
      ap (since_read (s ++ r)) (f tt) ∙ kind-settled v (number_within s k 1 3) (number_within (s ++ r) k 1 3) (within-settled k 1 3) h
  since-settled (Err n) y f h = ap (since_read (s ++ r)) (f h)

  record-settled : (k most : ℕ) → SettledRecord (record_at s k most) → record_at (s ++ r) k most ≡ record_at s k most
  record-settled k most h = since-settled (number_within s k 0 most) (number_within (s ++ r) k 0 most) (within-settled k 0 most) h

  module _ (n : Refusal) (other : n ≢ TraceEnd) where
    -- the cells
    then-settled :
        (x y : Record) → (SettledRecord x → y ≡ x) → (f g : Cell → ℕ → Parsed) → ((c : Cell) (k : ℕ) → f c k ≡ Err n → g c k ≡ Err n)
        → record_then x f ≡ Err n → record_then y g ≡ Err n
    unfolding record_then prepended
    then-settled (Err m) y e f g h q = ap (λ (z : Record). record_then z g) (e (λ z. other (sym (refusing-same m n q) ∙ z))) ∙ q
    then-settled (Ok (c, k)) y e f g h q = ap (λ (z : Record). record_then z g) (e tt) ∙ ap (prepended c) (h c k (prepended-refusing c (f c k) n q))

    cells-settled : (m i : ℕ) → m ≤ i → (k : ℕ) (first : Bool) (sum : ℕ) → cells_parsed m s k first sum ≡ Err n → cells_parsed i (s ++ r) k first sum ≡ Err n
    unfolding cells_parsed
    cells-settled zero i h k first sum q = absurd (listed≢refusing [] n q)
    cells-settled (suc m) zero h k first sum q = absurd (not-suc-le-zero h)
    cells-settled (suc m) (suc i) h k first sum q = go (ltb k (length s)) refl q (cells-settled m i (le_of_suc-le-suc h))
      where
        most : ℕ
        most = most_since first sum

        go : (b : Bool) → ltb k (length s) ≡ b → cond b (record_then (record_at s k most) (λ c j. cells_parsed m s j false (sum + c.since))) (Ok []) ≡ Err n
            → ((j : ℕ) (first : Bool) (sum : ℕ) → cells_parsed m s j first sum ≡ Err n → cells_parsed i (s ++ r) j first sum ≡ Err n)
            → cond (ltb k (length (s ++ r))) (record_then (record_at (s ++ r) k most) (λ c j. cells_parsed i (s ++ r) j false (sum + c.since))) (Ok []) ≡ Err n
        go true e q ih =
            ap (λ (b : Bool). cond b (record_then (record_at (s ++ r) k most) (λ c j. cells_parsed i (s ++ r) j false (sum + c.since))) (Ok [])) (longer k (ltb-true k (length s) e))
            ∙ then-settled (record_at s k most) (record_at (s ++ r) k most) (record-settled k most)
            (λ c j. cells_parsed m s j false (sum + c.since)) (λ c j. cells_parsed i (s ++ r) j false (sum + c.since)) (λ c j p. ih j false (sum + c.since) p) q
        go false e q ih = absurd (listed≢refusing [] n q)

    -- the answer
    trm-settled : (m : ℕ) (x y : Number) → (Settled x → y ≡ x) → trm_read s m x ≡ Err n → trm_read (s ++ r) m y ≡ Err n
    unfolding trm_read verdict_of
    trm-settled m (Ok (v, k)) y f e =
        ap (trm_read (s ++ r) m) (f tt)
        ∙ ap (verdict_of m v) (cells-settled (length s) (length (s ++ r)) (let l = length-append s r in omega arith) k true 0 (verdict-refused m v (cells_parsed (length s) s k true 0) n e))
    trm-settled m (Err j) y f e = ap (trm_read (s ++ r) m) (f (λ z. other (sym (refused-same j n e) ∙ z))) ∙ e

    n-settled : (x y : Number) → (Settled x → y ≡ x) → n_read s x ≡ Err n → n_read (s ++ r) y ≡ Err n
    unfolding n_read
    n-settled (Ok (v, k)) y f e = ap (n_read (s ++ r)) (f tt) ∙ trm-settled v (number_within s k 0 7) (number_within (s ++ r) k 0 7) (within-settled k 0 7) e
    n-settled (Err j) y f e = ap (n_read (s ++ r)) (f (λ z. other (sym (refused-same j n e) ∙ z))) ∙ e

pub earliest-decides : EarliestDecides
earliest-decides s more n e other = n-settled s more n other (number_within s 0 1 8) (number_within (s ++ more) 0 1 8) (within-settled s more 0 1 8) e
