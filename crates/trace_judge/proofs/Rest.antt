-- The loop of the judge: what is left to read, judged from what is kept, gives the answer.
use mathlib.Core.Path.{◌≡◌, refl, sym, ap, subst, ◌∙◌}
use mathlib.Core.Bool.{Bool, true, false, cond}
use mathlib.Core.List.{List, []}
use Prim.Native.Nat.{ℕ, zero, suc, ◌+◌, ◌-◌, ◌^◌, ◌≤◌, ◌<◌}
use native.Mathlib.Nat.{le_refl}
use native.Mathlib.Omega.{arith}
use lib.Dec.{eqb}
use lib.ListN.{length}
use lib.Pow.{pow_pos}
use borrow.Author.Tests.{lt-ltb, le-ltb, ne_eqb}
use Rattle.std.specs.Prelude.{Option, Some, None, Ok, Err, IsErrAnd}
use Rattle.laws.specs.declared.refusals.Refusal.{Refusal}
use Rattle.rate.specs.Units.{latest_time}
use Rattle.rate_params.specs.Params.{trm_time}
use Rattle.rate_params.proofs.Ranges.{trm-le}
use Rattle.trace_judge.specs.Rules.{Cell, Sent, Rule, Broken, Verdict, is_forward_cell, nothing_sent, with_sent, broken_rule, broken_at, broken_or, judged_from}
use Rattle.trace_judge.specs.Octets.{Record, record_at, most_since, Parsed, prepended, record_then, cells_parsed, verdict_of}
use Rattle.trace_judge.specs.Kept.{with_broken, NextFits, RulesFit}
use Rattle.trace_judge.proofs.Progress.{RecordFits, record-fits}

abbrev refused : Refusal → Verdict
refused r = Err r

abbrev verdict : Option Broken → Verdict
verdict b = Ok b

-- a refusal that `?` hands on
pub passed_on : (v : Verdict) {r : Refusal} → IsErrAnd v (λ x. x ≡ r) → v ≡ refused r
passed_on (Ok b) h = absurd h
passed_on (Err x) h = ap refused h

-- the answer, from what is kept and from the cells that are left
unfoldable pub finish : (nrm trm : ℕ) → Option Broken → Sent → Parsed → Verdict
finish nrm trm b h (Err r) = Err r
finish nrm trm (Some b) h (Ok cs) = Ok (Some b)
finish nrm trm None h (Ok cs) = judged_from nrm trm h cs

finish-start : (n trm : ℕ) (q : Parsed) → finish (2 ^ n) (trm_time trm) None nothing_sent q ≡ verdict_of n trm q
unfolding finish verdict_of
finish-start n trm (Err r) = refl
finish-start n trm (Ok cs) = refl

finish-end : (nrm trm : ℕ) (b : Option Broken) (h : Sent) → verdict b ≡ finish nrm trm b h (Ok [])
unfolding finish judged_from
finish-end nrm trm (Some b) h = refl
finish-end nrm trm None h = refl

finish-next : (nrm trm : ℕ) (b : Option Broken) (h : Sent) (c : Cell) (q : Parsed) → finish nrm trm b h (prepended c q) ≡ finish nrm trm (with_broken nrm trm b h c) (with_sent h c) q
unfolding finish prepended with_broken judged_from
finish-next nrm trm b h c (Err r) = refl
finish-next nrm trm (Some b) h c (Ok cs) = refl
finish-next nrm trm None h c (Ok cs) = go (broken_rule nrm trm h c)
  where
    go : (r : Option Rule) → broken_or (h.cells + 1) r (judged_from nrm trm (with_sent h c) cs) ≡ finish nrm trm (broken_at (h.cells + 1) r) (with_sent h c) (Ok cs)
    go None = refl
    go (Some r) = refl

-- counts and times in order
pub record InSequence (offset : ℕ) (h : Sent) : Type 0 where
  pub few : h.k ≤ h.cells
  pub seen : h.cells ≤ offset
  pub past : h.forward ≤ h.time
  pub latest : h.time ≤ latest_time

ordered-next : (k j : ℕ) (h : Sent) (c : Cell) → InSequence k h → k < j → h.time + c.since ≤ latest_time → InSequence j (with_sent h c)
unfolding with_sent
ordered-next k j h c o l t = go (is_forward_cell c)
  where
    go : (f : Bool) → InSequence j (cond f (record { cells = h.cells + 1; time = h.time + c.since; forward = h.time + c.since; k = 0 }) (record { cells = h.cells + 1; time = h.time + c.since; forward = h.forward; k = h.k + 1 }))
    go true = record { few = omega arith; seen = omega (arith, o.seen); past = omega arith; latest = t }
    go false = record { few = omega (arith, o.few); seen = omega (arith, o.seen); past = omega (arith, o.past); latest = t }

later-next : (h : Sent) (c : Cell) → (eqb (with_sent h c).cells 0 ≡ false) × ((with_sent h c).time ≡ h.time + c.since)
unfolding with_sent
later-next h c = go (is_forward_cell c)
  where
    go : (f : Bool) →
        let x : Sent = cond f (record { cells = h.cells + 1; time = h.time + c.since; forward = h.time + c.since; k = 0 }) (record { cells = h.cells + 1; time = h.time + c.since; forward = h.forward; k = h.k + 1 }) in
        (eqb x.cells 0 ≡ false) × (x.time ≡ h.time + c.since)
    go true = (ne_eqb (h.cells + 1) 0 (λ z. omega arith), refl)
    go false = (ne_eqb (h.cells + 1) 0 (λ z. omega arith), refl)

most-le : (first : Bool) (time : ℕ) → most_since first time ≤ latest_time - time
unfolding most_since
most-le true time = omega arith
most-le false time = le_refl (latest_time - time)

-- the cells from here on; at most n of them are read
abbrev left : (n : ℕ) → List ℕ → (k : ℕ) → Sent → Parsed
left n s k h = cells_parsed n s k (eqb h.cells 0) h.time

-- what is known whenever the loop's test is reached, v being the answer
pub record Rest (nrm trm : ℕ) (s : List ℕ) (v : Verdict) (k : ℕ) (b : Option Broken) (h : Sent) : Type 0 where
  pub some : 0 < nrm
  pub short : trm ≤ 100_000_000
  pub steps : ℕ
  pub enough : length s - k ≤ steps
  pub same : finish nrm trm b h (left steps s k h) ≡ v
  pub order : InSequence k h

pub rest-start : (n trm : ℕ) (s : List ℕ) (k : ℕ) → {x y : ℕ} → x ≡ 2 ^ n → y ≡ trm_time trm → Rest x y s (verdict_of n trm (cells_parsed (length s) s k true 0)) k None nothing_sent
rest-start n trm s k e f = record {
  some = omega (arith, e, pow_pos n);
  short = omega (arith, f, trm-le trm);
  steps = length s;
  enough = omega arith;
  same = rw (e, f) (finish-start n trm (cells_parsed (length s) s k true 0));
  order = record { few = le_refl 0; seen = omega arith; past = le_refl 0; latest = omega arith };
}

-- one record more
unroll : (n : ℕ) (s : List ℕ) (k : ℕ) (first : Bool) (sum : ℕ) → length s - k ≤ n → k < length s
    → cells_parsed n s k first sum ≡ record_then (record_at s k (most_since first sum)) (λ c j. cells_parsed (n - 1) s j false (sum + c.since))
unfolding cells_parsed
unroll zero s k first sum en h = absurd (none en h)
  where
    none : length s - k ≤ 0 → k < length s → ⊥
    none a b = omega arith
unroll (suc n) s k first sum en h = rw (lt-ltb k (length s) h, less n)
  where
    less : (n : ℕ) → suc n - 1 ≡ n
    less n = omega arith

ended : (n : ℕ) (s : List ℕ) (k : ℕ) (first : Bool) (sum : ℕ) → length s ≤ k → cells_parsed n s k first sum ≡ Ok []
unfolding cells_parsed
ended zero s k first sum h = refl
ended (suc n) s k first sum h = rw (le-ltb k (length s) h)

module _ {nrm trm : ℕ} {s : List ℕ} {v : Verdict} {k : ℕ} {b : Option Broken} {h : Sent} (rest : Rest nrm trm s v k b h) where
  pub rest_end : length s ≤ k → verdict b ≡ v
  rest_end l = finish-end nrm trm b h ∙ ap (finish nrm trm b h) (sym (ended rest.steps s k (eqb h.cells 0) h.time l)) ∙ rest.same

  module _ (l : k < length s) {x : Record} {most : ℕ} (m : most ≡ most_since (eqb h.cells 0) h.time) (e : x ≡ record_at s k most) where
    read : finish nrm trm b h (record_then x (λ c j. cells_parsed (rest.steps - 1) s j false (h.time + c.since))) ≡ v
    read = ap (λ (y : Record). finish nrm trm b h (record_then y (λ c j. cells_parsed (rest.steps - 1) s j false (h.time + c.since)))) (e ∙ ap (record_at s k) m)
        ∙ ap (finish nrm trm b h) (sym (unroll rest.steps s k (eqb h.cells 0) h.time rest.enough l)) ∙ rest.same

    pub rest-refused : {r : Refusal} → x ≡ Err r → refused r ≡ v
    unfolding finish record_then
    rest-refused f = ap (λ (y : Record). finish nrm trm b h (record_then y (λ c j. cells_parsed (rest.steps - 1) s j false (h.time + c.since)))) (sym f) ∙ read

    module _ {c : Cell} {j : ℕ} (f : x ≡ Ok (c, j)) where
      fits : (c.since ≤ latest_time - h.time) × (k < j)
      fits =
          let q : (c.since ≤ most) × (k < j) = subst (RecordFits k most) (sym e ∙ f) (record-fits s k most) in
          let i = most-le (eqb h.cells 0) h.time in
          (omega (arith, q.0), q.1)

      pub rest-on : k < j
      rest-on = fits.1

      pub next_fits : length s < 2 ^ 64 → NextFits h c
      next_fits w =
          let o = rest.order in
          record { cells = omega (arith, o.seen); time = omega (arith, fits.0, o.latest); k = omega (arith, o.few, o.seen) }

      pub rules-fit : length s < 2 ^ 64 → RulesFit nrm trm h c
      rules-fit w = record { next = next_fits w; some = rest.some; due = omega (arith, rest.short, rest.order.past, rest.order.latest) }

      pub rest-next : {d : Option Broken} {g : Sent} → d ≡ with_broken nrm trm b h c → g ≡ with_sent h c → Rest nrm trm s v j d g
      unfolding record_then
      rest-next p q = rw (p, q) (record {
        some = rest.some;
        short = rest.short;
        steps = rest.steps - 1;
        enough = omega (arith, rest.enough, fits.1);
        same =
            ap (λ (z : Bool). finish nrm trm (with_broken nrm trm b h c) (with_sent h c) (cells_parsed (rest.steps - 1) s j z (with_sent h c).time)) (later-next h c).0
            ∙ ap (λ (t : ℕ). finish nrm trm (with_broken nrm trm b h c) (with_sent h c) (cells_parsed (rest.steps - 1) s j false t)) (later-next h c).1
            ∙ sym (finish-next nrm trm b h c (cells_parsed (rest.steps - 1) s j false (h.time + c.since)))
            ∙ ap (λ (y : Record). finish nrm trm b h (record_then y (λ c j. cells_parsed (rest.steps - 1) s j false (h.time + c.since)))) (sym f) ∙ read;
        order = ordered-next k j h c rest.order fits.1 (omega (arith, fits.0, rest.order.latest));
      })
