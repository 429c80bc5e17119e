-- What the judge does not refuse was written in shortest form, of numbers in their ranges.
use Prim.Native.Nat.{ℕ, zero, suc, ◌+◌, ◌≤◌, ◌<◌}
use mathlib.Core.Path.{◌≡◌, refl, sym, ap, subst, ◌∙◌}
use mathlib.Core.Logic.{◌≢◌}
use mathlib.Core.Bool.{Bool, true, false, cond}
use mathlib.Core.List.{List, [], ◌∷◌, ◌++◌}
use native.Mathlib.Nat.{add-zero}
use native.Mathlib.Omega.{arith}
use lib.Dec.{ltb}
use lib.ListN.{length, drop, drop_of_length-le}
use lib.Seq.{drop-cons}
use borrow.Author.Tests.{ltb-false}
use Rattle.std.specs.Prelude.{Option, Some, None, Ok, Err}
use Rattle.rate.specs.Units.{largest_rate, latest_time}
use Rattle.rate_params.specs.Params.{within}
use Rattle.trace.specs.Numbers.{Number, number_at, written, written_all, Stands}
use Rattle.trace.specs.Shortest.{Octets}
use Rattle.trace.proofs.Groups.{value}
use Rattle.trace.proofs.Shortest.{shortest-only}
use Rattle.trace_judge.specs.declared.cells.Cell.{Cell}
use Rattle.trace_judge.specs.declared.rules.Sent.{Sent}
use Rattle.trace_judge.specs.declared.rules.Rule.{Rule}
use Rattle.trace_judge.specs.Rules.{broken_or, nothing_sent, with_sent, broken_rule, judged_from}
use Rattle.trace_judge.specs.Octets.{Record, ranged, number_within, rate_read, kind_read, since_read, record_at, most_since, Parsed, prepended, record_then, cells_parsed, verdict_of, trm_read, n_read, judged_octets}
use Rattle.trace_judge.specs.RoundTrip.{span}
use Rattle.trace_judge.proofs.Progress.{no_range, value-fits}
use Rattle.laws.specs.All.{All}
use Rattle.promise_traces.specs.Written.{cell_numbers, trace_octets, CellsFit}
use Rattle.promise_traces.specs.Shortest.{CellInRange, TraceInRange, WrittenTrace, NotRefused, ShortestTraces}
use Rattle.promise_traces.proofs.Reread.{written-is-judged}

-- what stands at an offset is what the list goes on with
stands-drop : (s : List ℕ) (k : ℕ) (l : List ℕ) → Stands s k l → drop k s ≡ l ++ drop (k + length l) s
stands-drop s k [] st = ap (λ (i : ℕ). drop i s) (sym (add-zero k))
stands-drop s k (b ∷ l) st =
    drop-cons s k 0 st.0 ∙ ap (λ (z : ℕ). z ∷ drop (suc k) s) st.1 ∙ ap (λ (i : ℕ). b ∷ drop i s) (one k)
    ∙ ap (λ (z : List ℕ). b ∷ z) (stands-drop s (k + 1) l st.2 ∙ ap (λ (i : ℕ). l ++ drop i s) (next k (length l)))
  where
    one : (k : ℕ) → suc k ≡ k + 1
    one k = omega arith

    next : (k m : ℕ) → k + 1 + m ≡ k + suc m
    next k m = omega arith

-- The ranges: those that the judge tests one after the other are those of the document.
fit-cells : (first : Bool) (sum : ℕ) (cs : List Cell) → CellsFit first sum cs → All CellInRange cs
fit-cells first sum [] f = tt
fit-cells first sum (c ∷ cs) f = (record { kind_low = f.1.0; kind_high = f.1.1; rate = f.2 }, fit-cells false (sum + c.since) cs f.3)

fit-time : (sum : ℕ) (cs : List Cell) → sum ≤ latest_time → CellsFit false sum cs → sum + span cs ≤ latest_time
unfolding span most_since
fit-time sum [] h f = omega (arith, h)
fit-time sum (c ∷ cs) h f = let k = fit-time (sum + c.since) cs (omega (arith, h, f.0)) f.3 in omega (arith, k)

in-range : (n trm : ℕ) (cs : List Cell) → 1 ≤ n → n ≤ 8 → trm ≤ 7 → CellsFit true 0 cs → TraceInRange n trm cs
unfolding span most_since
in-range n trm [] a b d f = record { n_low = a; n_high = b; trm_high = d; first = tt; cells = tt; time = omega arith }
in-range n trm (c ∷ cs) a b d f =
    let z : c.since ≡ 0 = omega (arith, f.0) in
    record { n_low = a; n_high = b; trm_high = d; first = z; cells = fit-cells true 0 (c ∷ cs) f; time = let k = fit-time (0 + c.since) cs (omega (arith, z)) f.3 in omega (arith, k) }

range-fits : (sum : ℕ) (cs : List Cell) → All CellInRange cs → sum + span cs ≤ latest_time → CellsFit false sum cs
unfolding span most_since
range-fits sum [] h f = tt
range-fits sum (c ∷ cs) h f = (omega (arith, f), (h.0.kind_low, h.0.kind_high), h.0.rate, range-fits (sum + c.since) cs h.1 (omega (arith, f)))

fits : (n trm : ℕ) (cs : List Cell) → TraceInRange n trm cs → CellsFit true 0 cs
unfolding span most_since
fits n trm [] r = tt
fits n trm (c ∷ cs) r = (omega (arith, r.first), (r.cells.0.kind_low, r.cells.0.kind_high), r.cells.0.rate, range-fits (0 + c.since) cs r.cells.1 (omega (arith, r.time)))

abbrev whole : Cell → ℕ → Record
whole c j = Ok (c, j)

abbrev parsed : List Cell → Parsed
parsed cs = Ok cs

module _ (s : List ℕ) (o : Octets s) where
  -- One number.
  record NumberRead (k low high x j : ℕ) : Type 0 where
    least : low ≤ x
    most : x ≤ high
    after : k < j
    octets : drop k s ≡ written 9 x ++ drop j s

  ranged-value : (low high : ℕ) (m : Number) (x j : ℕ) → ranged low high m ≡ Ok (x, j) → m ≡ Ok (x, j)
  unfolding ranged
  ranged-value low high (Err r) x j e = absurd cc
  ranged-value low high (Ok (v, i)) x j e = go (within low high v) e
    where
      go : (b : Bool) → cond b (value v i) no_range ≡ Ok (x, j) → value v i ≡ Ok (x, j)
      go true e = e
      go false e = absurd cc

  number_read : (k low high x j : ℕ) → number_within s k low high ≡ Ok (x, j) → NumberRead k low high x j
  number_read k low high x j e =
      let w = shortest-only s o k x j (ranged-value low high (number_at s k) x j e) in
      let f = value-fits s k low high (sym e) refl in
      record { least = f.0; most = f.1; after = f.2; octets = stands-drop s k (written 9 x) w.stands ∙ ap (λ (i : ℕ). written 9 x ++ drop i s) (sym w.end) }

  -- One cell.
  record RecordRead (k most : ℕ) (c : Cell) (j : ℕ) : Type 0 where
    since : c.since ≤ most
    cell : CellInRange c
    after : k < j
    octets : drop k s ≡ written 9 c.since ++ (written 9 c.kind ++ (written 9 c.rate ++ drop j s))

  rate-in :
      (k most since kind i l : ℕ) → NumberRead k 0 most since i → NumberRead i 1 3 kind l → (m : Number) → number_within s l 0 largest_rate ≡ m → (c : Cell) (j : ℕ)
      → rate_read since kind m ≡ Ok (c, j) → RecordRead k most c j
  unfolding rate_read
  rate-in k most since kind i l a b (Err r) q c j e = absurd cc
  rate-in k most since kind i l a b (Ok (x, h)) q c j e = subst (λ (t : ℕ). RecordRead k most c t) (ends e) (subst (λ (d : Cell). RecordRead k most d h) (cell-is e) (record {
    since = a.most;
    cell = record { kind_low = b.least; kind_high = b.most; rate = d.most };
    after = omega (arith, a.after, b.after, d.after);
    octets = a.octets ∙ ap (λ (z : List ℕ). written 9 since ++ z) (b.octets ∙ ap (λ (z : List ℕ). written 9 kind ++ z) d.octets);
  }))
    where
      d : NumberRead l 0 largest_rate x h
      d = number_read l 0 largest_rate x h q

      same : whole (record { since = since; kind = kind; rate = x }) h ≡ Ok (c, j) → ◌≡◌ {A = Cell × ℕ} (record { since = since; kind = kind; rate = x }, h) (c, j)
      same e = cc

      cell-is : whole (record { since = since; kind = kind; rate = x }) h ≡ Ok (c, j) → record { since = since; kind = kind; rate = x } ≡ c
      cell-is e = ap (λ (p : Cell × ℕ). p.0) (same e)

      ends : whole (record { since = since; kind = kind; rate = x }) h ≡ Ok (c, j) → h ≡ j
      ends e = ap (λ (p : Cell × ℕ). p.1) (same e)

  kind-in :
      (k most since i : ℕ) → NumberRead k 0 most since i → (m : Number) → number_within s i 1 3 ≡ m → (c : Cell) (j : ℕ) → kind_read s since m ≡ Ok (c, j) → RecordRead k most c j
  unfolding kind_read
  kind-in k most since i a (Err r) q c j e = absurd cc
  kind-in k most since i a (Ok (x, l)) q c j e = rate-in k most since x i l a (number_read i 1 3 x l q) (number_within s l 0 largest_rate) refl c j e

  since-in : (k most : ℕ) (m : Number) → number_within s k 0 most ≡ m → (c : Cell) (j : ℕ) → since_read s m ≡ Ok (c, j) → RecordRead k most c j
  unfolding since_read
  since-in k most (Err r) q c j e = absurd cc
  since-in k most (Ok (x, i)) q c j e = kind-in k most x i (number_read k 0 most x i q) (number_within s i 1 3) refl c j e

  -- The cells.
  record CellsRead (k : ℕ) (first : Bool) (sum : ℕ) (cs : List Cell) : Type 0 where
    fit : CellsFit first sum cs
    octets : drop k s ≡ written_all (cell_numbers cs)

  none_left : (k : ℕ) (first : Bool) (sum : ℕ) (cs : List Cell) → length s ≤ k → parsed [] ≡ Ok cs → CellsRead k first sum cs
  unfolding cell_numbers written_all
  none_left k first sum [] h e = record { fit = tt; octets = drop_of_length-le s h }
  none_left k first sum (c ∷ cs) h e = absurd cc

  one_more : (k : ℕ) (first : Bool) (sum : ℕ) (c : Cell) (j : ℕ) (ds cs : List Cell) → RecordRead k (most_since first sum) c j → CellsRead j false (sum + c.since) ds → parsed (c ∷ ds) ≡ Ok cs
      → CellsRead k first sum cs
  unfolding cell_numbers written_all
  one_more k first sum c j ds cs r h e = subst (CellsRead k first sum) (same e) (record {
    fit = (r.since, (r.cell.kind_low, r.cell.kind_high), r.cell.rate, h.fit);
    octets = r.octets ∙ ap (λ (z : List ℕ). written 9 c.since ++ (written 9 c.kind ++ (written 9 c.rate ++ z))) h.octets;
  })
    where
      same : parsed (c ∷ ds) ≡ Ok cs → c ∷ ds ≡ cs
      same e = cc

  cells_in : (n k : ℕ) (first : Bool) (sum : ℕ) (cs : List Cell) → length s ≤ k + n → cells_parsed n s k first sum ≡ Ok cs → CellsRead k first sum cs
  unfolding cells_parsed record_then prepended
  cells_in zero k first sum cs h e = none_left k first sum cs (omega (arith, h)) e
  cells_in (suc n) k first sum cs h e = go (ltb k (length s)) refl (record_at s k (most_since first sum)) refl e (λ j. cells_in n j false)
    where
      next : Cell → ℕ → Parsed
      next c j = cells_parsed n s j false (sum + c.since)

      Later : Type 0
      Later = (j sum : ℕ) (cs : List Cell) → length s ≤ j + n → cells_parsed n s j false sum ≡ Ok cs → CellsRead j false sum cs

      then : (c : Cell) (j : ℕ) → RecordRead k (most_since first sum) c j → (p : Parsed) → next c j ≡ p → prepended c p ≡ Ok cs → Later → CellsRead k first sum cs
      then c j r (Err i) q e ih = absurd cc
      then c j r (Ok ds) q e ih = one_more k first sum c j ds cs r (ih j (sum + c.since) ds (omega (arith, h, r.after)) q) e

      go : (b : Bool) → ltb k (length s) ≡ b → (x : Record) → record_at s k (most_since first sum) ≡ x → cond b (record_then x next) (Ok []) ≡ Ok cs → Later → CellsRead k first sum cs
      go true t (Err i) q e ih = absurd cc
      go true t (Ok (c, j)) q e ih = then c j (since-in k (most_since first sum) (number_within s k 0 (most_since first sum)) refl c j q) (next c j) refl e ih
      go false t x q e ih = none_left k first sum cs (ltb-false k (length s) t) e

  -- The trace.
  all_in : (n trm i k : ℕ) → NumberRead 0 1 8 n i → NumberRead i 0 7 trm k → (p : Parsed) → cells_parsed (length s) s k true 0 ≡ p → NotRefused (verdict_of n trm p) → WrittenTrace s
  unfolding verdict_of written_all
  all_in n trm i k a b (Err r) q h = absurd (h r refl)
  all_in n trm i k a b (Ok cs) q h =
      let c = cells_in (length s) k true 0 cs (omega arith) q in
      let e : s ≡ trace_octets n trm cs = a.octets ∙ ap (λ (z : List ℕ). written 9 n ++ z) (b.octets ∙ ap (λ (z : List ℕ). written 9 trm ++ z) c.octets) in
      record {
        n = n;
        trm = trm;
        cells = cs;
        ranges = in-range n trm cs a.least a.most b.most c.fit;
        octets = e;
        verdict = ap judged_octets e ∙ written-is-judged n trm cs a.least a.most b.most c.fit;
      }

  trm-in : (n i : ℕ) → NumberRead 0 1 8 n i → (m : Number) → number_within s i 0 7 ≡ m → NotRefused (trm_read s n m) → WrittenTrace s
  unfolding trm_read
  trm-in n i a (Err r) q h = absurd (h r refl)
  trm-in n i a (Ok (trm, k)) q h = all_in n trm i k a (number_read i 0 7 trm k q) (cells_parsed (length s) s k true 0) refl h

  trace-in : (m : Number) → number_within s 0 1 8 ≡ m → NotRefused (n_read s m) → WrittenTrace s
  unfolding n_read
  trace-in (Err r) q h = absurd (h r refl)
  trace-in (Ok (n, i)) q h = trm-in n i (number_read 0 1 8 n i q) (number_within s i 0 7) refl h

-- The other way: cells are never refused.
cells-judged : (nrm trm : ℕ) (h : Sent) (cs : List Cell) → NotRefused (judged_from nrm trm h cs)
unfolding judged_from
cells-judged nrm trm h [] r e = cc
cells-judged nrm trm h (c ∷ cs) r e = go (broken_rule nrm trm h c) e (cells-judged nrm trm (with_sent h c) cs r)
  where
    go : (b : Option Rule) → broken_or (h.cells + 1) b (judged_from nrm trm (with_sent h c) cs) ≡ Err r → judged_from nrm trm (with_sent h c) cs ≢ Err r → ⊥
    go None e k = k e
    go (Some x) e k = cc

pub shortest-traces : ShortestTraces
shortest-traces = record {
  written = λ s o h. trace-in s o (number_within s 0 1 8) refl h;
  judged = λ n trm cs f r e. cells-judged _ _ nothing_sent cs r (sym (written-is-judged n trm cs f.n_low f.n_high f.trm_high (fits n trm cs f)) ∙ e);
}
