-- A trace that is written is read back: its octets are judged as its cells are.
use Prim.Native.Nat.{ℕ, zero, suc, ◌+◌, ◌-◌, ◌%◌, ◌/◌, ◌^◌, ◌≤◌, ◌<◌}
use mathlib.Core.Path.{◌≡◌, refl, sym, ap, ◌∙◌}
use mathlib.Core.Bool.{Bool, true, false, cond, ◌&&◌}
use mathlib.Core.List.{List, [], ◌∷◌, ◌++◌}
use native.Mathlib.Nat.{not-suc-le-zero, add-zero, le_of_suc-le-suc}
use native.Mathlib.Omega.{arith}
use lib.Dec.{leb, ltb}
use lib.ListN.{length, get_or, drop, length-append, length-drop}
use lib.Seq.{get_or-drop, drop-drop, drop-append_seam}
use borrow.Author.Tests.{le-leb, lt-ltb, le-ltb}
use Rattle.std.specs.Prelude.{Ok}
use Rattle.rate.specs.Units.{largest_rate, latest_time}
use Rattle.rate_params.specs.Params.{within}
use Rattle.trace.specs.Numbers.{written, written_all, Stands}
use Rattle.trace.proofs.Groups.{value}
use Rattle.trace.proofs.Written.{read_back}
use Rattle.trace_judge.specs.declared.cells.Cell.{Cell}
use Rattle.trace_judge.specs.Rules.{judged_cells}
use Rattle.trace_judge.specs.Octets.{Record, ranged, number_within, rate_read, kind_read, since_read, record_at, most_since, Parsed, prepended, record_then, cells_parsed, verdict_of, trm_read, n_read, judged_octets}
use Rattle.trace_judge.proofs.Progress.{no_range}
use Rattle.promise_traces.specs.Written.{cell_numbers, trace_octets, CellsFit, WrittenIsJudged}

-- What stands at an offset of a list.
some_left : (s : List ℕ) (k b : ℕ) (r : List ℕ) → drop k s ≡ b ∷ r → k < length s
some_left s k b r e = let h : length s - k ≡ suc (length r) = sym (length-drop k s) ∙ ap length e in omega arith

none_left : (s : List ℕ) (k : ℕ) → drop k s ≡ [] → length s ≤ k
none_left s k e = let h : length s - k ≡ 0 = sym (length-drop k s) ∙ ap length e in omega arith

stands : (s : List ℕ) (k : ℕ) (l r : List ℕ) → drop k s ≡ l ++ r → Stands s k l
stands s k [] r e = tt
stands s k (b ∷ l) r e = (
  some_left s k b (l ++ r) e,
  ap (λ (z : ℕ). get_or s z 0) (sym (add-zero k)) ∙ sym (get_or-drop k s 0 0) ∙ ap (λ (z : List ℕ). get_or z 0 0) e,
  stands s (k + 1) l r (sym (drop-drop 1 k s) ∙ ap (drop 1) e),
)

-- One number.
written-some : (n x : ℕ) → 0 < length (written n x)
unfolding written
written-some zero x = omega arith
written-some (suc n) x = go (ltb x 128)
  where
    go : (b : Bool) → 0 < length (cond b (x ∷ []) ((128 + x % 128) ∷ written n (x / 128)))
    go true = omega arith
    go false = omega arith

-- the offset after it
abbrev past : ℕ → ℕ → ℕ
past k x = k + length (written 9 x)

module _ (s : List ℕ) (k x : ℕ) (xs : List ℕ) (e : drop k s ≡ written_all (x ∷ xs)) where
  number_read : (low high : ℕ) → x < 2 ^ 64 → low ≤ x → x ≤ high → number_within s k low high ≡ Ok (x, past k x)
  unfolding written_all ranged within
  number_read low high f l h =
      ap (ranged low high) (read_back s k x f (stands s k (written 9 x) (written_all xs) e))
      ∙ ap (λ (b : Bool). cond (b && leb x high) (value x (past k x)) no_range) (le-leb low x l)
      ∙ ap (λ (b : Bool). cond b (value x (past k x)) no_range) (le-leb x high h)

  next-at : drop (past k x) s ≡ written_all xs
  unfolding written_all
  next-at = sym (drop-drop (length (written 9 x)) k s) ∙ ap (drop (length (written 9 x))) e ∙ drop-append_seam (written 9 x) (written_all xs)

  starts : k < length s
  unfolding written_all
  starts =
      let h : length s - k ≡ length (written 9 x) + length (written_all xs) = sym (length-drop k s) ∙ ap length e ∙ length-append (written 9 x) (written_all xs) in
      omega (arith, h, written-some 9 x)

-- One cell.
module _ (s : List ℕ) (k : ℕ) (c : Cell) (xs : List ℕ) (e : drop k s ≡ written_all (c.since ∷ c.kind ∷ c.rate ∷ xs)) where
  abbrev kind_from : ℕ
  kind_from = past k c.since

  abbrev rate_from : ℕ
  rate_from = past kind_from c.kind

  at-kind : drop kind_from s ≡ written_all (c.kind ∷ c.rate ∷ xs)
  at-kind = next-at s k c.since (c.kind ∷ c.rate ∷ xs) e

  at-rate : drop rate_from s ≡ written_all (c.rate ∷ xs)
  at-rate = next-at s kind_from c.kind (c.rate ∷ xs) at-kind

  at-end : drop (past rate_from c.rate) s ≡ written_all xs
  at-end = next-at s rate_from c.rate xs at-rate

  record-read : (most : ℕ) → c.since ≤ most → most ≤ latest_time → 1 ≤ c.kind → c.kind ≤ 3 → c.rate ≤ largest_rate → record_at s k most ≡ Ok (c, past rate_from c.rate)
  unfolding since_read kind_read rate_read
  record-read most a b d f g =
      ap (since_read s) (number_read s k c.since (c.kind ∷ c.rate ∷ xs) e 0 most (omega arith) (omega arith) a)
      ∙ ap (kind_read s c.since) (number_read s kind_from c.kind (c.rate ∷ xs) at-kind 1 3 (omega arith) d f)
      ∙ ap (rate_read c.since c.kind) (number_read s rate_from c.rate xs at-rate 0 largest_rate (omega arith) (omega arith) g)

most-latest : (first : Bool) (sum : ℕ) → most_since first sum ≤ latest_time
unfolding most_since
most-latest true sum = omega arith
most-latest false sum = omega arith

-- The cells.
ended_at : (n : ℕ) (s : List ℕ) (k : ℕ) (first : Bool) (sum : ℕ) → length s ≤ k → cells_parsed n s k first sum ≡ Ok []
unfolding cells_parsed
ended_at zero s k first sum h = refl
ended_at (suc n) s k first sum h = rw (le-ltb k (length s) h)

cells-read :
    (cs : List Cell) (n : ℕ) (s : List ℕ) (k : ℕ) (first : Bool) (sum : ℕ) → drop k s ≡ written_all (cell_numbers cs) → length cs ≤ n → CellsFit first sum cs
    → cells_parsed n s k first sum ≡ Ok cs
unfolding cell_numbers written_all cells_parsed record_then prepended
cells-read [] n s k first sum e h f = ended_at n s k first sum (none_left s k e)
cells-read (c ∷ cs) zero s k first sum e h f = absurd (not-suc-le-zero h)
cells-read (c ∷ cs) (suc n) s k first sum e h f =
    let xs : List ℕ = cell_numbers cs in
    let next : Cell → ℕ → Parsed = λ c j. cells_parsed n s j false (sum + c.since) in
    ap (λ (b : Bool). cond b (record_then (record_at s k (most_since first sum)) next) (Ok [])) (lt-ltb k (length s) (starts s k c.since (c.kind ∷ c.rate ∷ xs) e))
    ∙ ap (λ (x : Record). record_then x next) (record-read s k c xs e (most_since first sum) f.0 (most-latest first sum) f.1.0 f.1.1 f.2)
    ∙ ap (prepended c) (cells-read cs n s (past (rate_from s k c xs e) c.rate) false (sum + c.since) (at-end s k c xs e) (le_of_suc-le-suc h) f.3)

-- a cell has an octet at least
cells-octets : (cs : List Cell) → length cs ≤ length (written_all (cell_numbers cs))
unfolding cell_numbers written_all
cells-octets [] = omega arith
cells-octets (c ∷ cs) =
    let xs : List ℕ = written_all (cell_numbers cs) in
    let a = length-append (written 9 c.since) (written 9 c.kind ++ (written 9 c.rate ++ xs)) in
    let b = length-append (written 9 c.kind) (written 9 c.rate ++ xs) in
    let d = length-append (written 9 c.rate) xs in
    omega (arith, a, b, d, cells-octets cs, written-some 9 c.since)

module _ (n trm : ℕ) (cs : List Cell) where
  abbrev octets : List ℕ
  octets = trace_octets n trm cs

  abbrev trm_from : ℕ
  trm_from = past 0 n

  abbrev cells_at : ℕ
  cells_at = past trm_from trm

  at-trm : drop trm_from octets ≡ written_all (trm ∷ cell_numbers cs)
  at-trm = next-at octets 0 n (trm ∷ cell_numbers cs) refl

  at_cells : drop cells_at octets ≡ written_all (cell_numbers cs)
  at_cells = next-at octets trm_from trm (cell_numbers cs) at-trm

  enough : length cs ≤ length octets
  enough = let e : length octets - cells_at ≡ length (written_all (cell_numbers cs)) = sym (length-drop cells_at octets) ∙ ap length at_cells in omega (arith, e, cells-octets cs)

  trace-read : 1 ≤ n → n ≤ 8 → trm ≤ 7 → CellsFit true 0 cs → judged_octets octets ≡ judged_cells n trm cs
  unfolding n_read trm_read verdict_of
  trace-read a b d f =
      ap (n_read octets) (number_read octets 0 n (trm ∷ cell_numbers cs) refl 1 8 (omega arith) a b)
      ∙ ap (trm_read octets n) (number_read octets trm_from trm (cell_numbers cs) at-trm 0 7 (omega arith) (omega arith) d)
      ∙ ap (verdict_of n trm) (cells-read cs (length octets) octets cells_at true 0 at_cells enough f)

pub written-is-judged : WrittenIsJudged
written-is-judged n trm cs a b d f = trace-read n trm cs a b d f
