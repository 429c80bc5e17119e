-- Cells of one connection are gaps at its peak apart, and each the gap of its own rate after the one before.
use Rattle.std.specs.Prelude.{Some}
use Prim.Native.Nat.{ℕ, suc, ◌+◌, ◌*◌, ◌≤◌, max}
use mathlib.Core.Path.{◌≡◌, refl, subst}
use mathlib.Core.Bool.{Bool, true, false}
use mathlib.Core.List.{List, [], ◌∷◌, ◌++◌}
use native.Mathlib.Nat.{suc-mul}
use native.Mathlib.Omega.{arith}
use lib.ListN.{length}
use borrow.Author.Tests.{le-leb}
use Rattle.rate.specs.Gap.{gap}
use Rattle.rate.proofs.Gaps.{gap-antitone}
use Rattle.rate_params.specs.declared.params.Params.{Params}
use Rattle.rate_params.specs.Params.{peak}
use Rattle.connection.specs.declared.parts.Connection.{Connection}
use Rattle.connection.specs.declared.parts.Pace.{Pace}
use Rattle.connection.specs.declared.parts.Pace.TheVariants.{Unsent, Running}
use Rattle.connection.specs.declared.kind.Kind.{Kind}
use Rattle.connection.specs.declared.kind.Kind.TheVariants.{Forward, Turned, Data}
use Rattle.connection.specs.Ready.{ready_instant}
use Rattle.connection.specs.Kind.{is_forward, kind_at}
use Rattle.connection.specs.Pace.{paced}
use Rattle.connection.specs.Source.{sent_forward, sent_data}
use Rattle.connection.specs.Destination.{sent_turned}
use Rattle.connection.specs.Slot.{after}
use Rattle.connection.proofs.Keeps.{after_same, not-forward, turned≢forward, data≢forward}
use Rattle.connection.proofs.Readiness.{ready-some}
use Rattle.connection.proofs.Spaced.{due_from, ready-due}
use Rattle.model.specs.State.{empty}
use Rattle.model.specs.Run.{final}
use Rattle.model.proofs.Reached.{reached-well-formed}
use Rattle.promise_traces.specs.InRate.{SentCell, sent_from}
use Rattle.promise_traces.proofs.Next.{cell_at}
use Rattle.promise_traces.proofs.Walk.{CellByCell, each-cell}
use Rattle.promise_delivery.specs.Gcra.{nonconforming, dropped}
use Rattle.promise_delivery.specs.Policed.{OnWire, arrivals, own_gap, PolicedCells, Policed}

-- the instant from which a connection with this pace may send, if its gap is never less than g;
-- before its first cell it is n
unfoldable pub open_from : (g n : ℕ) → Pace → ℕ
open_from g n Unsent = n
open_from g n (Running sent forward k turned) = sent + g

-- it is not before it
pub not-before : (c : Connection) (i r : ℕ) → ready_instant c ≡ Some i → c.rate.acr ≤ r → open_from (gap r) 0 c.pace ≤ i
unfolding due_from open_from
not-before c i r e l = go c.pace (ready-due c i e)
  where
    go : (p : Pace) → due_from c p ≤ i → open_from (gap r) 0 p ≤ i
    go Unsent h = omega arith
    go (Running sent forward k turned) h = omega (arith, gap-antitone (ready-some c i e).0 l)

-- and after a cell at t it is a gap later
paced-from : (g n t : ℕ) (c : Connection) (b : Bool) (p : Pace) → is_forward t c p ≡ false → open_from g n (paced t b p) ≡ t + g
unfolding is_forward paced open_from
paced-from g n t c b Unsent e = let z : ◌≡◌ {A = ℕ} 0 1 = cc in absurd (omega arith)
paced-from g n t c b (Running sent forward k turned) e = refl

kind-from : (g n t : ℕ) (c : Connection) (k : Kind) → kind_at t c ≡ k → open_from g n (after k t c).pace ≡ t + g
unfolding after sent_forward sent_turned sent_data open_from
kind-from g n t c Forward e = refl
kind-from g n t c Turned e = paced-from g n t c true c.pace (not-forward Turned t c e turned≢forward)
kind-from g n t c Data e = paced-from g n t c false c.pace (not-forward Data t c e data≢forward)

pub after-from : (g n t : ℕ) (c : Connection) → open_from g n (after (kind_at t c) t c).pace ≡ t + g
after-from g n t c = kind-from g n t c (kind_at t c) refl

-- Each cell comes at least the gap of its own rate after t, the time of the one before. That gap is
-- at least the gap at the peak.
record Follows (g t : ℕ) (x : SentCell) : Type 0 where
  pub own : t + gap x.rate ≤ x.time
  pub peak : g ≤ gap x.rate

abbrev Row : (g t : ℕ) → List SentCell → Type 0
Row g t [] = Unit
Row g t (x ∷ xs) = Follows g t x × Row g x.time xs

-- from any cell on
abbrev Later : (g : ℕ) → List SentCell → Type 0
Later g [] = Unit
Later g (x ∷ xs) = Row g x.time xs

-- of a connection with this pace
abbrev RowFrom : (g : ℕ) → Pace → List SentCell → Type 0
RowFrom g Unsent xs = Later g xs
RowFrom g (Running sent forward k turned) xs = Row g sent xs

paced-row : (g t : ℕ) (c : Connection) (b : Bool) (p : Pace) (xs : List SentCell) → is_forward t c p ≡ false → RowFrom g (paced t b p) xs → Row g t xs
unfolding is_forward paced
paced-row g t c b Unsent xs e h = let z : ◌≡◌ {A = ℕ} 0 1 = cc in absurd (omega arith)
paced-row g t c b (Running sent forward k turned) xs e h = h

kind_row : (g t : ℕ) (c : Connection) (k : Kind) (xs : List SentCell) → kind_at t c ≡ k → RowFrom g (after k t c).pace xs → Row g t xs
unfolding after sent_forward sent_turned sent_data
kind_row g t c Forward xs e h = h
kind_row g t c Turned xs e h = paced-row g t c true c.pace xs (not-forward Turned t c e turned≢forward) h
kind_row g t c Data xs e h = paced-row g t c false c.pace xs (not-forward Data t c e data≢forward) h

due-row : (g t : ℕ) (c : Connection) (p : Pace) (xs : List SentCell) → due_from c p ≤ t → g ≤ gap c.rate.acr → Row g t xs → RowFrom g p (cell_at t c ∷ xs)
unfolding due_from
due-row g t c Unsent xs h l r = r
due-row g t c (Running sent forward k turned) xs h l r = (record { own = h; peak = l }, r)

abbrev peak_gap : Connection → ℕ
peak_gap d = gap (peak d.rate.params)

abbrev RowOf : ℕ → Connection → List SentCell → Type 0
RowOf now d xs = RowFrom (peak_gap d) d.pace xs

row-walk : CellByCell RowOf
row-walk = record {
  none = λ now d. nothing (peak_gap d) d.pace;
  waits = λ now later d e xs l k h.
      subst (λ (p : Pace). RowFrom (peak_gap d) p xs) k.pace (subst (λ (p : Params). RowFrom (gap (peak p)) e.pace xs) k.kept.params h);
  sends = λ now t i d xs v l u r due h.
      let a = after (kind_at t d) t d in
      let z = ready-due d i r in
      due-row (peak_gap d) t d d.pace xs (omega (arith, z, due)) (gap-antitone (ready-some d i r).0 v.1.rates.below)
      (kind_row (peak_gap d) t d (kind_at t d) xs refl (subst (λ (p : Params). RowFrom (gap (peak p)) a.pace xs) (after_same (kind_at t d) t d).params h));
}
  where
    nothing : (g : ℕ) (p : Pace) → RowFrom g p []
    nothing g Unsent = tt
    nothing g (Running sent forward k turned) = tt

-- Lists.
row-later : (g t : ℕ) (xs : List SentCell) → Row g t xs → Later g xs
row-later g t [] h = tt
row-later g t (x ∷ xs) h = h.1

from-later : (g : ℕ) (p : Pace) (xs : List SentCell) → RowFrom g p xs → Later g xs
from-later g Unsent xs h = h
from-later g (Running sent forward k turned) xs h = row-later g sent xs h

after_any : (g : ℕ) (earlier : List SentCell) (x : SentCell) (xs : List SentCell) → Later g (earlier ++ (x ∷ xs)) → Row g x.time xs
after_any g [] x xs h = h
after_any g (e ∷ earlier) x xs h = after_any g earlier x xs (row-later g e.time (earlier ++ (x ∷ xs)) h)

row_any : (g t : ℕ) (between : List SentCell) (y : SentCell) (rest : List SentCell) → Row g t (between ++ (y ∷ rest)) → t + suc (length between) * g ≤ y.time
row_any g t [] y rest h = omega (arith, h.0.own, h.0.peak)
row_any g t (x ∷ between) y rest h = omega (arith, h.0.own, h.0.peak, suc-mul (suc (length between)) g, row_any g x.time between y rest h.1)

-- The policer.
module _ (g lag : ℕ) (f : SentCell → ℕ) (bound : (t : ℕ) (x : SentCell) → Follows g t x → t + f x ≤ x.time) where
  row-conforms : (t last : ℕ) (xs : List SentCell) (ms : List ℕ) → Row g t xs → OnWire lag xs ms → last ≤ t + lag → nonconforming lag last (arrivals f xs ms) ≡ 0
  unfolding nonconforming
  row-conforms t last [] [] h w l = refl
  row-conforms t last [] (m ∷ ms) h w l = absurd w
  row-conforms t last (x ∷ xs) [] h w l = absurd w
  row-conforms t last (x ∷ xs) (m ∷ ms) h w l =
      let b = bound t x h.0 in
      rw (le-leb (last + f x) (m + lag) (omega (arith, b, w.0.0, l)))
      (row-conforms x.time (max m (last + f x)) xs ms h.1 w.1 (omega (arith, b, w.0.1, l)))

  none_dropped : (xs : List SentCell) (ms : List ℕ) → Later g xs → OnWire lag xs ms → dropped lag (arrivals f xs ms) ≡ 0
  unfolding dropped
  none_dropped [] [] h w = refl
  none_dropped [] (m ∷ ms) h w = absurd w
  none_dropped (x ∷ xs) [] h w = absurd w
  none_dropped (x ∷ xs) (m ∷ ms) h w = row-conforms x.time m xs ms h w.1 w.0.1

policed-row : (g : ℕ) (xs : List SentCell) → Later g xs → PolicedCells g xs
policed-row g xs h = record {
  passed = λ earlier x between y rest e. omega (arith, row_any g x.time between y rest (after_any g earlier x (between ++ (y ∷ rest)) (subst (Later g) e h)));
  by_rate = λ earlier x y rest e. omega (arith, (after_any g earlier x (y ∷ rest) (subst (Later g) e h)).0.own);
  at_peak = λ lag ms w. none_dropped g lag (λ x. g) (λ t x k. omega (arith, k.own, k.peak)) xs ms h w;
  dynamic = λ lag ms w. none_dropped g lag own_gap (λ t x k. omega (arith, k.own)) xs ms h w;
}

pub policed : Policed
policed cs ds v d f =
    let s = final empty cs in
    policed-row (peak_gap d) (sent_from v s ds) (from-later (peak_gap d) d.pace (sent_from v s ds) (each-cell row-walk v ds s (reached-well-formed cs) d f))
