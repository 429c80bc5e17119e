-- Until a backward cell of the connection comes, each of its cells goes at the initial rate used or a lower one.
use Prim.Native.Nat.{ℕ}
use mathlib.Core.Path.{◌≡◌, refl, subst, ◌∙◌}
use mathlib.Core.Bool.{true, false}
use mathlib.Core.List.{List, [], ◌∷◌}
use native.Mathlib.Nat.{le_refl}
use Rattle.rate_params.specs.declared.params.Params.{Params}
use Rattle.rate_params.specs.Params.{initial_used}
use Rattle.trace_judge.specs.RoundTrip.{RatesUpTo}
use Rattle.connection.specs.declared.parts.Connection.{Connection}
use Rattle.connection.specs.Parts.{fresh}
use Rattle.connection.specs.Kind.{kind_at}
use Rattle.connection.specs.Slot.{after}
use Rattle.connection.proofs.Keeps.{after_same}
use Rattle.model.specs.State.{State, taken, empty, find}
use Rattle.model.specs.Invariant.{WellFormed}
use Rattle.model.specs.Call.{Call}
use Rattle.model.specs.Step.{step}
use Rattle.model.specs.Run.{final, is_accepted}
use Rattle.model.proofs.Effects.{effect}
use Rattle.model.proofs.Reached.{step-well-formed, reached-well-formed}
use Rattle.laws.specs.All.{All}
use Rattle.promise_cells.specs.Changes.{NotFedBack}
use Rattle.promise_cells.proofs.BeforeFeedback.{Unraised, call-unraised}
use Rattle.promise_traces.specs.InRate.{SentCell, sent_by, sent_from}
use Rattle.promise_traces.specs.Traces.{later_cells, trace_cells, Opening, own_cells}
use Rattle.promise_traces.proofs.Next.{StillOpen, cell_at, Next, closed, quiet, goes, effect-next}
use Rattle.promise_traces.proofs.Walk.{cells_are}
use Rattle.promise_traces.proofs.Passing.{opened-at}

-- of cells after one at any instant
abbrev SentUpTo : Params → List SentCell → Type 0
SentUpTo p xs = (last : ℕ) → RatesUpTo (initial_used p) (later_cells last xs)

sent-unraised :
    (v : ℕ) (cs : List Call) (s : State) → WellFormed s → (d : Connection) → find v s.entries ≡ taken d → All (NotFedBack v) cs → Unraised d.rate
    → SentUpTo d.rate.params (sent_from v s cs)
unfolding sent_from later_cells
sent-unraised v [] s w d e n u = λ last. tt
sent-unraised v (c ∷ cs) s w d e n u = go (effect-next v d e w.unique (effect s w.unique c)) (sent-unraised v cs (step s c).state (step-well-formed w c))
  where
    p : Params
    p = d.rate.params

    rest : List SentCell
    rest = sent_from v (step s c).state cs

    Ih : Type 0
    Ih = (x : Connection) → find v (step s c).state.entries ≡ taken x → All (NotFedBack v) cs → Unraised x.rate → SentUpTo x.rate.params rest

    later : Ih → (x : Connection) → StillOpen v (step s c).state.entries x → x.rate.params ≡ p → SentUpTo p rest
    later ih x y q =
        subst (λ (z : Params). SentUpTo z rest) (y.stays.kept.params ∙ q) (ih y.now y.found n.1 (call-unraised w c v d y.now e y.found n.0 u))

    go : Next v s d c (step s c) → Ih → SentUpTo p (sent_from v s (c ∷ cs))
    go (closed h) ih = cells_are (SentUpTo p) v s c cs true (sent_by v s c (step s c).answer) h refl (λ last. tt)
    go (quiet h g l y) ih = cells_are (SentUpTo p) v s c cs false [] h g (later ih d y refl)
    go (goes t i h g l m r due f) ih =
        cells_are (SentUpTo p) v s c cs false (cell_at t d ∷ []) h g (λ last. (u, later ih (after (kind_at t d) t d) f (after_same (kind_at t d) t d).params t))

-- the first one too
cells-up-to : (p : Params) (xs : List SentCell) → SentUpTo p xs → RatesUpTo (initial_used p) (trace_cells xs)
unfolding trace_cells later_cells
cells-up-to p [] h = tt
cells-up-to p (x ∷ xs) h = h 0

-- a connection begins at that rate
from-fresh : (v t : ℕ) (p : Params) (xs : List SentCell) → (Unraised (fresh v t p).rate → SentUpTo (fresh v t p).rate.params xs) → SentUpTo p xs
unfolding fresh
from-fresh v t p xs h = h (le_refl (initial_used p))

pub own-rates :
    (before : List Call) (c : Call) (v : ℕ) (p : Params) (after : List Call) → Opening c v p → is_accepted (step (final empty before) c).answer ≡ true
    → All (NotFedBack v) after → RatesUpTo (initial_used p) (own_cells before c v after)
own-rates before c v p after g a n =
    let s : State = (step (final empty before) c).state in
    let o = opened-at before c v p g a in
    let begun = sent-unraised v after s (step-well-formed (reached-well-formed before) c) (fresh v o.time p) o.found n in
    cells-up-to p (sent_from v s after) (from-fresh v o.time p (sent_from v s after) begun)
