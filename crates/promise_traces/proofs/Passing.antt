-- The cells of one connection break no rule. By the slot rules each goes a gap or more after the one before, and
-- is a forward one exactly when that is due.
use Rattle.std.specs.Prelude.{Some}
use Prim.Native.Nat.{ℕ, ◌-◌, ◌≤◌, ◌<◌}
use mathlib.Core.Path.{◌≡◌, refl, subst, ◌∙◌}
use mathlib.Core.Bool.{Bool, true, false, cond, ◌||◌}
use mathlib.Core.List.{List, ◌∷◌}
use native.Mathlib.Nat.{le_trans}
use native.Mathlib.Omega.{arith}
use borrow.Author.Tests.{eq-eqb}
use Rattle.rate.specs.Gap.{gap}
use Rattle.rate_params.specs.declared.params.Params.{Params}
use Rattle.rate_params.specs.Params.{nrm, params_fit, tbe_fits, frtt_fits}
use Rattle.rate_params.specs.Forward.{forward_due}
use Rattle.cell.specs.Name.{address_name}
use Rattle.connection_members.specs.Path.{path_vci}
use Rattle.trace_judge.specs.Rules.{Passes, judged_cells}
use Rattle.connection.specs.declared.parts.Connection.{Connection}
use Rattle.connection.specs.declared.parts.Pace.{Pace}
use Rattle.connection.specs.declared.parts.Pace.TheVariants.{Unsent, Running}
use Rattle.connection.specs.declared.kind.Kind.{Kind}
use Rattle.connection.specs.declared.kind.Kind.TheVariants.{Forward, Turned, Data}
use Rattle.connection.specs.Parts.{fresh}
use Rattle.connection.specs.Ready.{ready_instant}
use Rattle.connection.specs.Kind.{kind_number, is_forward, is_turned, kind_at}
use Rattle.connection.specs.Pace.{paced}
use Rattle.connection.specs.Source.{sent_forward, sent_data}
use Rattle.connection.specs.Destination.{sent_turned}
use Rattle.connection.specs.Slot.{after}
use Rattle.connection.specs.Invariant.{PaceFits}
use Rattle.connection.proofs.Keeps.{KeepsIdentity, after_same}
use Rattle.connection.proofs.Readiness.{ready-some}
use Rattle.connection.proofs.Spaced.{due_from, ready-due}
use Rattle.model.specs.State.{State, Entry, taken, empty, find, with_opened, with_time}
use Rattle.model.specs.Call.{Call, Outcome}
use Rattle.model.specs.Step.{refuse, accept, replay, step}
use Rattle.model.specs.Run.{final, is_accepted}
use Rattle.model.proofs.Frames.{with-opened-read}
use Rattle.model.proofs.Effects.{OpenPassed, Effect, refuses, opens, opens_path, effect}
use Rattle.model.proofs.Reached.{step-well-formed, reached-well-formed}
use Rattle.promise_traces.specs.InRate.{SentCell, sent_from}
use Rattle.promise_traces.specs.Traces.{trace_cells, Opening, channel, path, OwnCellsPass}
use Rattle.promise_traces.proofs.Next.{Stays, cell_at}
use Rattle.promise_traces.proofs.Walk.{CellByCell, each-cell}
use Rattle.promise_traces.proofs.OneCell.{Passing, none_passes, first_passes, later-forward, later-other}

-- A cell that a slot sends.
abbrev kind_by : ℕ → Connection → Pace → Kind
kind_by t d p = cond (is_forward t d p) Forward (cond (is_turned d p) Turned Data)

abbrev pace_after : Kind → ℕ → Pace → Pace
pace_after Forward t p = Running t t 0 false
pace_after Turned t p = paced t true p
pace_after Data t p = paced t false p

pace-after : (k : Kind) (t : ℕ) (d : Connection) → (after k t d).pace ≡ pace_after k t d.pace
unfolding after sent_forward sent_turned sent_data
pace-after Forward t d = refl
pace-after Turned t d = refl
pace-after Data t d = refl

abbrev PassingAt : Connection → Pace → List SentCell → Type 0
PassingAt d p xs = Passing (nrm d.rate.params) d.trm p xs

send-passes :
    (t now : ℕ) (d : Connection) (p : Pace) (xs : List SentCell) → PaceFits now (nrm d.rate.params) p → now ≤ t → due_from d p ≤ t → 0 < d.rate.acr
    → PassingAt d (pace_after (kind_by t d p) t p) xs → PassingAt d p (record { time = t; kind = kind_number (kind_by t d p); rate = d.rate.acr } ∷ xs)
unfolding is_forward is_turned paced due_from
send-passes t now d Unsent xs f l due some q = first_passes _ _ t d.rate.acr xs q
send-passes t now d (Running sent forward k turned) xs f l due some q = go (forward_due (nrm d.rate.params) d.trm k forward t) (is_turned d (Running sent forward k turned)) refl q
  where
    new : sent ≤ t
    new = le_trans f.1 l

    slow : gap d.rate.acr ≤ t - sent
    slow = omega (arith, due)

    go : (x y : Bool) → forward_due (nrm d.rate.params) d.trm k forward t ≡ x
        → PassingAt d (pace_after (cond x Forward (cond y Turned Data)) t (Running sent forward k turned)) xs
        → PassingAt d (Running sent forward k turned) (record { time = t; kind = kind_number (cond x Forward (cond y Turned Data)); rate = d.rate.acr } ∷ xs)
    go true y e q = later-forward _ _ sent forward k t d.rate.acr turned xs f.0 new some slow e q
    go false true e q = later-other _ _ sent forward k t d.rate.acr turned xs f.0 new some slow 2 (turned || true) refl e q
    go false false e q = later-other _ _ sent forward k t d.rate.acr turned xs f.0 new some slow 3 (turned || false) refl e q

abbrev PassingOf : Connection → List SentCell → Type 0
PassingOf d xs = PassingAt d d.pace xs

same-passes : (d e : Connection) → KeepsIdentity d e → (p : Pace) (xs : List SentCell) → PassingAt e p xs → PassingAt d p xs
same-passes d e s p xs q =
    subst (λ (z : ℕ). Passing (nrm d.rate.params) z p xs) s.trm (subst (λ (z : Params). Passing (nrm z) e.trm p xs) s.params q)

sent-passes :
    (t now i : ℕ) (d : Connection) (xs : List SentCell) → PaceFits now (nrm d.rate.params) d.pace → now ≤ t → ready_instant d ≡ Some i → i ≤ t
    → PassingOf (after (kind_at t d) t d) xs → PassingOf d (cell_at t d ∷ xs)
unfolding kind_at
sent-passes t now i d xs f l r due q =
    let k : Kind = kind_by t d d.pace in
    send-passes t now d d.pace xs f l (le_trans (ready-due d i r) due) (ready-some d i r).0
    (subst (λ (z : Pace). PassingAt d z xs) (pace-after k t d) (same-passes d (after k t d) (after_same k t d) (after k t d).pace xs q))

stays-passes : (d e : Connection) → Stays d e → (xs : List SentCell) → PassingOf e xs → PassingOf d xs
stays-passes d e y xs q = subst (λ (z : Pace). PassingAt d z xs) y.pace (same-passes d e y.kept e.pace xs q)

passing : CellByCell (λ now d xs. PassingOf d xs)
passing = record {
  none = λ now d. none_passes _ _ d.pace;
  waits = λ now later d e xs l y q. stays-passes d e y xs q;
  sends = λ now t i d xs k l m r due q. sent-passes t now i d xs k.0.paced l r due q;
}

-- From the opening on.
pub record Opened (v : ℕ) (p : Params) (ss : List Entry) : Type 0 where
  pub time : ℕ
  pub found : find v ss ≡ taken (fresh v time p)
  pub fits : params_fit p ≡ true
  pub tbe : tbe_fits p ≡ true
  pub frtt : frtt_fits p ≡ true

entered : {s : State} (u t : ℕ) (p : Params) → OpenPassed s u t p → Opened u p (with_opened (fresh u t p) s).entries
unfolding fresh
entered {s} u t p g = record {
  time = t;
  found = with-opened-read (λ (x : Entry). x) u s (fresh u t p) g.new g.room ∙ rw (eq-eqb u u refl) refl;
  fits = g.fits;
  tbe = g.tbe;
  frtt = g.frtt;
}

refused-opens : {A : Type 0} (s : State) (n : ℕ) → is_accepted (refuse s n).answer ≡ true → A
unfolding refuse is_accepted
refused-opens s n e = let z : ◌≡◌ {A = ℕ} 0 1 = cc in absurd (omega arith)

accepted-opens : {s : State} {c : Call} {v : ℕ} {p : Params} {o : Outcome} → Opening c v p → Effect s c o → is_accepted o.answer ≡ true → Opened v p o.state.entries
unfolding accept replay with_time
accepted-opens {s} (channel a b t p) (refuses _ n h) e = refused-opens s n e
accepted-opens (channel a b t p) (opens _ _ _ _ g) e = entered (address_name a b) t p g
accepted-opens {s} (path a t p) (refuses _ n h) e = refused-opens s n e
accepted-opens (path a t p) (opens_path _ _ _ g) e = entered (address_name a path_vci) t p g

pub opened-at :
    (before : List Call) (c : Call) (v : ℕ) (p : Params) → Opening c v p → is_accepted (step (final empty before) c).answer ≡ true
    → Opened v p (step (final empty before) c).state.entries
opened-at before c v p g a = accepted-opens g (effect (final empty before) (reached-well-formed before).unique c) a

fresh-passes : (v t : ℕ) (p : Params) (xs : List SentCell) → PassingOf (fresh v t p) xs → judged_cells p.n p.trm (trace_cells xs) ≡ Passes
unfolding fresh
fresh-passes v t p xs h = h

pub own-cells-pass : OwnCellsPass
own-cells-pass before c v p after g a =
    let s : State = (step (final empty before) c).state in
    let o = opened-at before c v p g a in
    fresh-passes v o.time p (sent_from v s after)
    (each-cell passing v after s (step-well-formed (reached-well-formed before) c) (fresh v o.time p) o.found)
