-- What is to be shown of the cells that calls send on one open connection, shown cell by cell.
use Rattle.std.specs.Prelude.{Some}
use Prim.Native.Nat.{ℕ, ◌≤◌}
use mathlib.Core.Path.{◌≡◌, refl, sym, subst}
use mathlib.Core.Bool.{Bool, true, false, cond}
use mathlib.Core.List.{List, [], ◌∷◌, ◌++◌}
use native.Mathlib.Nat.{le_refl}
use Rattle.rate.specs.Units.{latest_time}
use Rattle.connection.specs.declared.parts.Connection.{Connection}
use Rattle.connection.specs.Ready.{ready_instant}
use Rattle.connection.specs.Kind.{kind_at}
use Rattle.connection.specs.Slot.{after}
use Rattle.connection.specs.Invariant.{ValidAt}
use Rattle.model.specs.State.{State, taken, find}
use Rattle.model.specs.Invariant.{WellFormed}
use Rattle.model.specs.Call.{Call}
use Rattle.model.specs.Step.{step}
use Rattle.model.specs.Run.{is_accepted}
use Rattle.model.proofs.Preserved.{valid-at}
use Rattle.model.proofs.Effects.{effect}
use Rattle.model.proofs.Reached.{step-well-formed}
use Rattle.promise_traces.specs.InRate.{SentCell, sent_by, closes_connection, sent_from}
use Rattle.promise_traces.proofs.Next.{Stays, cell_at, Next, closed, quiet, goes, effect-next}

-- the cells of a call and of those after it, once it is known whether it closes v and what it sends
pub cells_are :
    (P : List SentCell → Type 0) (v : ℕ) (s : State) (c : Call) (cs : List Call) (b : Bool) (ys : List SentCell)
    → closes_connection v c (is_accepted (step s c).answer) ≡ b → sent_by v s c (step s c).answer ≡ ys → P (cond b [] (ys ++ sent_from v (step s c).state cs)) → P (sent_from v s (c ∷ cs))
unfolding sent_from
cells_are P v s c cs b ys h g r =
    let rest : List SentCell = sent_from v (step s c).state cs in
    subst (λ (z : Bool). P (cond z [] (sent_by v s c (step s c).answer ++ rest))) (sym h) (subst (λ (z : List SentCell). P (cond b [] (z ++ rest))) (sym g) r)

-- Q of the time of the last call, of the connection then, and of the cells that are still to come
pub record CellByCell (Q : ℕ → Connection → List SentCell → Type 0) : Type 0 where
  pub none : (now : ℕ) (d : Connection) → Q now d []
  pub waits : (now later : ℕ) (d e : Connection) (xs : List SentCell) → now ≤ later → Stays d e → Q later e xs → Q now d xs
  pub sends :
      (now t i : ℕ) (d : Connection) (xs : List SentCell) → ValidAt now d → now ≤ t → t ≤ latest_time → ready_instant d ≡ Some i → i ≤ t
      → Q t (after (kind_at t d) t d) xs → Q now d (cell_at t d ∷ xs)

module _ {Q : ℕ → Connection → List SentCell → Type 0} (q : CellByCell Q) (v : ℕ) where
  pub each-cell : (cs : List Call) (s : State) → WellFormed s → (d : Connection) → find v s.entries ≡ taken d → Q s.last d (sent_from v s cs)
  unfolding sent_from
  each-cell [] s w d e = q.none s.last d
  each-cell (c ∷ cs) s w d e = go (effect-next v d e w.unique (effect s w.unique c)) (each-cell cs (step s c).state (step-well-formed w c))
    where
      rest : List SentCell
      rest = sent_from v (step s c).state cs

      -- what the call closes and sends
      with : (b : Bool) (ys : List SentCell) → closes_connection v c (is_accepted (step s c).answer) ≡ b → sent_by v s c (step s c).answer ≡ ys → Q s.last d (cond b [] (ys ++ rest))
          → Q s.last d (sent_from v s (c ∷ cs))
      with = cells_are (Q s.last d) v s c cs

      go : Next v s d c (step s c) → ((x : Connection) → find v (step s c).state.entries ≡ taken x → Q (step s c).state.last x rest)
          → Q s.last d (sent_from v s (c ∷ cs))
      go (closed h) ih = with true (sent_by v s c (step s c).answer) h refl (q.none s.last d)
      go (quiet h g l y) ih = with false [] h g (q.waits s.last (step s c).state.last d y.now rest l y.stays (ih y.now y.found))
      go (goes t i h g l n r due f) ih =
          with false (cell_at t d ∷ []) h g
          (q.sends s.last t i d rest (valid-at w v d e) l.since l.until r due
          (q.waits t t (after (kind_at t d) t d) f.now rest (le_refl t) f.stays (subst (λ (z : ℕ). Q z f.now rest) n (ih f.now f.found))))
