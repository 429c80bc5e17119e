-- The change that abr_acr returns lies between its bounds.
use Prim.Native.Nat.{ℕ}
use mathlib.Core.Path.{◌≡◌, refl, sym, ap, subst, ◌∙◌}
use mathlib.Core.Bool.{true, false≢true}
use mathlib.Core.List.{List, [], ◌∷◌}
use mathlib.Core.Option.{Option, some}
use native.Mathlib.Omega.{arith}
use Rattle.rate_params.specs.declared.params.Params.{Params}
use Rattle.rate_params.specs.Params.{initial_used}
use Rattle.cell.specs.Fields.{cell_name}
use Rattle.connection.specs.declared.parts.Connection.{Connection}
use Rattle.connection.specs.Parts.{changed}
use Rattle.connection.specs.Change.{difference}
use Rattle.model.specs.State.{State, taken, empty, find}
use Rattle.model.specs.Answers.{Acr, Rate, Accepted}
use Rattle.model.specs.Call.{Call, Outcome, comparisons}
use Rattle.model.specs.Step.{refuse, accept, replay, step}
use Rattle.model.specs.Queries.{acr_of}
use Rattle.model.specs.Run.{final, is_accepted}
use Rattle.model.proofs.Given.{params-given}
use Rattle.model.proofs.Effects.{Effect, refuses, opens, opens_path, effect}
use Rattle.abr_answers.specs.declared.calls.AbrAllowed.{AbrAllowed}
use Rattle.abr_answers.specs.Calls.{allowed_of}
use Rattle.abr.specs.Contract.{ReturnsAllowed}
use Rattle.abr.specs.Exports.{Observation, Transcript, ended, then, final_words}
use Rattle.laws.specs.All.{All}
use Rattle.promise_lists.proofs.Moves.{still_open}
use Rattle.promise_traces.specs.Traces.{Opening, channel, path}
use Rattle.promise_cells.specs.Changes.{ChangeBounded, not_open, between}
use Rattle.promise_cells.proofs.Changes.{changes}
use Rattle.exports_rates.specs.Changed.{ChangeWithin, ChangeNone, Unfeeding, ExportsChangeBounds}
use Rattle.exports.proofs.Changes.{exports-changes}
use Rattle.exports.proofs.Transport.{Stands, sees, stands, was-accepted, acr-seen}
use Rattle.exports.proofs.Known.{params-known}
use Rattle.exports_rates.proofs.Held.{held-read, acr-held}
use Rattle.exports_rates.proofs.BeforeFeedback.{self, change-same}

within : (p : Params) (q : Option Params) (r : Acr) → ChangeBounded q r → q ≡ some p → ChangeWithin p (allowed_of r)
within p q r not_open e = let z : ◌≡◌ {A = ℕ} 0 1 = cc in absurd (omega arith)
within p q r (between {p = u} l h) e = let g : u ≡ p = cc in rw (← g) (record { refusal = refl; low = l; high = h })

fresh-answer : (p : Params) (r : Acr) → r ≡ Rate (initial_used p) (changed (initial_used p) (initial_used p)) → ChangeNone p (allowed_of r)
unfolding difference
fresh-answer p r e = rw e (record { refusal = refl; acr = refl; change = self (initial_used p) })

-- an open answers Accepted, if it is no refusal
opened : {s : State} {c : Call} {v : ℕ} {p : Params} {o : Outcome} → Opening c v p → Effect s c o → is_accepted o.answer ≡ true → o.answer ≡ Accepted (comparisons o.answer)
unfolding refuse accept replay is_accepted comparisons
opened (channel vpi vci t p) (refuses _ n h) a = absurd (false≢true a)
opened (channel vpi vci t p) (opens _ _ _ _ g) a = refl
opened (path vpi t p) (refuses _ n h) a = absurd (false≢true a)
opened (path vpi t p) (opens_path _ _ _ g) a = refl

begun : (cs : List Call) {c : Call} {v : ℕ} {p : Params} (n : ℕ) → Opening c v p → (step (final empty cs) c).answer ≡ Accepted n
    → acr_of (step (final empty cs) c).state v ≡ Rate (initial_used p) (changed (initial_used p) (initial_used p))
begun cs n (channel vpi vci t p) e = changes.opens cs vpi vci t n p e
begun cs n (path vpi t p) e = changes.opens_path cs vpi t n p e

-- calls that neither feed v nor close it leave the change
change-left :
    (v : ℕ) {s : State} {l : List ℕ} → Stands s l → (e : Connection) → find v s.entries ≡ taken e → (ds : List Call) (ps : List Observation) → Transcript ds l ps → All (Unfeeding v) ds
    → (d : AbrAllowed) → ReturnsAllowed v (final_words l ps) d → d.change ≡ difference e.change
change-left v st e f [] [] ended h d k = ap (λ (r : AbrAllowed). r.change) (acr-held st v e f d k)
change-left v {s} st e f (c ∷ ds) (o ∷ ps) (then p t) h d k =
    let y = sees st p in
    let n = still_open s y.well_formed.unique c v e f (λ z. h.0.not_closed z.vpi z.vci z.is z.name) in
    change-left v {s = (step s c).state} y.next n.holder n.found ds ps t h.1 d k ∙ ap difference (change-same v y e n.holder f n.found h.0.not_fed_back)
change-left v {s = s} {l = l} st e f [] (o ∷ ps) x8 h d k = elim x8 [ ]
change-left v {s = s} {l = l} st e f (c ∷ ds) [] x7 h d k = elim x7 [ ]

pub exports-change-bounds : ExportsChangeBounds
exports-change-bounds = record {
  bounded = λ cs os t v p e a h.
      subst (ChangeWithin p) (sym (acr-seen (stands cs os t) v a h)) (within p _ (acr_of (final empty cs) v) (changes.bounded cs v) (sym (params-given v cs) ∙ sym (params-known cs os t v) ∙ e));
  opens = λ cs os t c v p k o q z a h.
      let y = sees (stands cs os t) q in
      subst (ChangeNone p) (sym (acr-seen y.next v a h)) (fresh-answer p _ (begun cs _ k (opened k (effect (final empty cs) y.well_formed.unique c) (was-accepted y z))));
  last = λ cs os t octets f e i o p a b h k z ds ps u n d m.
      let y = sees (stands cs os t) p in
      let g = exports-changes.fed_back cs os t octets f e i o p a b h k z in
      let held = held-read y.next (cell_name f) b k g.refusal in
      change-left (cell_name f) y.next held.holder held.found ds ps u n d m
      ∙ sym (ap (λ (r : AbrAllowed). r.change) (acr-held y.next (cell_name f) held.holder held.found b k)) ∙ g.change;
}
