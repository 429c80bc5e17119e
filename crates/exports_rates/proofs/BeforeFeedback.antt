-- Before feedback abr_acr returns no change and at most the initial rate used.
use Prim.Native.Nat.{ℕ, zero, suc, ◌-◌, ◌≤◌}
use mathlib.Core.Path.{◌≡◌, refl, sym, ap, subst, ◌∙◌}
use mathlib.Core.Bool.{Bool, true, false, cond, ◌&&◌, ◌||◌, true≢false}
use mathlib.Core.Logic.{◌≢◌}
use mathlib.Core.Option.{some}
use native.Mathlib.Nat.{le_of_eq}
use native.Mathlib.Omega.{arith}
use lib.Dec.{eqb}
use lib.IntN.{pos, negsuc, ◌-ℤ◌}
use lib.ListN.{replicate}
use borrow.Author.Tests.{eq-eqb, ne_eqb, le-ltb}
use Rattle.rate_params.specs.declared.params.Params.{Params}
use Rattle.rate_params.specs.Params.{initial_used}
use Rattle.cell.specs.declared.fields.Fields.{Fields}
use Rattle.cell.specs.Read.{Reading, RmCell}
use Rattle.cell.specs.Fields.{cell_name}
use Rattle.cell.specs.Reading.{reading}
use Rattle.connection.specs.declared.parts.Connection.{Connection}
use Rattle.connection.specs.Change.{difference}
use Rattle.model.specs.State.{State, Entry, free, taken, capacity, empty, find}
use Rattle.model.specs.Answers.{Answer, Refused, Accepted, Closed, Idle, Sent}
use Rattle.model.specs.Call.{Call, opening, opening_path, Outcome, refusal}
use Rattle.model.specs.Aspects.{Sort}
use Rattle.model.specs.Step.{refuse, step}
use Rattle.model.specs.Queries.{entry_acr, acr_of}
use Rattle.model.specs.Run.{final, is_accepted}
use Rattle.model.proofs.Entries.{Case, same, other, case, taken≢free, absent-find, each_free}
use Rattle.model.proofs.Effects.{OpenPassed, Effect, refuses, opens, opens_path, effect}
use Rattle.model.proofs.BySort.{BySort, an_opening, an_opening_path, a_closing, a_receiving, a_slot, another_call, by_sort}
use Rattle.abr_answers.specs.declared.calls.AbrAllowed.{AbrAllowed}
use Rattle.abr.specs.Exports.{Observation, zeros}
use Rattle.promise_lists.proofs.Moves.{Begun, newly-opened-at}
use Rattle.promise_lists.proofs.Refusals.{refused-unchanged}
use Rattle.promise_cells.specs.Changes.{NotFedBack, NoFeedback}
use Rattle.promise_cells.proofs.Changes.{changes}
use Rattle.promise_cells.proofs.BeforeFeedback.{call-unraised}
use Rattle.exports.proofs.Transport.{Sees, Keeps, stands, stands-first, kept-so}
use Rattle.exports_rates.specs.BeforeFeedback.{feeds, fed_after, fed_seen, ExportsBeforeFeedback, fed_by}
use Rattle.exports_rates.proofs.Held.{acr-held, open-under}

-- the difference of a number and itself
pub self : (a : ℕ) → pos a -ℤ pos a ≡ pos 0
self zero = refl
self (suc b) =
    let less : suc b - suc b ≡ 0 = omega arith in
    ap (λ (t : Bool). cond t (negsuc (suc b - suc (suc b))) (pos (suc b - suc b))) (le-ltb (suc b) (suc b) (omega arith)) ∙ ap pos less

-- of a connection, and of the one under v if nothing was fed back
record Unfed (d : Connection) : Type 0 where
  change : difference d.change ≡ pos 0
  rate : d.rate.acr ≤ initial_used d.rate.params

abbrev Unless : (v : ℕ) → Bool → State → Type 0
Unless v b s = b ≡ false → (d : Connection) → find v s.entries ≡ taken d → Unfed d

opened-unfed : (e : Connection) → Begun e → Unfed e
unfolding difference
opened-unfed e b = record { change = rw b.change (self e.rate.acr); rate = le_of_eq b.rate }

-- an accepted call that did not feed v, which was open: nothing was fed before, and it is none of the cells that do
or-false : (a b : Bool) → (a || b) ≡ false → (a ≡ false) × (b ≡ false)
or-false true b e = absurd (true≢false e)
or-false false b e = (refl, e)

not-fed-by : (v : ℕ) (r : Reading) → feeds v r ≡ false → (f : Fields) → r ≡ RmCell f → f.dir ≡ 1 → cell_name f ≢ v
not-fed-by v r h f e b n = absurd (true≢false (sym (ap (feeds v) e ∙ (λ i. eq-eqb (cell_name f) v n i && eq-eqb f.dir 1 b i)) ∙ h))

module _ (v : ℕ) {s : State} (d : Connection) (found : find v s.entries ≡ taken d) where
  new-other : (u t : ℕ) (p : Params) → OpenPassed s u t p → (k : Bool) → cond (eqb u v) false k ≡ false → k ≡ false
  new-other u t p g k e = go (case u v)
    where
      go : Case u v → k ≡ false
      go (same q) = absurd (taken≢free (sym found ∙ ap (λ (x : ℕ). find x s.entries) (sym q) ∙ g.new))
      go (other q) = sym (ap (λ (t : Bool). cond t false k) (ne_eqb u v q)) ∙ e

  opened-other : {a b t : ℕ} {p : Params} {o : Outcome} → Effect s (opening a b t p) o → (k : Bool) → is_accepted o.answer ≡ true → fed_after v (opening a b t p) k ≡ false → k ≡ false
  unfolding refuse is_accepted
  opened-other (refuses _ n h) k a e = absurd (true≢false (sym a))
  opened-other (opens _ _ _ _ g) k a e = new-other _ _ _ g k e

  path-other : {a t : ℕ} {p : Params} {o : Outcome} → Effect s (opening_path a t p) o → (k : Bool) → is_accepted o.answer ≡ true → fed_after v (opening_path a t p) k ≡ false → k ≡ false
  unfolding refuse is_accepted
  path-other (refuses _ n h) k a e = absurd (true≢false (sym a))
  path-other (opens_path _ _ _ g) k a e = new-other _ _ _ g k e

  not-fed : {c : Call} → BySort c → {o : Outcome} → Effect s c o → (k : Bool) → is_accepted o.answer ≡ true → fed_after v c k ≡ false → (k ≡ false) × NotFedBack v c
  not-fed (an_opening a b t p) h k q e = (opened-other h k q e, tt)
  not-fed (an_opening_path a t p) h k q e = (path-other h k q e, tt)
  not-fed (a_closing a b) h k q e = (e, tt)
  not-fed (a_receiving o) h k q e = let z = or-false (feeds v (reading o)) k e in (z.1, not-fed-by v (reading o) z.0)
  not-fed (a_slot t room) h k q e = (e, tt)
  not-fed (another_call c i) h k q e = (subst (λ (x : Sort). fed_by v k x ≡ false) i e, subst (NoFeedback v) (sym i) tt)

-- a refused call leaves the table
record Refusal (a : Answer) : Type 0 where
  number : ℕ
  is : refusal a ≡ some number

refusal-of : (a : Answer) → is_accepted a ≡ false → Refusal a
unfolding is_accepted refusal
refusal-of (Refused n) e = record { number = n; is = refl }
refusal-of (Accepted n) e = absurd (true≢false e)
refusal-of (Closed n k) e = absurd (true≢false e)
refusal-of Idle e = absurd (true≢false e)
refusal-of (Sent v x k a n) e = absurd (true≢false e)

module _ (v : ℕ) {s : State} {c : Call} {o : Observation} (z : Sees s c o) where
  refused-same : is_accepted (step s c).answer ≡ false → (step s c).state ≡ s
  refused-same a =
      subst (λ (x : State). is_accepted (step x c).answer ≡ false → (step x c).state ≡ x) z.reached
      (λ q. let r = refusal-of (step (final empty z.calls) c).answer q in (refused-unchanged z.calls c r.number r.is).table) a

  pub change-same : (d e : Connection) → find v s.entries ≡ taken d → find v (step s c).state.entries ≡ taken e → NotFedBack v c → e.change ≡ d.change
  unfolding acr_of entry_acr
  change-same d e f g n =
      subst (λ (x : State). find v x.entries ≡ taken d → find v (step x c).state.entries ≡ taken e → e.change ≡ d.change) z.reached
      (λ p q. changes.kept z.calls c v d.rate.acr e.rate.acr d.change e.change n (ap entry_acr p) (ap entry_acr q)) f g

  unfed-after : (k : Bool) → Unless v k s → Unless v (fed_seen v c o k) (step s c).state
  unfed-after k m h e found = was-open (find v s.entries) refl (is_accepted (step s c).answer) refl (sym (ap (λ (t : Bool). cond t (fed_after v c k) k) z.accepted) ∙ h)
    where
      was-open : (x : Entry) → find v s.entries ≡ x → (a : Bool) → is_accepted (step s c).answer ≡ a → cond a (fed_after v c k) k ≡ false → Unfed e
      was-open x f false a q = m q e (ap (λ (r : State). find v r.entries) (sym (refused-same a)) ∙ found)
      was-open free f true a q = opened-unfed e (newly-opened-at s z.well_formed.unique c v e f found)
      was-open (taken d) f true a q =
          let n = not-fed v d f (by_sort c) (effect s z.well_formed.unique c) k a q in
          let u = m n.0 d f in
          record { change = ap difference (change-same d e f found n.1) ∙ u.change; rate = call-unraised z.well_formed c v d e f found n.1 u.rate }

keeps-unfed : (v : ℕ) → Keeps (fed_seen v) (Unless v)
keeps-unfed v = record { goes = λ s c o k m z. unfed-after v z k m }

none-fed : (v : ℕ) → Unless v false empty
unfolding empty
none-fed v h d f = absurd (taken≢free (sym f ∙ absent-find v (replicate capacity free) (each_free (λ c. c.name ≢ v) capacity)))

pub exports-before-feedback : ExportsBeforeFeedback
exports-before-feedback cs os t v p e n a h =
    let d = open-under cs os t v p e in
    let u = kept-so (fed_seen v) (Unless v) (keeps-unfed v) empty zeros stands-first false (none-fed v) cs os t n d.holder d.found in
    let r = acr-held (stands cs os t) v d.holder d.found a h in
    record {
      change = ap (λ (x : AbrAllowed). x.change) r ∙ u.change;
      rate = subst (λ (n : ℕ). n ≤ initial_used p) (sym (ap (λ (x : AbrAllowed). x.acr) r)) (subst (λ (x : Params). d.holder.rate.acr ≤ initial_used x) d.params u.rate);
    }
