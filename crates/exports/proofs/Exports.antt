-- Demand 3 holds of exported calls.
use Prim.Native.Nat.{ℕ, ◌<◌}
use mathlib.Core.Path.{◌≡◌, refl, sym, ap, ◌∙◌}
use mathlib.Core.Bool.{Bool}
use mathlib.Core.List.{List, [], ◌∷◌}
use mathlib.Core.Option.{Option, none, some}
use native.Mathlib.Nat.{le_refl}
use native.Mathlib.Omega.{arith}
use lib.Dec.{eqb}
use borrow.Author.Tests.{ne_eqb}
use Rattle.rate_params.specs.declared.params.Params.{Params}
use Rattle.connection.specs.declared.kind.Kind.{Kind}
use Rattle.connection.specs.declared.kind.Kind.TheVariants.{Forward, Turned, Data}
use Rattle.model.specs.State.{State, Entry, free, taken, empty, find}
use Rattle.model.specs.Invariant.{WellFormed}
use Rattle.model.specs.Answers.{Answer, Refused, Accepted, Closed, Idle, Sent}
use Rattle.model.specs.Call.{Call, Outcome, refusal, kind_sent}
use Rattle.model.specs.Step.{step}
use Rattle.model.specs.Queries.{entry_acr, acr_of}
use Rattle.model.specs.Run.{run, final, is_accepted, params_after, given_from, entry_rate, allowed}
use Rattle.model.proofs.Preserved.{empty-well-formed}
use Rattle.model.proofs.Effects.{Effect, effect}
use Rattle.model.proofs.Reached.{step-well-formed}
use Rattle.model.proofs.Shown.{effect-shown}
use Rattle.abr_answers.specs.declared.calls.AbrAllowed.{AbrAllowed}
use Rattle.abr_answers.specs.Calls.{allowed_of}
use Rattle.abr_answers.specs.Reply.{Reply, reply_of}
use Rattle.abr.specs.Contract.{ReturnsAllowed}
use Rattle.abr.specs.Exports.{Observation, Transcript, final_words, zeros, Matches, AllMatch, neither, both}
use Rattle.connection.specs.Slot.{Buffer, untouched}
use Rattle.table.specs.Layout.{words}
use Rattle.engine.specs.Contract.{buffer_content}
use Rattle.abr.proofs.Exports.{zeros-words, exports-are-run}
use Rattle.promise_lists.specs.Demand3.{Bounded, InPlace, SamePlace, NotAbove, neither as none_open, both as both_open, Agree}
use Rattle.exports.specs.Exports.{params_observed, rate_returned, SameConnection, RateNotAbove, ObservedAgree, RefusedLeave, ExportsDemand1, ExportsDemand3}
use Rattle.exports.specs.Returned.{no_member, went_to, places_seen}
use Rattle.exports.proofs.Returned.{Knows, none-known, knows_after, names-connection, went_to_lem}
use Rattle.promise_lists.proofs.Demand3.{demand3}
use Rattle.promise_lists.proofs.Refusals.{shown-refused}

-- What the numbers say of the answers: 0 of an accepted call alone, since no refusal's number is 0.
answer-accepted : (a : Answer) → ((n : ℕ) → refusal a ≡ some n → 0 < n) → eqb (reply_of a).refusal 0 ≡ is_accepted a
unfolding refusal is_accepted
answer-accepted (Refused n) h = let z = h n refl in ne_eqb n 0 (λ e. omega (arith, z, e))
answer-accepted (Accepted n) h = refl
answer-accepted (Closed n k) h = refl
answer-accepted Idle h = refl
answer-accepted (Sent v x k a n) h = refl

pub effect-accepted : {s : State} {c : Call} {o : Outcome} → Effect s c o → eqb (reply_of o.answer).refusal 0 ≡ is_accepted o.answer
effect-accepted {s} {c} {o} e = answer-accepted o.answer (λ n q. (shown-refused (effect-shown e) n q).number)

-- the kind and the connection of a slot, and a refusal's number
or_zero : Option ℕ → ℕ
or_zero none = 0
or_zero (some n) = n

refusal-number : (a : Answer) → (reply_of a).refusal ≡ or_zero (refusal a)
unfolding refusal or_zero
refusal-number (Refused n) = refl
refusal-number (Accepted n) = refl
refusal-number (Closed n k) = refl
refusal-number Idle = refl
refusal-number (Sent v x k a n) = refl

kind_or_zero : Option Kind → ℕ
kind_or_zero none = 0
kind_or_zero (some Forward) = 1
kind_or_zero (some Turned) = 2
kind_or_zero (some Data) = 3

kind-number : (a : Answer) → (reply_of a).kind ≡ kind_or_zero (kind_sent a)
unfolding kind_sent kind_or_zero
kind-number (Refused n) = refl
kind-number (Accepted n) = refl
kind-number (Closed n k) = refl
kind-number Idle = refl
kind-number (Sent v x Forward a n) = refl
kind-number (Sent v x Turned a n) = refl
kind-number (Sent v x Data a n) = refl

-- Refusals.
effect-leaves : {s : State} {c : Call} {o : Outcome} → Effect s c o → ((reply_of o.answer).refusal ≡ 0 → ⊥) → (o.state ≡ s) × (o.buffer ≡ untouched)
unfolding refusal
effect-leaves {s} {c} {o} e z = go o.answer refl z
  where
    go : (a : Answer) → o.answer ≡ a → ((reply_of a).refusal ≡ 0 → ⊥) → (o.state ≡ s) × (o.buffer ≡ untouched)
    go (Refused n) q h = let u = shown-refused (effect-shown e) n (ap refusal q) in (u.table, u.buffer)
    go (Accepted n) q h = absurd (h refl)
    go (Closed n k) q h = absurd (h refl)
    go Idle q h = absurd (h refl)
    go (Sent v x k a n) q h = absurd (h refl)

leave-from : (s : State) → WellFormed s → (cs : List Call) (l : List ℕ) (os : List Observation) → AllMatch (run s cs) os → l ≡ words s → RefusedLeave l os
leave-from s w [] l [] neither e = tt
leave-from s w (c ∷ cs) l (o ∷ os) (both g gs) e = (
  λ z.
      let k = effect-leaves (effect s w.unique c) (λ q. z (ap (λ r. r.refusal) g.returned ∙ q)) in
      (g.table ∙ ap words k.0 ∙ sym e, g.buffer ∙ ap (λ (b : Buffer). buffer_content b o.old) k.1),
  leave-from (step s c).state (step-well-formed w c) cs o.table os gs g.table,
)
leave-from s w [] l (o ∷ os) x5 e = elim x5 [ ]
leave-from s w (c ∷ cs) l [] x5 e = elim x5 [ ]

pub exports-demand1 : ExportsDemand1
exports-demand1 cs os t = leave-from empty empty-well-formed cs zeros os (exports-are-run.each cs os t) zeros-words

-- Bounds.
pub params-observed :
    (v : ℕ) (s : State) → WellFormed s → (before : Option Params) (cs : List Call) (os : List Observation) → AllMatch (run s cs) os
    → params_observed v before cs os ≡ given_from v s before cs
params-observed v s w b [] [] neither = refl
params-observed v s w b (c ∷ cs) (o ∷ os) (both g gs) =
    ap (λ (a : Bool). params_observed v (params_after v c a b) cs os) (ap (λ r. eqb r.refusal 0) g.returned ∙ effect-accepted (effect s w.unique c))
    ∙ params-observed v (step s c).state (step-well-formed w c) (params_after v c (is_accepted (step s c).answer) b) cs os gs
params-observed v s w b [] (o ∷ os) x3 = elim x3 [ ]
params-observed v s w b (c ∷ cs) [] x4 = elim x4 [ ]

entry-rate : (x : Entry) → rate_returned (allowed_of (entry_acr x)) ≡ entry_rate x
unfolding entry_acr entry_rate
entry-rate free = refl
entry-rate (taken c) = refl

pub acr-rate : (s : State) (v : ℕ) → rate_returned (allowed_of (acr_of s v)) ≡ allowed v s
unfolding acr_of
acr-rate s v = entry-rate (find v s.entries)

bounds :
    (cs : List Call) (os : List Observation) → Transcript cs zeros os → (v : ℕ) (a : AbrAllowed) → ReturnsAllowed v (final_words zeros os) a
    → Bounded (params_observed v none cs os) (rate_returned a)
bounds cs os t v a h =
    rw (params-observed v empty empty-well-formed none cs os (exports-are-run.each cs os t), exports-are-run.acr cs os t v a h, acr-rate (final empty cs) v) (demand3.bounds cs v)

-- Pairs.
pub accepted-seen : {s : State} → WellFormed s → (c : Call) {o : Observation} → Matches (step s c) o → eqb o.returned.refusal 0 ≡ is_accepted (step s c).answer
accepted-seen {s} w c g = ap (λ (r : Reply). eqb r.refusal 0) g.returned ∙ effect-accepted (effect s w.unique c)

place-from :
    {s₁ s₂ : State} → WellFormed s₁ → WellFormed s₂ → (f g : ℕ → Bool) → Knows f s₁ → Knows g s₂ → (xs ys : List Call) {os ps : List Observation} → AllMatch (run s₁ xs) os
    → AllMatch (run s₂ ys) ps → InPlace SameConnection (places_seen f xs os) (places_seen g ys ps) → InPlace SamePlace (run s₁ xs) (run s₂ ys)
place-from w z f g k l [] [] neither neither e = tt
place-from w z f g k l [] (y ∷ ys) neither (both h hs) e = absurd e
place-from w z f g k l (x ∷ xs) [] (both m ms) neither e = absurd e
place-from {s₁ = s₁} {s₂ = s₂} w z f g k l (x ∷ xs) (y ∷ ys) (both m ms) (both h hs) e = (
  sym (went_to_lem f (step s₁ x).answer (names-connection w f k x)) ∙ ap (went_to f) (sym m.returned) ∙ e.0 ∙ ap (went_to g) h.returned ∙ went_to_lem g (step s₂ y).answer (names-connection z g l y),
  place-from {s₁ = (step s₁ x).state} {s₂ = (step s₂ y).state} (step-well-formed w x) (step-well-formed z y) _ _ (knows_after w x f k _ (accepted-seen w x m)) (knows_after z y g l _ (accepted-seen z y h)) xs ys ms hs e.1,
)

rate-not-above : (x y : Entry) → NotAbove (entry_rate x) (entry_rate y) → RateNotAbove (allowed_of (entry_acr x)) (allowed_of (entry_acr y))
unfolding entry_acr entry_rate
rate-not-above free free none_open = record { refusals = refl; rates = le_refl 0 }
rate-not-above (taken c) (taken d) (both_open l) = record { refusals = refl; rates = l }
rate-not-above free (taken d) x3 = elim x3 [ ]
rate-not-above (taken c) free x4 = elim x4 [ ]

acr-not-above : (s₁ s₂ : State) (v : ℕ) → NotAbove (allowed v s₁) (allowed v s₂) → RateNotAbove (allowed_of (acr_of s₁ v)) (allowed_of (acr_of s₂ v))
unfolding acr_of
acr-not-above s₁ s₂ v h = rate-not-above (find v s₁.entries) (find v s₂.entries) h

observed-agree :
    {x y : Outcome} {o p : Observation} → WellFormed x.state → WellFormed y.state → Matches x o → Matches y p → Agree x y → ObservedAgree o p
observed-agree {x} {y} {o} {p} w z g h a = record {
  refusals = ap (λ r. r.refusal) g.returned ∙ refusal-number x.answer ∙ ap or_zero a.refusals ∙ sym (refusal-number y.answer) ∙ ap (λ r. r.refusal) (sym h.returned);
  kinds = ap (λ r. r.kind) g.returned ∙ kind-number x.answer ∙ ap kind_or_zero a.kinds ∙ sym (kind-number y.answer) ∙ ap (λ r. r.kind) (sym h.returned);
  rates = λ v q r m n. rw (m.meets x.state w g.table, n.meets y.state z h.table) (acr-not-above x.state y.state v (a.rates v));
}

agree-from :
    {s₁ s₂ : State} → WellFormed s₁ → WellFormed s₂ → (xs ys : List Call) {os ps : List Observation} → AllMatch (run s₁ xs) os → AllMatch (run s₂ ys) ps
    → InPlace Agree (run s₁ xs) (run s₂ ys) → InPlace ObservedAgree os ps
agree-from w z [] [] neither neither a = tt
agree-from w z [] (y ∷ ys) g h a = absurd a
agree-from w z (x ∷ xs) [] g h a = absurd a
agree-from {s₁ = s₁} {s₂ = s₂} w z (x ∷ xs) (y ∷ ys) (both {o = o} {os = os} g gs) (both {o = o'} {os = os'} h hs) a =
    (observed-agree (step-well-formed w x) (step-well-formed z y) g h a.0, agree-from {s₁ = (step s₁ x).state} (step-well-formed w x) (step-well-formed z y) xs ys gs hs a.1)

pub exports-demand3 : ExportsDemand3
exports-demand3 = record {
  bounds = bounds;
  pairs = λ xs ys os ps t u c e.
      let g = exports-are-run.each xs os t in
      let h = exports-are-run.each ys ps u in
      agree-from empty-well-formed empty-well-formed xs ys g h (demand3.pairs xs ys c (place-from empty-well-formed empty-well-formed no_member no_member none-known none-known xs ys g h e));
}
