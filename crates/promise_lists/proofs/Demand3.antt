-- Demand 3 holds.
use Prim.Native.Nat.{ℕ}
use mathlib.Core.Path.{◌≡◌, refl}
use mathlib.Core.List.{List, [], ◌∷◌}
use Rattle.connection.specs.Invariant.{ValidAt}
use Rattle.model.specs.State.{State, Entry, free, taken, empty, find}
use Rattle.model.specs.Invariant.{OnEntry, WellFormed}
use Rattle.model.proofs.Entries.{find-each}
use Rattle.model.proofs.Preserved.{empty-well-formed}
use Rattle.model.specs.Answers.{Answer}
use Rattle.model.specs.Call.{Call, Outcome, refusal, kind_sent}
use Rattle.model.specs.Step.{step}
use Rattle.model.specs.Run.{run, final, entry_rate, allowed, params_given}
use Rattle.model.proofs.Reached.{step-well-formed, reached-well-formed}
use Rattle.model.proofs.Given.{entry_params, params-given}
use Rattle.promise_lists.specs.Demand3.{Bounded, not_open, between, InPlace, Comparable, SamePlace, NotAbove, neither, both, Agree, Demand3}
use Rattle.promise_lists.proofs.Relation.{Lower, vacant, lower, Tables, find-lower, empty-tables}
use Rattle.promise_lists.proofs.Pairs.{SameAnswer, refusals, plain, closes, idles, sends, Both, step-meets}

-- Bounds.
bounded-entry : (now : ℕ) (x : Entry) → OnEntry (ValidAt now) x → Bounded (entry_params x) (entry_rate x)
unfolding entry_params entry_rate
bounded-entry now free p = not_open
bounded-entry now (taken c) p = between p.1.rates.above p.1.rates.below

bounds : (cs : List Call) (v : ℕ) → Bounded (params_given v cs) (allowed v (final empty cs))
bounds cs v =
    let s = final empty cs in
    rw (← params-given v cs) (bounded-entry s.last (find v s.entries) (find-each (ValidAt s.last) v s.entries (reached-well-formed cs).each))

-- Pairs.
same-refusal : {a b : Answer} → SameAnswer a b → refusal a ≡ refusal b
unfolding refusal
same-refusal (refusals n) = refl
same-refusal (plain m n) = refl
same-refusal (closes k m n) = refl
same-refusal idles = refl
same-refusal (sends v x k a b m n) = refl

same_kind : {a b : Answer} → SameAnswer a b → kind_sent a ≡ kind_sent b
unfolding kind_sent
same_kind (refusals n) = refl
same_kind (plain m n) = refl
same_kind (closes k m n) = refl
same_kind idles = refl
same_kind (sends v x k a b m n) = refl

not-above : {x y : Entry} → Lower x y → NotAbove (entry_rate x) (entry_rate y)
unfolding entry_rate
not-above vacant = neither
not-above (lower c a z l) = both l

agree : {o p : Outcome} → Both o p → Agree o p
agree h = record { refusals = same-refusal h.answers; kinds = same_kind h.answers; rates = λ v. not-above (find-lower v h.states) }

pairs-from :
    {s₁ s₂ : State} → WellFormed s₁ → Tables s₁ s₂ → (xs ys : List Call) → InPlace Comparable xs ys → InPlace SamePlace (run s₁ xs) (run s₂ ys)
    → InPlace Agree (run s₁ xs) (run s₂ ys)
pairs-from w r [] [] h g = tt
pairs-from w r [] (y ∷ ys) h g = absurd h
pairs-from w r (x ∷ xs) [] h g = absurd h
pairs-from {s₁ = s₁} {s₂ = s₂} w r (x ∷ xs) (y ∷ ys) h g =
    let k = step-meets w r h.0 g.0 in
    (agree k, pairs-from {s₁ = (step s₁ x).state} {s₂ = (step s₂ y).state} (step-well-formed w x) k.states xs ys h.1 g.1)

pub demand3 : Demand3
demand3 = record { bounds = bounds; pairs = pairs-from empty-well-formed empty-tables }
