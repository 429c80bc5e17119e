-- The contract of an export out of that of the call below it.
use Prim.Native.Nat.{ℕ}
use mathlib.Core.Path.{◌≡◌, refl, ap, subst, ◌∙◌}
use mathlib.Core.List.{List}
use Rattle.std.specs.Prelude.{Result, Ok, Err}
use Rattle.laws.specs.declared.refusals.Refusal.{Refusal}
use Rattle.laws.specs.Refusals.{refusal_or_0}
use Rattle.connection.specs.Invariant.{ValidAt}
use Rattle.connection.proofs.Differences.{rates-kept}
use Rattle.model.specs.Call.{Outcome}
use Rattle.model.specs.Invariant.{OnEntry, WellFormed}
use Rattle.model.specs.Queries.{entry_acr, acr_of}
use Rattle.model.proofs.Entries.{find-each}
use Rattle.model.specs.Returned.{done_as}
use Rattle.model.specs.State.{State, Entry, free, taken, find}
use Rattle.model.specs.Answers.{Acr, Rate, Answer}
use Rattle.engine.specs.Contract.{Meets, MeetsWriting, MeetsReading, whole_answer}
use Rattle.abr_answers.specs.declared.calls.AbrAllowed.{AbrAllowed}
use Rattle.abr_answers.specs.Calls.{refusal_alone, answer_of, allowed_of, of_rates}
use Rattle.abr.specs.Contract.{ReturnsAllowed}

-- a call on the name that was made of a pair
pub named :
    (f : ℕ → State → Outcome) {n m : ℕ} {before after : List ℕ} {a : Answer} → n ≡ m → Meets whole_answer (f n) before after a
    → Meets whole_answer (f m) before after a
named f {before = before} {after = after} {a = a} e h = subst (λ (v : ℕ). Meets whole_answer (f v) before after a) e h

pub named-writing :
    (f : ℕ → State → Outcome) {n m : ℕ} {before after : List ℕ} {a : Answer} {old new : List ℕ} → n ≡ m → MeetsWriting whole_answer (f n) before after a old new
    → MeetsWriting whole_answer (f m) before after a old new
named-writing f {before = before} {after = after} {a = a} {old = old} {new = new} e h =
    subst (λ (v : ℕ). MeetsWriting whole_answer (f v) before after a old new) e h

-- what is returned of the answer, and of a reading
pub returned :
    {A R : Type 0} (part : A → R) {whole : State → Outcome → A} {f : State → Outcome} {before after : List ℕ} {a : A} {r : R} → r ≡ part a → Meets whole f before after a
    → Meets (λ s o. part (whole s o)) f before after r
returned part e m = record { meets = λ s w b. let k = m.meets s w b in (k.0, e ∙ ap part k.1) }

pub returned-writing :
    {A R : Type 0} (part : A → R) {whole : State → Outcome → A} {f : State → Outcome} {before after : List ℕ} {a : A} {r : R} {old new : List ℕ} → r ≡ part a
    → MeetsWriting whole f before after a old new → MeetsWriting (λ s o. part (whole s o)) f before after r old new
returned-writing part e m = record { meets = λ s w b. let k = m.meets s w b in (k.0, e ∙ ap part k.1, k.2) }

pub read_as :
    {A R : Type 0} (part : A → R) {of : State → A} {l : List ℕ} {a : A} {r : R} → r ≡ part a → MeetsReading (λ s. a ≡ of s) l → MeetsReading (λ s. r ≡ part (of s)) l
read_as part e m = record { meets = λ s w b. e ∙ ap part (m.meets s w b) }

-- a reading of the name that was made of a pair
pub read_named : {A : Type 0} (of : State → ℕ → A) {n m : ℕ} {l : List ℕ} {a : A} → n ≡ m → MeetsReading (λ s. a ≡ of s n) l → MeetsReading (λ s. a ≡ of s m) l
read_named of {l = l} {a = a} e h = subst (λ (v : ℕ). MeetsReading (λ s. a ≡ of s v) l) e h

-- a call that makes no comparisons returns its refusal alone
pub refused_alone : (r : Result Unit Refusal) → refusal_alone (refusal_or_0 r) ≡ answer_of (done_as r)
refused_alone (Ok u) = refl
refused_alone (Err e) = refl

-- reading an ACR: the rates of a well-formed state are below 2^42
entry-rates : (last : ℕ) (x : Entry) → OnEntry (ValidAt last) x → of_rates (entry_acr x) ≡ entry_acr x
unfolding entry_acr
entry-rates last free h = refl
entry-rates last (taken c) h = ap (Rate c.rate.acr) (rates-kept c.rate.params c.change h.1.before h.1.after)

acr-rates : (s : State) → WellFormed s → (v : ℕ) → of_rates (acr_of s v) ≡ acr_of s v
unfolding acr_of
acr-rates s w v = entry-rates s.last (find v s.entries) (find-each (ValidAt s.last) v s.entries w.each)

pub acrs : {n v : ℕ} {l : List ℕ} {a : Acr} {r : AbrAllowed} → n ≡ v → r ≡ allowed_of (of_rates a) → MeetsReading (λ s. a ≡ acr_of s n) l → ReturnsAllowed v l r
acrs {n} {l = l} {r = r} i e m =
    subst (λ (u : ℕ). ReturnsAllowed u l r) i
    (record { meets = λ s w b. e ∙ ap (λ (a : Acr). allowed_of (of_rates a)) (m.meets s w b) ∙ ap allowed_of (acr-rates s w n) })
