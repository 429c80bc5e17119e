-- Sums over names, and the cells and rates of all connections together.
use Prim.Native.Nat.{ℕ, ◌+◌, ◌-◌, ◌*◌, ◌≤◌, ◌<◌}
use mathlib.Core.Path.{◌≡◌, refl, sym, ap, subst, ◌∙◌}
use mathlib.Core.Logic.{by_cases}
use mathlib.Core.Bool.{Bool, true, false, cond, ◌||◌, true≢false}
use mathlib.Core.List.{List, [], ◌∷◌}
use mathlib.Core.Option.{Option}
use native.Mathlib.Nat.{le_refl, add-mul, mul-le-mul_left, mul_assoc}
use native.Mathlib.Decide.{dec_lt}
use native.Mathlib.Omega.{arith}
use lib.Dec.{eqb}
use lib.ListN.{length}
use borrow.Author.Tests.{eqb-true}
use Rattle.connection.specs.Kind.{kind_number}
use Rattle.model.specs.State.{State, Entry, free, taken, find}
use Rattle.model.specs.Invariant.{OnEntry}
use Rattle.model.specs.Call.{Call, goes_to}
use Rattle.model.specs.Answers.{Answer, Refused, Accepted, Closed, Idle, Sent}
use Rattle.model.specs.Step.{step}
use Rattle.model.specs.Queries.{entry_acr, acr_of}
use Rattle.model.proofs.Entries.{taken≢free, find-name, find-each}
use Rattle.laws.specs.All.{All}
use Rattle.promise_traces.specs.InRate.{SentCell, acr_in, cell_in, at_slot, sent_by, at_sort}
use Rattle.model.specs.Aspects.{Sort, opener, closer, slot_at, another, sort_of, arrival}
use Rattle.promise_delivery.specs.Calls.{time_sent, total, is_in, OpenAmong, Held, AtSlot}
use Rattle.promise_delivery.proofs.Calls.{Sends, nothing, onto}

-- Sums over names.
pub total-at : (f : ℕ → ℕ) (vs : List ℕ) (u : ℕ) → is_in u vs ≡ true → f u ≤ total f vs
unfolding is_in
total-at f [] u e = let z : ◌≡◌ {A = ℕ} 0 1 = cc in absurd (omega arith)
total-at f (v ∷ vs) u e = go (eqb v u) refl e (total-at f vs u)
  where
    go : (b : Bool) → eqb v u ≡ b → (b || is_in u vs) ≡ true → (is_in u vs ≡ true → f u ≤ total f vs) → f u ≤ f v + total f vs
    go true q e ih = rw (eqb-true v u q) (omega arith)
    go false q e ih = omega (arith, ih e)

pub total-add : (f g h : ℕ → ℕ) → ((v : ℕ) → f v + g v ≤ h v) → (vs : List ℕ) → total f vs + total g vs ≤ total h vs
total-add f g h k [] = le_refl 0
total-add f g h k (v ∷ vs) = omega (arith, k v, total-add f g h k vs)

pub total_mono : (f g : ℕ → ℕ) → ((v : ℕ) → f v ≤ g v) → (vs : List ℕ) → total f vs ≤ total g vs
total_mono f g k [] = le_refl 0
total_mono f g k (v ∷ vs) = omega (arith, k v, total_mono f g k vs)

pub total-over :
    (f a k : ℕ → ℕ) (m : ℕ) → ((v : ℕ) → f v * m ≤ a v + k v * m) → (vs : List ℕ) → total f vs * m ≤ total a vs + total k vs * m
total-over f a k m h [] = omega arith
total-over f a k m h (v ∷ vs) = omega (arith, h v, total-over f a k m h vs, add-mul (f v) (total f vs) m, add-mul (k v) (total k vs) m)

-- what is open at a time fits the link at that time
pub passes : (l m q S : ℕ) → (l < m → q * S ≤ 512_000_000_000) → (m - l) * q * S ≤ (m - l) * 512_000_000_000
passes l m q S h = by_cases (dec_lt l m) (λ k. omega (arith, mul-le-mul_left (m - l) (h k), mul_assoc (m - l) q S)) (λ k. rest (m - l) (omega (arith, k)))
  where
    rest : (d : ℕ) → d ≡ 0 → d * q * S ≤ d * 512_000_000_000
    rest d e = rw e (omega arith)

-- a name that is none of these is not open
pub among-free : (vs : List ℕ) (s : State) → OpenAmong vs s → (u : ℕ) → is_in u vs ≡ false → find u s.entries ≡ free
among-free vs s h u e = go (find u s.entries) (find-name u s.entries) (find-each (λ d. is_in d.name vs ≡ true) u s.entries h)
  where
    go : (x : Entry) → OnEntry (λ d. d.name ≡ u) x → OnEntry (λ d. is_in d.name vs ≡ true) x → x ≡ free
    go free n k = refl
    go (taken d) n k = absurd (true≢false (sym k ∙ ap (λ (w : ℕ). is_in w vs) n ∙ e))

-- only a slot sends
at_slot_lem : (x : Sort) (t : ℕ) (w : Option ℕ) → time_sent x w ≡ t ∷ [] → {P : Type 0} → AtSlot x P → P
at_slot_lem (opener u n p) t w e h = let z : ◌≡◌ {A = ℕ} 0 1 = cc in absurd (omega arith)
at_slot_lem (closer u) t w e h = let z : ◌≡◌ {A = ℕ} 0 1 = cc in absurd (omega arith)
at_slot_lem (arrival o) t w e h = let z : ◌≡◌ {A = ℕ} 0 1 = cc in absurd (omega arith)
at_slot_lem (slot_at n) t w e h = h
at_slot_lem another t w e h = let z : ◌≡◌ {A = ℕ} 0 1 = cc in absurd (omega arith)

-- a slot that sends goes to one of the names
pub call-in :
    (s : State) (c : Call) (vs : List ℕ) (r : ℕ → ℕ) → AtSlot (sort_of c) (Held vs r s) → Sends s c (step s c)
    → length (time_sent (sort_of c) (goes_to (step s c).answer)) ≤ total (λ v. length (sent_by v s c (step s c).answer)) vs
call-in s c vs r h (nothing e n l) = rw e (omega arith)
call-in s c vs r h (onto t u d e f x n l q) = rw e (go (is_in u vs) refl)
  where
    go : (y : Bool) → is_in u vs ≡ y → 1 ≤ total (λ v. length (sent_by v s c (step s c).answer)) vs
    go false z = absurd (taken≢free (sym f ∙ among-free vs s (at_slot_lem (sort_of c) t _ e h).among u z))
    go true z = subst (λ (n : ℕ). n ≤ total (λ v. length (sent_by v s c (step s c).answer)) vs) x (total-at (λ v. length (sent_by v s c (step s c).answer)) vs u z)

-- Rates that are held.
rate-in : (vs : List ℕ) (r : ℕ → ℕ) (v : ℕ) (s : State) → Held vs r s → acr_in (acr_of s v) ≤ r v
unfolding acr_of entry_acr acr_in
rate-in vs r v s h = go (find v s.entries) (find-name v s.entries) (find-each (λ d. d.rate.acr ≤ r d.name) v s.entries h.rates)
  where
    go : (x : Entry) → OnEntry (λ d. d.name ≡ v) x → OnEntry (λ d. d.rate.acr ≤ r d.name) x → acr_in (entry_acr x) ≤ r v
    go free n l = omega arith
    go (taken d) n l = subst (λ (u : ℕ). d.rate.acr ≤ r u) n l

cell-rates : (v t q r : ℕ) (a : Answer) → q ≤ r → All (λ x. x.rate ≤ r) (cell_in v t q a)
unfolding cell_in
cell-rates v t q r (Refused n) h = tt
cell-rates v t q r (Accepted n) h = tt
cell-rates v t q r (Closed n k) h = tt
cell-rates v t q r Idle h = tt
cell-rates v t q r (Sent u x k a n) h = go (eqb u v)
  where
    go : (b : Bool) → All {A = SentCell} (λ x. x.rate ≤ r) (cond b (record { time = t; kind = kind_number k; rate = q } ∷ []) [])
    go true = (h, tt)
    go false = tt

sort-rates : (vs : List ℕ) (r : ℕ → ℕ) (v : ℕ) (s : State) (a : Answer) (x : Sort) → AtSlot x (Held vs r s) → All (λ y. y.rate ≤ r v) (at_sort x (λ t. cell_in v t (acr_in (acr_of s v)) a))
sort-rates vs r v s a (opener u t p) h = tt
sort-rates vs r v s a (closer u) h = tt
sort-rates vs r v s a (arrival o) h = tt
sort-rates vs r v s a (slot_at t) h = cell-rates v t (acr_in (acr_of s v)) (r v) a (rate-in vs r v s h)
sort-rates vs r v s a another h = tt

pub call-rates : (vs : List ℕ) (r : ℕ → ℕ) (v : ℕ) (s : State) (c : Call) (a : Answer) → AtSlot (sort_of c) (Held vs r s) → All (λ x. x.rate ≤ r v) (sent_by v s c a)
unfolding sent_by at_slot
call-rates vs r v s c a h = sort-rates vs r v s a (sort_of c) h
