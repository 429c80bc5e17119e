-- Entries: the connection that a name finds, what stays of the others when one entry changes, and
-- that no name has two entries.
use Prim.Native.Nat.{ℕ, zero, suc, ◌<◌}
use mathlib.Core.Path.{◌≡◌, refl, sym, ap, subst, ◌∙◌}
use mathlib.Core.Logic.{◌≢◌}
use mathlib.Core.Bool.{Bool, true, false}
use mathlib.Core.List.{List, [], ◌∷◌}
use native.Mathlib.Omega.{arith}
use native.Mathlib.Nat.{not-suc-le-zero, le_of_suc-le-suc}
use lib.Dec.{eqb}
use lib.ListN.{length, get_or, set, replicate}
use borrow.Author.Tests.{eqb-true, eqb-false, eq-eqb, ne_eqb}
use Rattle.connection.specs.declared.parts.Connection.{Connection}
use Rattle.model.specs.State.{Entry, free, taken, position, is_free, holds, find}
use Rattle.model.specs.Invariant.{OnEntry, Each, Absent, NamesUnique}

-- Each.
pub each-get : (P : Connection → Type 0) (ss : List Entry) → Each P ss → (i : ℕ) → OnEntry P (get_or ss i free)
each-get P [] h i = tt
each-get P (s ∷ ss) h zero = h.0
each-get P (s ∷ ss) h (suc i) = each-get P ss h.1 i

pub each_set : (P : Connection → Type 0) (ss : List Entry) → Each P ss → (i : ℕ) (x : Entry) → OnEntry P x → Each P (set ss i x)
each_set P [] h i x p = tt
each_set P (s ∷ ss) h zero x p = (p, h.1)
each_set P (s ∷ ss) h (suc i) x p = (h.0, each_set P ss h.1 i x p)

pub entry-map : (P Q : Connection → Type 0) → ((c : Connection) → P c → Q c) → (x : Entry) → OnEntry P x → OnEntry Q x
entry-map P Q f free h = tt
entry-map P Q f (taken c) h = f c h

pub each_map : (P Q : Connection → Type 0) → ((c : Connection) → P c → Q c) → (ss : List Entry) → Each P ss → Each Q ss
each_map P Q f [] h = tt
each_map P Q f (s ∷ ss) h = (entry-map P Q f s h.0, each_map P Q f ss h.1)

pub each_free : (P : Connection → Type 0) (n : ℕ) → Each P (replicate n free)
each_free P zero = tt
each_free P (suc n) = (tt, each_free P n)

pub unique-free : (n : ℕ) → NamesUnique (replicate n free)
unique-free zero = tt
unique-free (suc n) = (tt, unique-free n)

-- Finding, one entry at a time.
find-free : (v : ℕ) (ss : List Entry) → find v (free ∷ ss) ≡ find v ss
unfolding find position holds
find-free v ss = refl

pub find-hit : (v : ℕ) (c : Connection) (ss : List Entry) → c.name ≡ v → find v (taken c ∷ ss) ≡ taken c
unfolding find position holds
find-hit v c ss e = rw (eq-eqb c.name v e)

find-miss : (v : ℕ) (c : Connection) (ss : List Entry) → c.name ≢ v → find v (taken c ∷ ss) ≡ find v ss
unfolding find position holds
find-miss v c ss e = rw (ne_eqb c.name v e)

-- past an entry that does not hold the name
pub find_past : (v : ℕ) (x : Entry) (ss : List Entry) → OnEntry (λ c. c.name ≢ v) x → find v (x ∷ ss) ≡ find v ss
find_past v free ss h = find-free v ss
find_past v (taken c) ss h = find-miss v c ss h

-- a name is the entry's, or not
pub data Case (a b : ℕ) : Type 0 where
  same : a ≡ b → Case a b
  other : a ≢ b → Case a b

pub case : (a b : ℕ) → Case a b
case a b = go (eqb a b) refl
  where
    go : (t : Bool) → eqb a b ≡ t → Case a b
    go true e = same (eqb-true a b e)
    go false e = other (eqb-false a b e)

-- behind one entry, what is found hangs on what is found in the rest
find-cons : (v : ℕ) (x : Entry) (ss rs : List Entry) → find v ss ≡ find v rs → find v (x ∷ ss) ≡ find v (x ∷ rs)
find-cons v free ss rs e = find-free v ss ∙ (e ∙ sym (find-free v rs))
find-cons v (taken c) ss rs e = go (case c.name v)
  where
    go : Case c.name v → find v (taken c ∷ ss) ≡ find v (taken c ∷ rs)
    go (same h) = find-hit v c ss h ∙ sym (find-hit v c rs h)
    go (other h) = find-miss v c ss h ∙ (e ∙ sym (find-miss v c rs h))

pub taken≢free : {c : Connection} → taken c ≡ free → ⊥
taken≢free e = let z : ◌≡◌ {A = ℕ} 0 1 = cc in omega arith

-- What is found under a name has it.
pub find-name : (v : ℕ) (ss : List Entry) → OnEntry (λ c. c.name ≡ v) (find v ss)
unfolding find
find-name v [] = tt
find-name v (free ∷ ss) = rw (find-free v ss) (find-name v ss)
find-name v (taken c ∷ ss) = go (find-name v ss) (case c.name v)
  where
    go : OnEntry (λ d. d.name ≡ v) (find v ss) → Case c.name v → OnEntry (λ d. d.name ≡ v) (find v (taken c ∷ ss))
    go h (same e) = rw (find-hit v c ss e) e
    go h (other e) = rw (find-miss v c ss e) h

pub find-each : (P : Connection → Type 0) (v : ℕ) (ss : List Entry) → Each P ss → OnEntry P (find v ss)
unfolding find
find-each P v ss h = each-get P ss h (position (holds v) ss)

pub each_at : (P : Connection → Type 0) (v : ℕ) (ss : List Entry) (c : Connection) → find v ss ≡ taken c → Each P ss → P c
each_at P v ss c e h = subst (OnEntry P) e (find-each P v ss h)

-- A name under which nothing is found has no entry, and the other way.
pub find_absent : (v : ℕ) (ss : List Entry) → find v ss ≡ free → Absent v ss
find_absent v [] e = tt
find_absent v (free ∷ ss) e = (tt, find_absent v ss (rw (find-free v ss) at e))
find_absent v (taken c ∷ ss) e = go (λ h. find_absent v ss h) (case c.name v)
  where
    go : (find v ss ≡ free → Absent v ss) → Case c.name v → (c.name ≢ v) × Absent v ss
    go k (same h) = absurd (taken≢free (sym (find-hit v c ss h) ∙ e))
    go k (other h) = (h, k (sym (find-miss v c ss h) ∙ e))

pub absent-find : (v : ℕ) (ss : List Entry) → Absent v ss → find v ss ≡ free
unfolding find position
absent-find v [] h = refl
absent-find v (x ∷ ss) h = find_past v x ss h.0 ∙ absent-find v ss h.1

-- Entry i is given another content.
pub find-other :
    (v : ℕ) (ss : List Entry) (i : ℕ) (x : Entry) → OnEntry (λ c. c.name ≢ v) (get_or ss i free) → OnEntry (λ c. c.name ≢ v) x
    → find v (set ss i x) ≡ find v ss
find-other v [] i x p q = refl
find-other v (s ∷ ss) zero x p q = find_past v x ss q ∙ sym (find_past v s ss p)
find-other v (s ∷ ss) (suc i) x p q = find-cons v s (set ss i x) ss (find-other v ss i x p q)

pub find-same :
    (v : ℕ) (d : Connection) → d.name ≡ v → (ss : List Entry) (i : ℕ) → i < length ss → Absent v (set ss i free) → find v (set ss i (taken d)) ≡ taken d
find-same v d e [] i l a = absurd (not-suc-le-zero l)
find-same v d e (s ∷ ss) zero l a = find-hit v d ss e
find-same v d e (s ∷ ss) (suc i) l a = find_past v s (set ss i (taken d)) a.0 ∙ find-same v d e ss i (le_of_suc-le-suc l) a.1

-- no name has two entries, if the new one has none but entry i
pub unique-set : (ss : List Entry) (i : ℕ) (x : Entry) → NamesUnique ss → OnEntry (λ d. Absent d.name (set ss i free)) x → NamesUnique (set ss i x)
unique-set [] i x a h = tt
unique-set (s ∷ ss) zero x a h = (entry-map _ _ (λ d k. k.1) x h, a.1)
unique-set (free ∷ ss) (suc i) x a h = (tt, unique-set ss i x a.1 (entry-map _ _ (λ d k. k.1) x h))
unique-set (taken c ∷ ss) (suc i) x a h = (
  each_set (λ d. d.name ≢ c.name) ss a.0 i x (entry-map _ _ (λ d k e. k.0 (sym e)) x h),
  unique-set ss i x a.1 (entry-map _ _ (λ d k. k.1) x h),
)

-- The entry of a name, and the lowest free one.
pub taken_in : (ss : List Entry) (i : ℕ) (c : Connection) → get_or ss i free ≡ taken c → i < length ss
taken_in [] i c e = absurd (taken≢free (sym e))
taken_in (s ∷ ss) zero c e = omega arith
taken_in (s ∷ ss) (suc i) c e = omega (arith, taken_in ss i c e)

-- freed, the name has no entry
pub freed-absent : (v : ℕ) (ss : List Entry) → NamesUnique ss → Absent v (set ss (position (holds v) ss) free)
unfolding position holds
freed-absent v [] a = tt
freed-absent v (free ∷ ss) a = (tt, freed-absent v ss a.1)
freed-absent v (taken c ∷ ss) a = go (freed-absent v ss a.1) (case c.name v)
  where
    go : Absent v (set ss (position (holds v) ss) free) → Case c.name v → Absent v (set (taken c ∷ ss) (position (holds v) (taken c ∷ ss)) free)
    go k (same e) = rw (eq-eqb c.name v e) (tt, subst (λ (u : ℕ). Absent u ss) e a.0)
    go k (other e) = rw (ne_eqb c.name v e) (e, k)

pub lowest-free : (ss : List Entry) → get_or ss (position is_free ss) free ≡ free
unfolding position is_free
lowest-free [] = refl
lowest-free (free ∷ ss) = refl
lowest-free (taken c ∷ ss) = lowest-free ss

-- where no name has two entries, a connection's entry is that of its name
pub entry_place : (ss : List Entry) → NamesUnique ss → (i : ℕ) (c : Connection) → get_or ss i free ≡ taken c → position (holds c.name) ss ≡ i
unfolding position holds
entry_place [] a i c e = absurd (taken≢free (sym e))
entry_place (free ∷ ss) a zero c e = absurd (taken≢free (sym e))
entry_place (free ∷ ss) a (suc i) c e = ap suc (entry_place ss a.1 i c e)
entry_place (taken d ∷ ss) a zero c e = let h : d.name ≡ c.name = cc in rw (eq-eqb d.name c.name h)
entry_place (taken d ∷ ss) a (suc i) c e =
    rw (ne_eqb d.name c.name (λ h. subst (OnEntry (λ x. x.name ≢ d.name)) e (each-get _ ss a.0 i) (sym h)))
    (ap suc (entry_place ss a.1 i c e))
