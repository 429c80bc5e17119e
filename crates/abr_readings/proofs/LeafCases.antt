-- Where a leaf leads in the words of a state: one lemma for each way out.
use Rattle.std.proofs.Common.{◌≡◌, ℕ, zero, suc, ◌+◌, ◌<◌, ◌≤◌, ◌≢◌, List, [], ◌∷◌, length, get_or, sym, refl, ap, ◌∙◌, le_of_suc-le-suc, not-suc-le-zero, arith}
use mathlib.Core.Option.{none}
use Rattle.std.specs.Prelude.{Some, None}
use Rattle.connection_members.specs.Path.{is_path}
use Rattle.connection.specs.declared.parts.Connection.{Connection}
use Rattle.connection.specs.Invariant.{ValidAt}
use Rattle.model.specs.State.{State, Entry, free, taken, capacity}
use Rattle.model.specs.Invariant.{WellFormed}
use Rattle.model.specs.Status.{entry_status, leaf_status, status_at}
use Rattle.model.specs.Answers.{NothingOpen}
use Rattle.table.specs.Layout.{words, record_from}
use Rattle.table.specs.Loading.{name_of}
use Rattle.table.proofs.Loaded.{name_back}
use Rattle.table.proofs.Words.{identity_number, identity-at}
use Rattle.engine.specs.Contract.{MeetsReading}
use Rattle.abr_readings.specs.Place.{own_place, Points}
use Rattle.abr_readings.specs.declared.place.Place.{Place}
use Rattle.abr_readings.proofs.EntryCases.{valid-in-use}
use Rattle.abr_readings.proofs.PlaceCases.{own-points}

-- behind the last entry none is in use
behind : (ss : List Entry) (i : ℕ) → length ss ≤ i → get_or ss i free ≡ free
behind [] i h = refl
behind (s ∷ ss) zero h = absurd (not-suc-le-zero h)
behind (s ∷ ss) (suc i) h = behind ss i (le_of_suc-le-suc h)

pub beyond-leaves : (l : List ℕ) (i : ℕ) → capacity ≤ i → MeetsReading (λ s. Points s (status_at s i) None) l
unfolding status_at leaf_status
beyond-leaves l i h = record { meets = λ s w e. sym (ap (leaf_status i) (behind s.entries i (omega (arith, h, w.size)))) }

-- no connection has the name 0
named : (now : ℕ) (c : Connection) → ValidAt now c → c.name ≢ 0
unfolding is_path
named now c v z = omega (arith, z, v.0.assigned (ap is_path z))

module _ (l : List ℕ) (i : ℕ) (h : i < capacity) where
  identity-word : (s : State) → WellFormed s → l ≡ words s → (x : Entry) → get_or s.entries i free ≡ x → get_or l (record_from i + 1) 0 ≡ identity_number x
  identity-word s w e x f = ap (λ (y : List ℕ). get_or y (record_from i + 1) 0) e ∙ identity-at s w.size i h ∙ ap identity_number f

  -- the name in the words of an entry in use
  name_in : (s : State) → WellFormed s → l ≡ words s → (c : Connection) → get_or s.entries i free ≡ taken c → name_of (get_or l (record_from i + 1) 0) ≡ c.name
  name_in s w e c f = ap name_of (identity-word s w e (taken c) f) ∙ name_back c.trm c.rate.params.n c.name (valid-in-use s w i c f).0.coded

  pub free-leaf : name_of (get_or l (record_from i + 1) 0) ≡ 0 → MeetsReading (λ s. Points s (status_at s i) None) l
  unfolding status_at leaf_status
  free-leaf z = record { meets = λ s w e. go s w e (get_or s.entries i free) refl }
    where
      go : (s : State) → WellFormed s → l ≡ words s → (x : Entry) → get_or s.entries i free ≡ x → NothingOpen ≡ leaf_status i x
      go s w e free f = refl
      go s w e (taken c) f = absurd (named s.last c (valid-in-use s w i c f) (sym (name_in s w e c f) ∙ z))

  pub leaf-in-use :
      {p : Place} → name_of (get_or l (record_from i + 1) 0) ≢ 0 → p ≡ own_place l i (name_of (get_or l (record_from i + 1) 0)) → MeetsReading (λ s. Points s (status_at s i) (Some p)) l
  unfolding status_at leaf_status
  leaf-in-use {p} z g = record { meets = λ s w e. go s w e (get_or s.entries i free) refl }
    where
      go : (s : State) → WellFormed s → l ≡ words s → (x : Entry) → get_or s.entries i free ≡ x → Points s (leaf_status i x) (Some p)
      go s w e free f = absurd (z (ap name_of (identity-word s w e free f)))
      go s w e (taken c) f = own-points s w e i _ h c f (ap (λ (n : ℕ). entry_status n i none (taken c)) (name_in s w e c f)) g
