-- The winner of a slot is the connection that document 01 chooses ("Slots").
use Rattle.std.specs.Prelude.{Some, None}
use Prim.Native.Nat.{ℕ, ◌≤◌, ◌<◌}
use mathlib.Core.Path.{◌≡◌, refl, sym, subst, ◌∙◌}
use mathlib.Core.Logic.{◌≢◌}
use mathlib.Core.Bool.{Bool, true, false, cond, ◌&&◌, ◌||◌}
use mathlib.Core.List.{List, [], ◌∷◌}
use native.Mathlib.Nat.{le_refl, le_trans}
use native.Mathlib.Omega.{arith}
use lib.Dec.{leb, ltb, eqb}
use borrow.Author.Tests.{leb-true, leb-false, ltb-true, ltb-false, eqb-true, eqb-false}
use Rattle.connection.specs.declared.parts.Connection.{Connection}
use Rattle.connection.specs.Ready.{ready_instant}
use Rattle.connection.specs.Parts.{Instant}
use Rattle.model.specs.State.{Entry, free, taken, find}
use Rattle.model.specs.Invariant.{Absent, NamesUnique}
use Rattle.model.specs.Winner.{Winner, none_ready, wins, candidate_from, candidate, better, winner, Ahead, sooner, tied, Best}
use Rattle.model.proofs.Entries.{each_map, find-hit, find_past, absent-find, taken≢free}

pub ahead-trans : {i v j w k x : ℕ} → Ahead i v j w → Ahead j w k x → Ahead i v k x
ahead-trans (sooner a) (sooner b) = sooner (omega arith)
ahead-trans (sooner a) (tied b c) = sooner (omega arith)
ahead-trans (tied a d) (sooner b) = sooner (omega arith)
ahead-trans (tied a d) (tied b c) = tied (a ∙ b) (le_trans d c)

pub ahead-anti : {i v j w : ℕ} → Ahead i v j w → Ahead j w i v → v ≡ w
ahead-anti (sooner a) (sooner b) = absurd (omega arith)
ahead-anti (sooner a) (tied b c) = absurd (omega arith)
ahead-anti (tied a d) (sooner b) = absurd (omega arith)
ahead-anti (tied a d) (tied b c) = omega arith

pub ahead-instant : {i v j w : ℕ} → Ahead i v j w → i ≤ j
ahead-instant (sooner a) = omega arith
ahead-instant (tied a d) = omega arith

no : ◌≡◌ {A = Bool} false true → ⊥
no e = let z : ◌≡◌ {A = ℕ} 0 1 = cc in omega arith

none≢some : {i : ℕ} → None ≡ Some i → ⊥
none≢some e = let z : ◌≡◌ {A = ℕ} 0 1 = cc in omega arith

some_same : (i j : ℕ) → Some i ≡ Some j → i ≡ j
some_same i j e = cc

late : (t j : ℕ) → t < j → j ≤ t → ⊥
late t j a b = omega arith

-- what is found in the other entries has another name
elsewhere : (d : Connection) (ss : List Entry) (v : ℕ) (c : Connection) → Absent d.name ss → find v ss ≡ taken c → d.name ≢ v
elsewhere d ss v c a f e = taken≢free (sym f ∙ absent-find v ss (subst (λ (u : ℕ). Absent u ss) e a))

-- the test of `better`
abbrev ahead? : ℕ → ℕ → ℕ → ℕ → Bool
ahead? i v j w = ltb i j || (eqb i j && leb v w)

pub ahead-yes : (i v j w : ℕ) → ahead? i v j w ≡ true → Ahead i v j w
ahead-yes i v j w e = go (ltb i j) (eqb i j) (leb v w) refl refl refl e
  where
    go : (a b c : Bool) → ltb i j ≡ a → eqb i j ≡ b → leb v w ≡ c → (a || (b && c)) ≡ true → Ahead i v j w
    go true b c p q r e = sooner (ltb-true i j p)
    go false true true p q r e = tied (eqb-true i j q) (leb-true v w r)
    go false true false p q r e = absurd (no e)
    go false false c p q r e = absurd (no e)

pub ahead-no : (i v j w : ℕ) → ahead? i v j w ≡ false → Ahead j w i v
ahead-no i v j w e = go (ltb i j) (eqb i j) (leb v w) refl refl refl e
  where
    go : (a b c : Bool) → ltb i j ≡ a → eqb i j ≡ b → leb v w ≡ c → (a || (b && c)) ≡ false → Ahead j w i v
    go true b c p q r e = absurd (no (sym e))
    go false true true p q r e = absurd (no (sym e))
    go false true false p q r e = tied (sym (eqb-true i j q)) (omega (arith, leb-false v w r))
    go false false c p q r e = sooner (omega (arith, ltb-false i j p, eqb-false i j q))

-- one entry more, which does not win
pass-free : (t : ℕ) (ss : List Entry) (w : Winner) → Best t ss w → Best t (free ∷ ss) w
pass-free t ss none_ready h = (tt, h)
pass-free t ss (wins i v) h = record {
  holder = h.holder;
  found = find_past v free ss tt ∙ h.found;
  ready_at = h.ready_at;
  due = h.due;
  first = (tt, h.first);
}

pass-late : (t : ℕ) (d : Connection) (ss : List Entry) (w : Winner) → Absent d.name ss → ((j : ℕ) → ready_instant d ≡ Some j → t < j) → Best t ss w → Best t (taken d ∷ ss) w
pass-late t d ss none_ready a l h = (l, h)
pass-late t d ss (wins i v) a l h = record {
  holder = h.holder;
  found = find_past v (taken d) ss (elsewhere d ss v h.holder a h.found) ∙ h.found;
  ready_at = h.ready_at;
  due = h.due;
  first = ((λ j e u. absurd (late t j (l j e) u)), h.first);
}

-- an entry that is ready at i by t, against the best of the others
meet : (t : ℕ) (d : Connection) (ss : List Entry) (i : ℕ) → Absent d.name ss → ready_instant d ≡ Some i → i ≤ t → (w : Winner) → Best t ss w
    → Best t (taken d ∷ ss) (better (wins i d.name) w)
unfolding better
meet t d ss i a e l none_ready h = record {
  holder = d;
  found = find-hit d.name d ss refl;
  ready_at = e;
  due = l;
  first = ((λ j f u. tied (some_same i j (sym e ∙ f)) (le_refl _)), each_map _ _ (λ c k j f u. absurd (late t j (k j f) u)) ss h);
}
meet t d ss i a e l (wins j w) h = go (ahead? i d.name j w) refl
  where
    go : (b : Bool) → ahead? i d.name j w ≡ b → Best t (taken d ∷ ss) (cond b (wins i d.name) (wins j w))
    go true p = record {
      holder = d;
      found = find-hit d.name d ss refl;
      ready_at = e;
      due = l;
      first = ((λ k f u. tied (some_same i k (sym e ∙ f)) (le_refl _)), each_map _ _ (λ c g k f u. ahead-trans (ahead-yes i d.name j w p) (g k f u)) ss h.first);
    }
    go false p = record {
      holder = h.holder;
      found = find_past w (taken d) ss (elsewhere d ss w h.holder a h.found) ∙ h.found;
      ready_at = h.ready_at;
      due = h.due;
      first = ((λ k f u. subst (λ (x : ℕ). Ahead j w x d.name) (some_same i k (sym e ∙ f)) (ahead-no i d.name j w p)), h.first);
    }

enter : (t : ℕ) (d : Connection) (ss : List Entry) (w : Winner) → Absent d.name ss → Best t ss w → (r : Instant) → ready_instant d ≡ r
    → Best t (taken d ∷ ss) (better (candidate_from t d.name r) w)
unfolding candidate_from better
enter t d ss w a h None e = pass-late t d ss w a (λ j f. absurd (none≢some (sym e ∙ f))) h
enter t d ss w a h (Some i) e = go (leb i t) refl
  where
    go : (b : Bool) → leb i t ≡ b → Best t (taken d ∷ ss) (better (cond b (wins i d.name) none_ready) w)
    go true p = meet t d ss i a e (leb-true i t p) w h
    go false p = pass-late t d ss w a (λ j f. subst (λ (x : ℕ). t < x) (some_same i j (sym e ∙ f)) (leb-false i t p)) h

pub winner-best : (t : ℕ) (ss : List Entry) → NamesUnique ss → Best t ss (winner t ss)
unfolding winner candidate better
winner-best t [] a = tt
winner-best t (free ∷ ss) a = pass-free t ss (winner t ss) (winner-best t ss a.1)
winner-best t (taken d ∷ ss) a = enter t d ss (winner t ss) a.0 (winner-best t ss a.1) (ready_instant d) refl
