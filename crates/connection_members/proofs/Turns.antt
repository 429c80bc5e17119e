-- Whose turn it is: a member of the path with data, and there is one exactly if data waits on the path.
use Prim.Native.Nat.{ℕ, ◌+◌, ◌≤◌, ◌<◌}
use mathlib.Core.Path.{◌≡◌, refl, sym, ap, subst, ◌∙◌}
use mathlib.Core.Bool.{Bool, true, false, cond, ◌&&◌, ◌||◌, true≢false}
use mathlib.Core.List.{List, [], ◌∷◌}
use mathlib.Core.Option.{Option, none, some}
use native.Mathlib.Nat.{not-suc-le-zero}
use native.Mathlib.Omega.{arith}
use lib.Dec.{leb, ltb, eqb}
use borrow.Author.Tests.{leb-true, ltb-true, ltb-false, eqb-true, eq-eqb, ne_eqb, le-leb, lt-ltb}
use Rattle.connection_members.specs.Path.{is_path, path_of}
use Rattle.connection_members.specs.Members.{Member, named, on_path, any_where, cells_where, is_member, cells_of, path_cells}
use Rattle.connection_members.specs.Turn.{first_from, or_else, turn}
use Rattle.connection_members.specs.Invariant.{Rising}
use Rattle.connection_members.proofs.Names.{Decided, same, other, compare, path-is-path}
use Rattle.connection_members.proofs.Lists.{all_named, cells-any}

none≢some : {x : ℕ} → ◌≡◌ {A = Option ℕ} none (some x) → ⊥
none≢some e = let z : ◌≡◌ {A = ℕ} 0 1 = cc in omega arith

some_same : (a b : ℕ) → some a ≡ some b → a ≡ b
some_same a b e = cc

-- who is found: a member of the path with data, not below the start
pub record Picks (v low : ℕ) (ms : List Member) (x : ℕ) : Type 0 where
  pub member : is_member x ms ≡ true
  pub path : path_of x ≡ v
  pub from : low ≤ x
  pub some : 0 < cells_of x ms

pub first-picks : (v low : ℕ) (ms : List Member) (x : ℕ) → first_from v low ms ≡ some x → Picks v low ms x
unfolding first_from any_where cells_where
first-picks v low [] x e = absurd (none≢some e)
first-picks v low (m ∷ ms) x e =
    go (on_path v m.name) (leb low m.name) (ltb 0 m.cells) refl refl refl e (first-picks v low ms x)
  where
    or-true : (a : Bool) → (a || true) ≡ true
    or-true true = refl
    or-true false = refl

    later : Picks v low ms x → Picks v low (m ∷ ms) x
    later p = record {
      member = rw p.member (or-true (eqb m.name x));
      path = p.path;
      from = p.from;
      some = omega (arith, p.some);
    }

    this : m.name ≡ x → path_of m.name ≡ v → low ≤ m.name → 0 < m.cells → Picks v low (m ∷ ms) x
    this q a b c = record {
      member = rw (eq-eqb m.name x q);
      path = ap path_of (sym q) ∙ a;
      from = subst (λ (y : ℕ). low ≤ y) q b;
      some = rw (eq-eqb m.name x q) (omega (arith, c));
    }

    go : (a b c : Bool) → on_path v m.name ≡ a → leb low m.name ≡ b → ltb 0 m.cells ≡ c
        → cond (a && (b && c)) (some m.name) (first_from v low ms) ≡ some x → (first_from v low ms ≡ some x → Picks v low ms x) → Picks v low (m ∷ ms) x
    go true true true p q r e k = this (some_same _ _ e) (eqb-true _ _ p) (leb-true _ _ q) (ltb-true _ _ r)
    go true true false p q r e k = later (k e)
    go true false c p q r e k = later (k e)
    go false b c p q r e k = later (k e)

-- of a member with data, not below the start: somebody is found, not above it
pub data Found (low y : ℕ) : Option ℕ → Type 0 where
  found : (x : ℕ) → low ≤ x → x ≤ y → Found low y (some x)

pub first_found : (v low y : ℕ) (ms : List Member) → Rising ms → path_of y ≡ v → low ≤ y → 0 < cells_of y ms → Found low y (first_from v low ms)
unfolding first_from cells_where
first_found v low y [] h e l d = absurd (not-suc-le-zero d)
first_found v low y (m ∷ ms) h e l d = go (compare m.name y) d (first_found v low y ms h.1 e l)
  where
    pick : (t : Bool) → low ≤ m.name → m.name ≤ y → Found low y (first_from v low ms) → Found low y (cond t (some m.name) (first_from v low ms))
    pick true a b f = found m.name a b
    pick false a b f = f

    later : m.name < y → (t u : Bool) → leb low m.name ≡ u → Found low y (first_from v low ms)
        → Found low y (cond (t && (u && ltb 0 m.cells)) (some m.name) (first_from v low ms))
    later b false u q f = f
    later b true false q f = f
    later b true true q f = pick (ltb 0 m.cells) (leb-true _ _ q) (omega arith) f

    go : Decided m.name y → 0 < cond (eqb m.name y) m.cells 0 + cells_of y ms → (0 < cells_of y ms → Found low y (first_from v low ms))
        → Found low y (cond (on_path v m.name && (leb low m.name && ltb 0 m.cells)) (some m.name) (first_from v low ms))
    go (same q) d k =
        rw (eq-eqb (path_of m.name) v (ap path_of q ∙ e), le-leb low m.name (omega arith), lt-ltb 0 m.cells waits)
        (found m.name (omega arith) (omega arith))
      where
        alone : cells_of y ms ≤ 0
        alone = over (ltb 0 (cells_of y ms)) refl
          where
            off : m.name ≡ y → m.name < y → ⊥
            off a b = omega arith

            over : (b : Bool) → ltb 0 (cells_of y ms) ≡ b → cells_of y ms ≤ 0
            over true p = absurd (off q (all_named (λ z. m.name < z) y ms h.0 (cells-any (named y) ms (ltb-true _ _ p))))
            over false p = ltb-false 0 (cells_of y ms) p

        waits : 0 < m.cells
        waits = let z : 0 < m.cells + cells_of y ms = rw (eq-eqb m.name y q) at d in omega (arith, z, alone)
    go (other q) d k =
        let z : 0 < 0 + cells_of y ms = rw (ne_eqb m.name y q) at d in
        let c : 0 < cells_of y ms = omega (arith, z) in
        later (all_named (λ z. m.name < z) y ms h.0 (cells-any (named y) ms c)) (on_path v m.name) (leb low m.name) refl (k c)

-- if anything waits on the path, somebody is found
first_some : (v : ℕ) (ms : List Member) → 0 < path_cells v ms → first_from v 0 ms ≡ none → ⊥
unfolding first_from cells_where
first_some v [] h e = not-suc-le-zero h
first_some v (m ∷ ms) h e =
    go (on_path v m.name) (ltb 0 m.cells) refl h
    (subst (λ (t : Bool). cond (on_path v m.name && (t && ltb 0 m.cells)) (some m.name) (first_from v 0 ms) ≡ none) (le-leb 0 m.name (omega arith)) e)
    (first_some v ms)
  where
    go : (a c : Bool) → ltb 0 m.cells ≡ c → 0 < cond a m.cells 0 + path_cells v ms → cond (a && (true && c)) (some m.name) (first_from v 0 ms) ≡ none
        → (0 < path_cells v ms → first_from v 0 ms ≡ none → ⊥) → ⊥
    go true true q h e k = none≢some (sym e)
    go true false q h e k = k (omega (arith, h, ltb-false 0 m.cells q)) e
    go false c q h e k = k (omega (arith, h)) e

-- ---- turns

-- of the first from some name on, or else the first of all: it is one of them
either-picks : (v low : ℕ) (ms : List Member) (x : ℕ) → or_else (first_from v low ms) (first_from v 0 ms) ≡ some x → Picks v 0 ms x
unfolding or_else
either-picks v low ms x e = go (first_from v low ms) refl e
  where
    go : (o : Option ℕ) → first_from v low ms ≡ o → or_else o (first_from v 0 ms) ≡ some x → Picks v 0 ms x
    go none p e = first-picks v 0 ms x e
    go (some y) p e = let z = first-picks v low ms x (p ∙ e) in record { member = z.member; path = z.path; from = omega arith; some = z.some }

pub turn-picks : (v q : ℕ) (ms : List Member) (x : ℕ) → turn v q ms ≡ some x → Picks v 0 ms x
unfolding turn
turn-picks v q ms x e = either-picks v _ ms x e

-- where data waits on the path it is somebody's turn
either-some : (v : ℕ) (o : Option ℕ) (ms : List Member) → 0 < path_cells v ms → or_else o (first_from v 0 ms) ≡ none → ⊥
unfolding or_else
either-some v none ms h e = first_some v ms h e
either-some v (some y) ms h e = none≢some (sym e)

pub turn-some : (v q : ℕ) (ms : List Member) → 0 < path_cells v ms → turn v q ms ≡ none → ⊥
unfolding turn
turn-some v q ms h e = either-some v _ ms h e

-- a channel has no members
pub turn-none : (v q : ℕ) (ms : List Member) → is_path v ≡ false → turn v q ms ≡ none
turn-none v q ms e = go (turn v q ms) refl
  where
    go : (o : Option ℕ) → turn v q ms ≡ o → o ≡ none
    go none p = refl
    go (some x) p = absurd (true≢false (sym (path-is-path x) ∙ ap is_path (turn-picks v q ms x p).path ∙ e))
