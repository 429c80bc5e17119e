-- The words of a path's members are a run: those between two limits.
use Prim.Native.Nat.{ℕ, zero, suc, ◌+◌, ◌-◌, ◌*◌, ◌/◌, ◌%◌, ◌≤◌, ◌<◌}
use mathlib.Core.Path.{◌≡◌, refl, sym, ap, ap₂, ◌∙◌}
use mathlib.Core.Bool.{Bool, true, false, cond, ◌&&◌}
use mathlib.Core.List.{List, [], ◌∷◌, ◌++◌, append-nil, append_assoc}
use native.Mathlib.Omega.{arith}
use lib.Dec.{leb, ltb}
use lib.ListN.{length, replicate, replicate-append-replicate}
use borrow.Author.Tests.{ltb-true, ltb-false, eq-eqb, ne_eqb}
use Rattle.cell.specs.Name.{no_name}
use Rattle.connection_members.specs.Path.{path_of}
use Rattle.connection_members.specs.Members.{Member, member_capacity, on_path, without, without_path}
use Rattle.connection_members.specs.Invariant.{ValidMember, ValidMembers}
use Rattle.laws.specs.All.{All}
use Rattle.connection_members.proofs.Lists.{all_map, without-length}
use Rattle.table.specs.Layout.{members_from, member_word, packed, member_words}
use Rattle.table_column.specs.Descending.{without_run}
use Rattle.table_column.specs.Column.{RemovesRun}
use Rattle.table_column.proofs.Runs.{run-below, run-within, run-above, zeros-stay}
use Rattle.table_members.specs.Place.{word_limit}
use Rattle.table_members.specs.Words.{RemovesPath}
use Rattle.table_members.proofs.Packed.{in-column}

-- a name lies below the names of a path, among them, or above them
pub data Lies (low top y : ℕ) : Type 0 where
  under : y < low → Lies low top y
  among : low ≤ y → y < top → Lies low top y
  over : top ≤ y → low ≤ y → Lies low top y

pub lies : (low top y : ℕ) → low ≤ top → Lies low top y
lies low top y h = go (ltb y low) (ltb y top) refl refl
  where
    go : (a b : Bool) → ltb y low ≡ a → ltb y top ≡ b → Lies low top y
    go true b p q = under (ltb-true y low p)
    go false true p q = among (ltb-false y low p) (ltb-true y top q)
    go false false p q = over (ltb-false y top q) (ltb-false y low p)

-- the names of a path: from the first to the one below the next path's first
abbrev pub first_of : (path : ℕ) → ℕ
first_of v = v / 65536 * 65536

module _ (v y : ℕ) (path : v % 65536 ≡ 6) where
  pub on-path : first_of v ≤ y → y < first_of v + 65536 → on_path v y ≡ true
  on-path h k = eq-eqb (path_of y) v (omega (arith, path))

  pub under-path : y < first_of v → on_path v y ≡ false
  under-path h = ne_eqb (path_of y) v (λ e. omega (arith, e, path, h))

  pub over-path : first_of v + 65536 ≤ y → on_path v y ≡ false
  over-path h = ne_eqb (path_of y) v (λ e. omega (arith, e, path, h))

-- ---- a path's members leave

in-run : (v : ℕ) (m : Member) → v % 65536 ≡ 6 → v < no_name → ValidMember m
    → (leb (word_limit (first_of v + 65536)) (member_word m) && ltb (member_word m) (word_limit (first_of v))) ≡ on_path v m.name
in-run v m p h k = go (lies (first_of v) (first_of v + 65536) m.name (omega arith))
  where
    go : Lies (first_of v) (first_of v + 65536) m.name
        → (leb (word_limit (first_of v + 65536)) (member_word m) && ltb (member_word m) (word_limit (first_of v))) ≡ on_path v m.name
    go (under a) = run-above (member_word m) (word_limit (first_of v)) (word_limit (first_of v + 65536)) (omega (arith, a, h, k.coded)) ∙ sym (under-path v m.name p a)
    go (among a b) =
        run-within (member_word m) (word_limit (first_of v)) (word_limit (first_of v + 65536)) (omega (arith, b, h, k.coded)) (omega (arith, a, h, k.coded, k.stocked))
        ∙ sym (on-path v m.name p a b)
    go (over a b) = run-below (member_word m) (word_limit (first_of v)) (word_limit (first_of v + 65536)) (omega (arith, a, h, k.coded, k.stocked)) ∙ sym (over-path v m.name p a)

zero-last : (k : ℕ) → ◌++◌ {A = ℕ} (replicate k 0) (0 ∷ []) ≡ replicate (suc k) 0
zero-last k = let e : k + 1 ≡ suc k = omega arith in replicate-append-replicate {A = ℕ} k 1 0 ∙ ap (λ (n : ℕ). replicate n 0) e

packed-run :
    (u w : ℕ) (f : ℕ → Bool) → 0 < w → (ms : List Member) → All (λ m. (leb w (member_word m) && ltb (member_word m) u) ≡ f m.name) ms
    → (n k : ℕ) → n + length ms ≡ k + length (without f ms) → without_run u w (packed ms ++ replicate n 0) ≡ packed (without f ms) ++ replicate k 0
unfolding packed without without_run
packed-run u w f p [] h n k e = let q : n ≡ k = omega (arith, e) in zeros-stay u w p n ∙ ap (λ (i : ℕ). replicate i 0) q
packed-run u w f p (m ∷ ms) h n k e = rw h.0 (go (f m.name) k e (packed-run u w f p ms h.1 n))
  where
    go : (b : Bool) (k : ℕ) → n + suc (length ms) ≡ k + length (cond b (without f ms) (m ∷ without f ms))
        → ((k : ℕ) → n + length ms ≡ k + length (without f ms) → without_run u w (packed ms ++ replicate n 0) ≡ packed (without f ms) ++ replicate k 0)
        → cond b (without_run u w (packed ms ++ replicate n 0) ++ (0 ∷ [])) (member_word m ∷ without_run u w (packed ms ++ replicate n 0))
        ≡ packed (cond b (without f ms) (m ∷ without f ms)) ++ replicate k 0
    go true zero e r = absurd (omega (arith, e, without-length f ms))
    go true (suc k) e r =
        ap (λ (l : List ℕ). l ++ (0 ∷ [])) (r k (omega (arith, e))) ∙ append_assoc (packed (without f ms)) (replicate k 0) (0 ∷ [])
        ∙ ap (λ (l : List ℕ). packed (without f ms) ++ l) (zero-last k)
    go false k e r = ap (λ (l : List ℕ). member_word m ∷ l) (r k (omega (arith, e)))

words-run : (v : ℕ) (ms : List Member) → v % 65536 ≡ 6 → v < no_name → ValidMembers ms
    → without_run (word_limit (first_of v)) (word_limit (first_of v + 65536)) (member_words ms) ≡ member_words (without_path v ms)
unfolding member_words
words-run v ms p h k =
    packed-run (word_limit (first_of v)) (word_limit (first_of v + 65536)) (on_path v) (omega (arith, h)) ms
    (all_map ValidMember (λ m. (leb (word_limit (first_of v + 65536)) (member_word m) && ltb (member_word m) (word_limit (first_of v))) ≡ on_path v m.name) (λ m. in-run v m p h) ms k.each)
    (member_capacity - length ms) (member_capacity - length (without_path v ms)) (omega (arith, without-length (on_path v) ms, k.few))

pub path-leaves :
    (l m : List ℕ) (v high low : ℕ) → v % 65536 ≡ 6 → high ≡ word_limit (v / 65536 % 256 * 65536) → low ≡ word_limit (v / 65536 % 256 * 65536 + 65536)
    → RemovesRun members_from member_capacity high low l m → RemovesPath v l m
path-leaves l m v high low p d e r = record {
  is = λ b ms w h.
      let q : v / 65536 % 256 * 65536 ≡ first_of v = omega (arith, h) in
      let f : high ≡ word_limit (first_of v) = d ∙ ap (λ (y : ℕ). word_limit y) q in
      let g : low ≡ word_limit (first_of v + 65536) = e ∙ ap (λ (y : ℕ). word_limit (y + 65536)) q in
      r.is b (member_words ms) [] (in-column l b ms w) (omega (arith, g, h))
      ∙ ap (λ (z : List ℕ). b ++ z) (append-nil _ ∙ ap₂ (λ (y z : ℕ). without_run y z (member_words ms)) f g ∙ words-run v ms p h w.valid);
}

-- ---- a channel has none

without-none : (f : ℕ → Bool) → ((y : ℕ) → f y ≡ false) → (ms : List Member) → without f ms ≡ ms
unfolding without
without-none f h [] = refl
without-none f h (m ∷ ms) = rw (h m.name) (ap (λ (l : List Member). m ∷ l) (without-none f h ms))

pub channel-keeps : (l : List ℕ) (v : ℕ) → (v % 65536 ≡ 6 → ⊥) → RemovesPath v l l
channel-keeps l v p = record {
  is = λ b ms w h. w.is ∙ ap (λ (z : List Member). b ++ member_words z) (sym (without-none (on_path v) (λ y. ne_eqb (path_of y) v (λ e. p (omega (arith, e)))) ms));
}
