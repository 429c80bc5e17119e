-- The record of one entry, between the words before it and those behind it: what stands in it is read, and replaced.
use Prim.Native.Nat.{ℕ, zero, suc, ◌+◌, ◌*◌, ◌≤◌, ◌<◌}
use mathlib.Core.Path.{◌≡◌, refl, sym, ap, ◌∙◌}
use mathlib.Core.List.{List, [], ◌∷◌, ◌++◌, append_assoc}
use native.Mathlib.Nat.{zero-add, suc-add, add-suc, not-suc-le-zero, le_of_suc-le-suc}
use native.Mathlib.Omega.{arith}
use lib.ListN.{length, get_or, set, take, drop, length-append, length-set, get_or-append}
use lib.Seq.{sets, set-append_left, set-get_or, get_or-append-add, length-take-le}
use Rattle.laws.specs.Blocks.{flat, put_from, put}
use Rattle.laws.proofs.Blocks.{length-flat, put_from-sets, put-mid}
use Rattle.connection_members.specs.Members.{Member}
use Rattle.model.specs.State.{Entry, free, taken}
use Rattle.table.specs.Layout.{member_words, record_of, records, record_width}

pub record-wide : (x : Entry) → length (record_of x) ≡ record_width
record-wide free = refl
record-wide (taken c) = refl

-- ---- inside a record r, between h and t

set-behind : (h l : List ℕ) (k v : ℕ) → set (h ++ l) (length h + k) v ≡ h ++ set l k v
set-behind [] l k v = ap (λ (n : ℕ). set l n v) (zero-add k)
set-behind (x ∷ h) l k v = ap (λ (n : ℕ). set (x ∷ (h ++ l)) n v) (suc-add (length h) k) ∙ ap (λ (m : List ℕ). x ∷ m) (set-behind h l k v)

module _ (h : List ℕ) (t : List ℕ) where
  set-in : (r : List ℕ) (k v : ℕ) → k < length r → set (h ++ (r ++ t)) (length h + k) v ≡ h ++ (set r k v ++ t)
  set-in r k v l = set-behind h (r ++ t) k v ∙ ap (λ (m : List ℕ). h ++ m) (set-append_left r t k v l)

  sets-in : (r : List ℕ) (k : ℕ) (vs : List ℕ) → k + length vs ≤ length r → sets (h ++ (r ++ t)) (length h + k) vs ≡ h ++ (sets r k vs ++ t)
  sets-in r k [] l = refl
  sets-in r k (v ∷ vs) l =
      ap (λ (m : List ℕ). sets m (suc (length h + k)) vs) (set-in r k v (omega (arith, l)))
      ∙ ap (λ (n : ℕ). sets (h ++ (set r k v ++ t)) n vs) (sym (add-suc (length h) k))
      ∙ sets-in (set r k v) (suc k) vs (omega (arith, l, length-set r k v))

  pub set-inside : (r : List ℕ) (k p v : ℕ) → length h + k ≡ p → k < length r → set (h ++ (r ++ t)) p v ≡ h ++ (set r k v ++ t)
  set-inside r k p v at l = ap (λ (n : ℕ). set (h ++ (r ++ t)) n v) (sym at) ∙ set-in r k v l

  pub get-inside : (r : List ℕ) (k p : ℕ) → length h + k ≡ p → k < length r → get_or (h ++ (r ++ t)) p 0 ≡ get_or r k 0
  get-inside r k p at l = ap (λ (n : ℕ). get_or (h ++ (r ++ t)) n 0) (sym at) ∙ get_or-append-add h (r ++ t) k 0 ∙ get_or-append r t 0 k l

  -- a run of stores from word k of the record on, and over the whole of it
  pub run_inside : (r : List ℕ) (k p : ℕ) (vs : List ℕ) → length h ≡ p → k + length vs ≤ length r → put_from (h ++ (r ++ t)) p k vs ≡ h ++ (put_from r 0 k vs ++ t)
  run_inside r k p vs at l =
      put_from-sets (h ++ (r ++ t)) p k vs ∙ ap (λ (n : ℕ). sets (h ++ (r ++ t)) (n + k) vs) (sym at) ∙ sets-in r k vs l
      ∙ ap (λ (m : List ℕ). h ++ (m ++ t)) (sym (put_from-sets r 0 k vs ∙ ap (λ (n : ℕ). sets r n vs) (zero-add k)))

  pub put-inside : (r : List ℕ) (p : ℕ) (vs : List ℕ) → length h ≡ p → length r ≡ length vs → put (h ++ (r ++ t)) p vs ≡ h ++ (vs ++ t)
  put-inside r p vs at l = ap (λ (n : ℕ). put (h ++ (r ++ t)) n vs) (sym at) ∙ put-mid h r t vs l

-- ---- the record of entry i among all

flat-given : (ss : List Entry) (i : ℕ) (x : Entry) → i < length ss → flat record_of (set ss i x) ≡ flat record_of (take i ss) ++ (record_of x ++ flat record_of (drop (suc i) ss))
flat-given [] i x l = absurd (not-suc-le-zero l)
flat-given (y ∷ ss) zero x l = refl
flat-given (y ∷ ss) (suc i) x l =
    ap (λ (m : List ℕ). record_of y ++ m) (flat-given ss i x (le_of_suc-le-suc l))
    ∙ sym (append_assoc (record_of y) (flat record_of (take i ss)) (record_of x ++ flat record_of (drop (suc i) ss)))

module _ (h : List ℕ) (ss : List Entry) (ms : List Member) (i : ℕ) where
  abbrev pub before_record : List ℕ
  before_record = h ++ flat record_of (take i ss)

  abbrev pub behind_record : List ℕ
  behind_record = flat record_of (drop (suc i) ss) ++ member_words ms

  pub length_before : i ≤ length ss → length before_record ≡ length h + i * record_width
  length_before l =
      length-append h (flat record_of (take i ss))
      ∙ ap (λ (n : ℕ). length h + n) (length-flat record_of record_width record-wide (take i ss) ∙ ap (λ (n : ℕ). n * record_width) (length-take-le i ss l))

  -- entry i is given to x
  pub record-given : (x : Entry) → i < length ss → h ++ records (set ss i x) ms ≡ before_record ++ (record_of x ++ behind_record)
  record-given x l =
      ap (λ (m : List ℕ). h ++ (m ++ member_words ms)) (flat-given ss i x l)
      ∙ regroup (flat record_of (take i ss)) (record_of x) (flat record_of (drop (suc i) ss)) (member_words ms)
    where
      regroup : (a b c d : List ℕ) → h ++ ((a ++ (b ++ c)) ++ d) ≡ (h ++ a) ++ (b ++ (c ++ d))
      regroup a b c d = simp append_assoc

  -- it has this content
  pub record-split : (x : Entry) → get_or ss i free ≡ x → i < length ss → h ++ records ss ms ≡ before_record ++ (record_of x ++ behind_record)
  record-split x e l = ap (λ (rs : List Entry). h ++ records rs ms) (sym (set-get_or ss i free)) ∙ record-given (get_or ss i free) l ∙ ap (λ (y : Entry). before_record ++ (record_of y ++ behind_record)) e
