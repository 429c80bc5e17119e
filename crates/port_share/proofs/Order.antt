-- A permutation of the demands leaves their number, their range and every sum, and so the share.
use mathlib.Core.Path.{◌≡◌, refl, ap, ap₂, ◌∙◌}
use mathlib.Core.Bool.{Bool, true, false, ◌&&◌}
use mathlib.Core.List.{List, Permᴰ}
use Prim.Native.Nat.{ℕ, zero, suc, ◌+◌, min}
use native.Mathlib.Omega.{arith}
use lib.Dec.{leb}
use lib.ListN.{length}
use Rattle.rate.specs.Units.{largest_rate}
use Rattle.port_share.specs.Demands.{in_range, plain_sum, cut_sum}
use Rattle.port_share.specs.Share.{greatest_up_to, fair_share}
use Rattle.port_share.specs.Order.{SameInAnyOrder}

record Alike (ds es : List ℕ) : Type 0 where
  lengths : length ds ≡ length es
  ranges : in_range ds ≡ in_range es
  plain : plain_sum ds ≡ plain_sum es
  cut : (s : ℕ) → cut_sum s ds ≡ cut_sum s es

and-swap : (a b c : Bool) → (a && (b && c)) ≡ (b && (a && c))
and-swap true true c = refl
and-swap true false c = refl
and-swap false true c = refl
and-swap false false c = refl

alike : {ds es : List ℕ} → Permᴰ ds es → Alike ds es
unfolding in_range plain_sum cut_sum
alike Permᴰ.nil = record { lengths = refl; ranges = refl; plain = refl; cut = λ s. refl }
alike (Permᴰ.cons e p) =
    let a = alike p in
    record {
      lengths = ap suc a.lengths;
      ranges = ap₂ (λ (d : ℕ) (b : Bool). leb d largest_rate && b) e a.ranges;
      plain = ap₂ (λ (d n : ℕ). d + n) e a.plain;
      cut = λ s. ap₂ (λ (d n : ℕ). min d s + n) e (a.cut s);
    }
alike (Permᴰ.swap {a} {b} {l = ds} e f) = record {
  lengths = refl;
  ranges = and-swap (leb a largest_rate) (leb b largest_rate) (in_range ds) ∙ ap₂ (λ (x y : ℕ). leb x largest_rate && (leb y largest_rate && in_range ds)) f e;
  plain = turned a b (plain_sum ds) ∙ ap₂ (λ (x y : ℕ). x + (y + plain_sum ds)) f e;
  cut = λ s. turned (min a s) (min b s) (cut_sum s ds) ∙ ap₂ (λ (x y : ℕ). min x s + (min y s + cut_sum s ds)) f e;
}
  where
    turned : (a b c : ℕ) → a + (b + c) ≡ b + (a + c)
    turned a b c = omega arith
alike (Permᴰ.trans p q) =
    let a = alike p in
    let b = alike q in
    record { lengths = a.lengths ∙ b.lengths; ranges = a.ranges ∙ b.ranges; plain = a.plain ∙ b.plain; cut = λ s. a.cut s ∙ b.cut s }

greatest-alike : (capacity : ℕ) (ds es : List ℕ) → ((s : ℕ) → cut_sum s ds ≡ cut_sum s es) → (n : ℕ) → greatest_up_to capacity ds n ≡ greatest_up_to capacity es n
unfolding greatest_up_to
greatest-alike capacity ds es e zero = refl
greatest-alike capacity ds es e (suc n) = rw (e (suc n), greatest-alike capacity ds es e n)

pub same-in-any-order : SameInAnyOrder
unfolding fair_share
same-in-any-order capacity ds es p =
    let a = alike p in
    rw (a.lengths, a.ranges, a.plain, greatest-alike capacity ds es a.cut largest_rate)
