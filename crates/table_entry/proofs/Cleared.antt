-- A part of a table's words, overwritten, as a run of stores.
use Prim.Native.Nat.{ℕ, ◌+◌, ◌≤◌}
use mathlib.Core.Path.{◌≡◌, sym, ap, ◌∙◌}
use mathlib.Core.List.{List, ◌++◌}
use native.Mathlib.Omega.{arith}
use lib.ListN.{length, take, drop, replicate, length-drop, length-replicate, take-append-drop}
use lib.Seq.{length-take-le}
use borrow.Rule.Slice.PartMut.{put_mid, mid_of}
use Rattle.laws.specs.Blocks.{put}
use Rattle.laws.proofs.Blocks.{put-mid}

pub put-part : (l v : List ℕ) (b n : ℕ) → b + n ≤ length l → length v ≡ n → put_mid b n l v ≡ put l b v
put-part l v b n k e =
    let p = take b l in
    let q = take n (drop b l) in
    let r = drop n (drop b l) in
    let split : p ++ (q ++ r) ≡ l = ap (λ (m : List ℕ). p ++ m) (take-append-drop n (drop b l)) ∙ take-append-drop b l in
    let front : length p ≡ b = length-take-le b l (omega (arith, k)) in
    let middle : length q ≡ length v = length-take-le n (drop b l) (omega (arith, length-drop b l, k)) ∙ sym e in
    sym (ap (λ (m : List ℕ). put m b v) (sym split) ∙ ap (λ (j : ℕ). put (p ++ (q ++ r)) j v) (sym front) ∙ put-mid p q r v middle)

pub cleared : (l s : List ℕ) (b n w : ℕ) → b + w ≤ length l → n ≡ w → s ≡ replicate (length (mid_of b n l)) 0 → put_mid b n l s ≡ put l b (replicate w 0)
cleared l s b n w k e f =
    let size : length (mid_of b n l) ≡ w = length-take-le n (drop b l) (omega (arith, length-drop b l, k, e)) ∙ e in
    let g : s ≡ replicate w 0 = f ∙ ap (λ (m : ℕ). replicate m 0) size in
    ap (λ (m : ℕ). put_mid b m l s) e ∙ ap (put_mid b w l) g ∙ put-part l (replicate w 0) b w k (length-replicate w 0)
