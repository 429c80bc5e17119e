-- Rates that are held to their demands and to the share come to no more than the capacity.
use mathlib.Core.List.{List, Forall₂}
use Prim.Native.Nat.{ℕ, ◌≤◌}
use native.Mathlib.Nat.{le_refl, le_trans}
use native.Mathlib.Omega.{arith}
use Rattle.port_share.specs.Demands.{plain_sum, cut_sum}
use Rattle.port_share.specs.Held.{HeldTo, HeldFits}
use Rattle.port_share.proofs.Greatest.{share-greatest}

held_cut : (s : ℕ) {ds rs : List ℕ} → Forall₂ (HeldTo s) ds rs → plain_sum rs ≤ cut_sum s ds
unfolding plain_sum cut_sum
held_cut s Forall₂.nil = le_refl 0
held_cut s (Forall₂.cons h t) = omega (arith, held_cut s t)

held_plain : {ds rs : List ℕ} → Forall₂ (λ d r. r ≤ d) ds rs → plain_sum rs ≤ plain_sum ds
unfolding plain_sum
held_plain Forall₂.nil = le_refl 0
held_plain (Forall₂.cons h t) = omega (arith, held_plain t)

pub held_fits : HeldFits
held_fits = record {
  limited = λ capacity ds rs s e h. le_trans (held_cut s h) (share-greatest.limited capacity ds s e).1.fits;
  unlimited = λ capacity ds rs e h. le_trans (held_plain h) (share-greatest.unlimited capacity ds e).0;
}
