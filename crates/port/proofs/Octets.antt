-- A cell's octets up to ER, and the rest.
use mathlib.Core.Path.{◌≡◌}
use mathlib.Core.List.{List, [], ◌∷◌}
use Prim.Native.Nat.{ℕ}
use native.Mathlib.Omega.{arith}
use lib.ListN.{length}

pub data Opened : List ℕ → Type 0 where
  opened : (a b c d e p m x y : ℕ) (r : List ℕ) → length r ≡ 44 → Opened (a ∷ b ∷ c ∷ d ∷ e ∷ p ∷ m ∷ x ∷ y ∷ r)

pub open_up : (o : List ℕ) → length o ≡ 53 → Opened o
open_up [] n = absurd (omega arith)
open_up (a ∷ []) n = absurd (omega arith)
open_up (a ∷ b ∷ []) n = absurd (omega arith)
open_up (a ∷ b ∷ c ∷ []) n = absurd (omega arith)
open_up (a ∷ b ∷ c ∷ d ∷ []) n = absurd (omega arith)
open_up (a ∷ b ∷ c ∷ d ∷ e ∷ []) n = absurd (omega arith)
open_up (a ∷ b ∷ c ∷ d ∷ e ∷ p ∷ []) n = absurd (omega arith)
open_up (a ∷ b ∷ c ∷ d ∷ e ∷ p ∷ m ∷ []) n = absurd (omega arith)
open_up (a ∷ b ∷ c ∷ d ∷ e ∷ p ∷ m ∷ x ∷ []) n = absurd (omega arith)
open_up (a ∷ b ∷ c ∷ d ∷ e ∷ p ∷ m ∷ x ∷ y ∷ r) n = opened a b c d e p m x y r (omega arith)
