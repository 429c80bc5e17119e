-- Rates that are held to the share, one for each demand, do not come to more than the capacity. (Document 02, L10.)
use Rattle.std.specs.Prelude.{ℕ, ◌≤◌, ◌≡◌, Some, None, Ok}
use mathlib.Core.List.{List, Forall₂}
use Rattle.port_share.specs.Demands.{plain_sum}
use Rattle.port_share.specs.Share.{fair_share}

-- a rate not above its demand, and not above the share
pub record HeldTo (s d r : ℕ) : Type 0 where
  pub demanded : r ≤ d
  pub limited : r ≤ s

pub record HeldFits : Type 0 where
  pub limited : (capacity : ℕ) (ds rs : List ℕ) (s : ℕ) → fair_share capacity ds ≡ Ok (Some s) → Forall₂ (HeldTo s) ds rs → plain_sum rs ≤ capacity
  -- without a limit the demands alone keep within it
  pub unlimited : (capacity : ℕ) (ds rs : List ℕ) → fair_share capacity ds ≡ Ok None → Forall₂ (λ d r. r ≤ d) ds rs → plain_sum rs ≤ capacity
